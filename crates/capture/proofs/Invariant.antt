-- The invariant of a run, and that the sender's calls keep it.
use Rattle.std.proofs.Common.{◌≡◌, ℕ, ◌+◌, ◌≤◌, Bool, true, false, cond, not, T, leb, ◌⊎◌, List, [], ◌∷◌, ◌++◌, map, length, set, ℤ, pos, ◌+ℤ◌, nat_abs, Option, sym, refl, ap, ◌∙◌, subst, inl, inr, ⊎_elim, append_assoc, arith, leb→le}
use borrow.Author.Differences.{ints}
use Rattle.std.proofs.lemmas.List.{map_push}
use Rattle.std.specs.List.{list_all}
use Rattle.lattice.proofs.Tests.{by_cases, cond_true, not_both, not_from}
use Rattle.lattice.specs.Orders.{Order}
use Rattle.frontier.proofs.Beyond.{leq_beyond}
use Rattle.frontier.specs.Counts.{added_all}
use Rattle.frontier.specs.Frontiers.{Antichain, beyond, leq}
use Rattle.capture.specs.Answers.{Answer}
use Rattle.capture.specs.Kinds.{Kinds, Time}
use Rattle.capture.specs.Law.{all_stated}
use Rattle.capture.specs.Messages.{Change, Message, Statement, changes, has, statement}
use Rattle.capture.specs.Posts.{Post, Pump, Pumped}
use Rattle.capture.specs.Readers.{Reader}
use Rattle.capture.specs.Runs.{At, In, World, sent, with_sender}
use Rattle.capture.specs.Sender.{Sender, announced, count_at, counts_with, moved, raised, record_asks, retained, some, told}
use Rattle.capture.specs.Statements.{ready}
use Rattle.capture.proofs.Answering.{AllYes}
use Rattle.capture.proofs.Chains.{Chain, chain_append, chain_link, chain_one}
use Rattle.capture.proofs.Changes.{Once, has_append_cases, has_append_left, has_append_right, many_at, many_at_append, many_length, pass_at, pass_has, size_at_raised, sum_at_raised}
use Rattle.capture.proofs.Counts.{Clean, clean_added_all, size_at, sum_at}
use Rattle.capture.proofs.Laws.{Lawful}
use Rattle.capture.proofs.Lists.{in_along, in_cases, in_left, in_one, map_in}
use Rattle.capture.proofs.Places.{Says}
use Rattle.capture.proofs.ReadersKeep.{Fine, fine_moved, fine_recorded}
use Rattle.capture.proofs.Received.{Told, Valid}
use Rattle.capture.proofs.Tallies.{at_more, at_retained, clean_retained, tally, tally_announced}

module _ {D A R P : Type 0} (o : Post D A R P) where
  -- a pump moves messages from the queue to what was taken
  pub pumped_keeps : {qs : List (Message D A R)} {p : P} {b : Bool} {w : Option ℕ} {ns : List (Message D A R)} {s : P} → Pumped o qs p b w ns s → o.taken s ++ ns ≡ o.taken p ++ qs
  pumped_keeps Pumped.empty = refl
  pumped_keeps (Pumped.waits {m = m} {ms = ms} unready same) = ap (λ l. l ++ m ∷ ms) same
  pumped_keeps (Pumped.takes {m = m} {ms = ms} {p = p} ready more rest) = pumped_keeps rest ∙ ap (λ l. l ++ ms) more ∙ append_assoc (o.taken p) (m ∷ []) ms

  pub pump_keeps : {tables : Bool} {qs : List (Message D A R)} {p : P} {a : Answer (Bool × Option ℕ)} {ns : List (Message D A R)} {s : P} → Pump o tables qs p a ns s → o.taken s ++ ns ≡ o.taken p ++ qs
  pump_keeps (Pump.refuses no_table) = refl
  pump_keeps (Pump.pumps tabled pumped) = pumped_keeps pumped

raised_count : (b : Bool) (a c s : ℤ) (n k m : ℕ) → a ≡ pos (cond b n 0) → c ≡ a +ℤ s → s ≡ pos k → m ≡ n + k → (T (not b) → k ≡ 0) → c ≡ pos (cond b m 0)
raised_count true a c s n k m p q e f g = omega (arith, ints)
raised_count false a c s n k m p q e f g = let z = g tt in omega (arith, ints)

raised_bound : (b : Bool) (a : ℤ) (n k s : ℕ) → a ≡ pos (cond b n 0) → n ≤ 1000000 → k ≤ 64 → s ≡ k → nat_abs a + s ≤ 9223372036854775807
raised_bound true a n k s p h j e = omega (arith, ints)
raised_bound false a n k s p h j e = omega (arith, ints)

kept_count : (u f : Bool) (a c : ℤ) (n : ℕ) → (T u → T f) → a ≡ pos (cond f n 0) → c ≡ cond u a (pos 0) → c ≡ pos (cond u n 0)
kept_count true true a c n k p q = omega (arith, ints)
kept_count true false a c n k p q = absurd (k tt)
kept_count false f a c n k p q = q

told_count : (u f : Bool) (n k : ℕ) → k ≡ cond u 0 (cond f n 0) → k ≡ cond f (cond u 0 n) 0
told_count true true n k e = e
told_count true false n k e = e
told_count false true n k e = e
told_count false false n k e = e

said_again : (l u : Bool) (n n' k : ℕ) → k ≡ cond l (cond u 0 n) 0 → (T (not u) → n' ≡ n) → k ≡ cond l (cond u 0 n') 0
said_again true true n n' k e g = e
said_again true false n n' k e g = let z = g tt in omega arith
said_again false u n n' k e g = e

module _ {D A R P Q : Type 0} (K : Kinds D A R) (p : Post D A R P) (q : Post D A R Q) where
  -- the invariant of a run: rec was recorded, and reader j accepted acc j, gave out out j, and is settled if set j
  pub record Invariant (rec : List (Change D A R)) (acc : ℕ → List (Message D A R)) (out : ℕ → List (Change D A R)) (set : ℕ → Bool) (w : World D A R P Q) : Type 0 where
    -- the sender's statements, from the first on
    pub ss : List (Statement A)
    pub stated : all_stated K p q w ≡ map statement ss
    pub chain : Chain K.time.below (K.time.start ∷ []) ss w.sender.frontier
    pub apart : Antichain K.time.below w.sender.frontier
    pub stands : w.done ≡ false → T (some w.sender.frontier)
    -- the sender's counts are the numbers of changes recorded beyond its frontier, and no number is over a million
    pub clean : Clean K.time.below w.sender.counts
    pub counted : (x : A) → count_at K.time.below w.sender.counts x ≡ pos (cond (beyond K.time.below w.sender.frontier x) (many_at K.time.below x rec) 0)
    pub small : (x : A) → many_at K.time.below x rec ≤ 1000000
    -- each statement says how many changes were recorded, and each message of changes has only recorded ones
    pub says : Says K.time.below (λ x. many_at K.time.below x rec) ss
    pub valid : (m : Message D A R) → In m (p.taken w.changes_post ++ w.sender.queued_changes) → Valid K rec ss m
    pub fine : (j : ℕ) (x : Reader D A R) → At w.readers j x → Fine K rec ss w.sender.frontier (acc j) (out j) (set j) x

module _ {D A R P Q : Type 0} {K : Kinds D A R} (ok : Lawful K) (p : Post D A R P) (q : Post D A R Q) where
  abbrev t : Time A
  t = K.time

  abbrev below : A → A → Bool
  below = t.below

  order : Order below
  order = ok.order

  pub some_beyond : (f : List A) (z : A) → T (beyond below f z) → T (some f)
  some_beyond [] z h = h
  some_beyond (x ∷ f) z h = tt

  pub not_empty_leq : (f : List A) → T (some f) → T (not (leq below [] f))
  not_empty_leq [] h = absurd h
  not_empty_leq (x ∷ f) h = tt

  pub keeps_same : (rec rec' : List (Change D A R)) (acc acc' : ℕ → List (Message D A R)) (out out' : ℕ → List (Change D A R)) (set set' : ℕ → Bool) (w : World D A R P Q) → rec ≡ rec' → ((k : ℕ) → acc k ≡ acc' k) → ((k : ℕ) → out k ≡ out' k) → ((k : ℕ) → set k ≡ set' k) → Invariant K p q rec acc out set w → Invariant K p q rec' acc' out' set' w
  keeps_same rec rec' acc acc' out out' set set' w er ea eo es s =
      subst (λ l. Invariant K p q l acc' out' set' w) er (record {
        ss = s.ss;
        stated = s.stated;
        chain = s.chain;
        apart = s.apart;
        stands = s.stands;
        clean = s.clean;
        counted = s.counted;
        small = s.small;
        says = s.says;
        valid = s.valid;
        fine = λ k x i. subst (λ b. Fine K rec s.ss w.sender.frontier (acc' k) (out' k) b x) (es k) (subst (λ l. Fine K rec s.ss w.sender.frontier (acc' k) l (set k) x) (eo k) (subst (λ l. Fine K rec s.ss w.sender.frontier l (out k) (set k) x) (ea k) (s.fine k x i)));
      })

  valid_more : (rec rec' : List (Change D A R)) (ss ss' : List (Statement A)) → ((c : Change D A R) → T (has K rec c) → T (has K rec' c)) → ((u : Statement A) → In u ss → In u ss') → (m : Message D A R) → Valid K rec ss m → Valid K rec' ss' m
  valid_more rec rec' ss ss' more further (changes cs) v = λ c h. more c (v c h)
  valid_more rec rec' ss ss' more further (statement s) v = further s v

  -- the sender after an accepted record
  abbrev pub after_record : List (Change D A R) → Sender D A R → Sender D A R
  after_record cs s = record { frontier = s.frontier; counts = counts_with K cs s; queued_changes = s.queued_changes ++ changes cs ∷ []; queued_statements = s.queued_statements }

  module _ (rec : List (Change D A R)) (acc : ℕ → List (Message D A R)) (out : ℕ → List (Change D A R)) (set : ℕ → Bool) (w : World D A R P Q) where
    pub tells : Once K rec → (s : Invariant K p q rec acc out set w) → Told K rec s.ss
    tells once s = record { once = once; small = s.small; says = s.says }

    -- what the posts took is the sender's
    pub sent_valid : (s : Invariant K p q rec acc out set w) (m : Message D A R) → In m (sent K p q w) → Valid K rec s.ss m
    sent_valid s m i =
        ⊎_elim
        (λ a. s.valid m (in_left w.sender.queued_changes a))
        (λ b.
        let j = map_in statement m s.ss (in_along s.stated (in_left w.sender.queued_statements b)) in
        subst (λ v. Valid K rec s.ss v) (sym j.1) j.2)
        (in_cases m (p.taken w.changes_post) (q.taken w.statements_post) i)

    pub keeps_record : (tables : Bool) (cs : List (Change D A R)) → AllYes (record_asks K tables cs w.sender) → Invariant K p q rec acc out set w → Invariant K p q (rec ++ cs) acc out set (with_sender w (after_record cs w.sender))
    keeps_record tables cs asked s =
        let snd = w.sender in
        let f = snd.frontier in
        let short : length cs ≤ 64 = leb→le (length cs) 64 asked.1.0 in
        let ahead : T (list_all (λ c. beyond below f c.time) cs) = asked.1.1.0 in
        let few : T (list_all (λ c. leb (told (count_at below (counts_with K cs snd) c.time)) 1000000) cs) = asked.1.1.1.0 in
        let many : (x : A) → many_at below x (rec ++ cs) ≡ many_at below x rec + many_at below x cs = λ x. many_at_append ok x rec cs in
        let none : (x : A) → T (not (beyond below f x)) → many_at below x cs ≡ 0 = λ x h. ⊎_elim (λ z. z) (λ b. absurd (not_both (beyond below f x) h b)) (pass_at ok (λ y. beyond below f y) cs x ahead) in
        let same : (x : A) → T (not (beyond below f x)) → many_at below x (rec ++ cs) ≡ many_at below x rec = λ x h. let a = many x in let b = none x h in omega arith in
        let more : (c : Change D A R) → T (has K rec c) → T (has K (rec ++ cs) c) = λ c h. has_append_left ok rec cs c h in
        let old : (c : Change D A R) → T (has K (rec ++ cs) c) → T (has K rec c) ⊎ T (beyond below f c.time) = λ c h. ⊎_elim (λ a. inl a) (λ b. inr (pass_has ok (λ u. beyond below f u.time) cs c ahead b)) (has_append_cases ok rec cs c h) in
        let bound : (y : A) → nat_abs (count_at below snd.counts y) + size_at below (raised cs) y ≤ 9223372036854775807 = λ y. let l = many_length ok y cs in raised_bound (beyond below f y) (count_at below snd.counts y) (many_at below y rec) (many_at below y cs) (size_at below (raised cs) y) (s.counted y) (s.small y) (omega arith) (size_at_raised ok cs y) in
        let counts : (x : A) → count_at below (added_all below snd.counts (raised cs)) x ≡ pos (cond (beyond below f x) (many_at below x (rec ++ cs)) 0) =
        λ x. raised_count (beyond below f x) (count_at below snd.counts x) (count_at below (added_all below snd.counts (raised cs)) x) (sum_at below (raised cs) x) (many_at below x rec) (many_at below x cs) (many_at below x (rec ++ cs)) (s.counted x) (at_more order snd.counts (raised cs) s.clean bound x) (sum_at_raised ok cs x) (many x) (none x) in
        record {
          ss = s.ss;
          stated = s.stated;
          chain = s.chain;
          apart = s.apart;
          stands = s.stands;
          clean = clean_added_all order snd.counts (raised cs) s.clean;
          counted = counts;
          small = λ x. by_cases (beyond below f x)
              (λ h. ⊎_elim
              (λ z. let a = many x in let b = s.small x in omega arith)
              (λ b.
              let is : told (count_at below (counts_with K cs snd) x) ≡ many_at below x (rec ++ cs) = ap told (counts x ∙ ap pos (cond_true (beyond below f x) (many_at below x (rec ++ cs)) 0 h)) in
              let most = leb→le (told (count_at below (counts_with K cs snd) x)) 1000000 b in
              omega arith)
              (pass_at ok (λ y. leb (told (count_at below (counts_with K cs snd) y)) 1000000) cs x few))
              (λ h. let a = same x h in let b = s.small x in omega arith);
          says = λ u i x. said_again (beyond below u.lower x) (beyond below u.upper x) (many_at below x rec) (many_at below x (rec ++ cs)) (tally below u.counts x) (s.says u i x) (λ h. same x (not_from (beyond below f x) (λ b. not_both (beyond below u.upper x) h (leq_beyond order u.upper f x (chain_link order (t.start ∷ []) s.ss f u s.chain i).to b))));
          valid = λ m i. ⊎_elim (λ a. valid_more rec (rec ++ cs) s.ss s.ss more (λ u k. k) m (s.valid m a)) (λ b. subst (λ v. Valid K (rec ++ cs) s.ss v) (sym (in_one b)) (λ c h. has_append_right ok rec cs c h))
              (in_cases m (p.taken w.changes_post ++ snd.queued_changes) (changes cs ∷ []) (in_along (sym (append_assoc (p.taken w.changes_post) snd.queued_changes (changes cs ∷ []))) i));
          fine = λ k x i. fine_recorded ok rec (rec ++ cs) s.ss f more old same (acc k) (out k) (set k) x (s.fine k x i);
        }

    pub keeps_move : (u : List A) (done : Bool) → T (leq below w.sender.frontier u) → T (not (leq below u w.sender.frontier)) → Antichain below u → (done ≡ false → T (some u)) → Invariant K p q rec acc out set w →
        Invariant K p q rec acc out set (record { sender = moved K u w.sender; done = done; changes_post = w.changes_post; statements_post = w.statements_post; readers = w.readers })
    keeps_move u done on strict apart stands s =
        let snd = w.sender in
        let f = snd.frontier in
        let st : Statement A = record { lower = f; upper = u; counts = announced below u snd.counts } in
        let new : In st s.ss → ⊥ = λ i. not_both (leq below u f) strict (chain_link order (t.start ∷ []) s.ss f st s.chain i).to in
        record {
          ss = s.ss ++ st ∷ [];
          stated = sym (append_assoc (q.taken w.statements_post) snd.queued_statements (statement st ∷ [])) ∙ ap (λ l. l ++ statement st ∷ []) s.stated ∙ sym (map_push statement s.ss st);
          chain = chain_append order (t.start ∷ []) s.ss (st ∷ []) f u s.chain (chain_one order st on strict);
          apart = apart;
          stands = stands;
          clean = clean_retained order u snd.counts s.clean;
          counted = λ x. kept_count (beyond below u x) (beyond below f x) (count_at below snd.counts x) (count_at below (retained below u snd.counts) x) (many_at below x rec) (λ h. leq_beyond order f u x on h) (s.counted x) (at_retained order u snd.counts x);
          small = s.small;
          says = λ v i x. ⊎_elim (λ a. s.says v a x)
              (λ b. subst (λ y. tally below y.counts x ≡ cond (beyond below y.lower x) (cond (beyond below y.upper x) 0 (many_at below x rec)) 0) (sym (in_one b))
              (told_count (beyond below u x) (beyond below f x) (many_at below x rec) (tally below (announced below u snd.counts) x) (tally_announced order u snd.counts x (cond (beyond below f x) (many_at below x rec) 0) s.clean (s.counted x))))
              (in_cases v s.ss (st ∷ []) i);
          valid = λ m i. valid_more rec rec s.ss (s.ss ++ st ∷ []) (λ c h. h) (λ v h. in_left (st ∷ []) h) m (s.valid m i);
          fine = λ k x i. fine_moved ok rec s.ss st on strict new (acc k) (out k) (set k) x (s.fine k x i);
        }
