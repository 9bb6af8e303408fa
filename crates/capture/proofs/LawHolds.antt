-- Every call keeps the invariant of a run, and the law follows from it.
use Rattle.std.proofs.Common.{◌≡◌, ℕ, Bool, true, false, cond, not, ◌&&◌, T, eqb, List, [], ◌∷◌, ◌++◌, map, pos, sym, refl, ap, ◌∙◌, subst, ⊎_elim, append-nil, arith}
use Rattle.std.proofs.lemmas.Bool.{eq-eqb, ne_eqb, true≢false}
use Rattle.lattice.proofs.Tests.{T_along, T_back, and_left, and_right, not_both, not_from, or_left}
use Rattle.lattice.specs.Orders.{Order}
use Rattle.frontier.proofs.Antichains.{antichain_inserted_all, antichain_none, antichain_one}
use Rattle.frontier.proofs.Beyond.{below_refl, beyond_inserted_all, leq_beyond, leq_from, leq_refl}
use Rattle.frontier.specs.Frontiers.{Antichain, beyond, leq}
use Rattle.capture.specs.Answers.{brings, is_accepted, refused}
use Rattle.capture.specs.Held.{Held, feed}
use Rattle.capture.specs.Kinds.{Kinds, Time}
use Rattle.capture.specs.Law.{Given, Law, Promises, all_accepted, all_recorded, counts_in, gifts_of, given_out, interval_changes, is_settled, messages_of, records_of}
use Rattle.capture.specs.Messages.{Change, Message, Statement, changes, statement}
use Rattle.capture.specs.Posts.{Post, post}
use Rattle.capture.specs.Prompt.{Prompt, heed, note, settle, sift}
use Rattle.capture.specs.Readers.{Reader, away, fresh_reader, held, prompt, put_away, stands_at}
use Rattle.capture.specs.Runs.{At, Call, In, Run, Step, Turned, World, changes_pumped, closed, fed, finished, finishing, heeded, noted, put, recorded, sent, settled, sifted, statements_pumped, with_posts, with_readers, with_sender}
use Rattle.capture.specs.Sender.{close, close_asks, finish, finish_asks, fresh_sender, moved, record_asks, record_changes, reduced, some}
use Rattle.capture.proofs.Answering.{answer_cases}
use Rattle.capture.proofs.Changes.{Once, once_left, one_each_once}
use Rattle.capture.proofs.HeldKeeps.{held_feeds, held_onward}
use Rattle.capture.proofs.Invariant.{Invariant, after_record, keeps_move, keeps_record, keeps_same, not_empty_leq, pump_keeps, sent_valid, some_beyond, tells}
use Rattle.capture.proofs.Laws.{Lawful}
use Rattle.capture.proofs.Lists.{at_same, in_along, in_map, in_none, in_same, map_in, turned_at, turned_cases}
use Rattle.capture.proofs.PromptKeeps.{heed_still, note_still, prompt_heeds, prompt_notes, prompt_settles, prompt_sifts, settle_onward, sift_still}
use Rattle.capture.proofs.ReadersKeep.{Fine, fine_put_away, held_begins, prompt_begins, put_away_still}
use Rattle.capture.proofs.Received.{Told, Valid}
use Rattle.capture.proofs.Standings.{Stand, fine_behind, held_given, held_stands, level_from, level_to, prompt_given, prompt_stands, stands_agree}

zero_here : (b : Bool) → pos 0 ≡ pos (cond b 0 0)
zero_here true = refl
zero_here false = refl

-- what a call of reader i adds is added for i, and for no other reader
pub pick_here : {X : Type 0} (i : ℕ) (x y : X) → cond (eqb i i) x y ≡ x
pick_here i x y = ap (λ b. cond b x y) (eq-eqb i i refl)

pub pick_there : {X : Type 0} (i j : ℕ) (x y : X) → (j ≡ i → ⊥) → cond (eqb i j) x y ≡ y
pick_there i j x y n = ap (λ b. cond b x y) (ne_eqb i j (λ e. n (sym e)))

more_here : {X : Type 0} (i : ℕ) (xs ys : List X) → xs ++ ys ≡ xs ++ cond (eqb i i) ys []
more_here i xs ys = ap (λ l. xs ++ l) (sym (pick_here i ys []))

more_there : {X : Type 0} (i j : ℕ) (xs ys : List X) → (j ≡ i → ⊥) → xs ≡ xs ++ cond (eqb i j) ys []
more_there i j xs ys n = sym (ap (λ l. xs ++ l) (pick_there i j ys [] n) ∙ append-nil xs)

none_more : {X : Type 0} (xs : List X) → xs ≡ xs ++ []
none_more xs = sym (append-nil xs)

module _ {D A R P Q : Type 0} {K : Kinds D A R} (ok : Lawful K) (p : Post D A R P) (q : Post D A R Q) where
  abbrev t : Time A
  t = K.time

  abbrev below : A → A → Bool
  below = t.below

  order : Order below
  order = ok.order

  -- the invariant, of a list of calls
  abbrev Kept : List (Call D A R) → World D A R P Q → Type 0
  Kept ks w = Invariant K p q (all_recorded ks) (λ j. all_accepted j ks) (λ j. given_out j ks) (λ j. is_settled j ks) w

  -- what the invariant asks of a reader, of a list of calls
  abbrev FineBy : List (Call D A R) → List (Change D A R) → List (Statement A) → List A → ℕ → Reader D A R → Type 0
  FineBy ks rec ss top j x = Fine K rec ss top (all_accepted j ks) (given_out j ks) (is_settled j ks) x

  -- ---- the beginning

  fresh_fine : (sorts : List Bool) (j : ℕ) (x : Reader D A R) → At (map (fresh_reader K) sorts) j x → Fine K [] [] (t.start ∷ []) [] [] true x
  fresh_fine [] j x a = elim a [ ]
  fresh_fine (true ∷ sorts) j x At.here = held_begins ok
  fresh_fine (true ∷ sorts) j x (At.there {i = i} a) = fresh_fine sorts i x a
  fresh_fine (false ∷ sorts) j x At.here = prompt_begins ok
  fresh_fine (false ∷ sorts) j x (At.there {i = i} a) = fresh_fine sorts i x a

  begins : (sorts : List Bool) (a : P) (b : Q) → p.taken a ≡ [] → q.taken b ≡ [] → Kept [] (record { sender = fresh_sender K; done = false; changes_post = a; statements_post = b; readers = map (fresh_reader K) sorts })
  begins sorts a b ea eb =
      record {
        ss = [];
        stated = ap (λ l. l ++ []) eb;
        chain = refl;
        apart = antichain_one order t.start;
        stands = λ _. tt;
        clean = tt;
        counted = λ x. zero_here (beyond below (t.start ∷ []) x);
        small = λ x. omega arith;
        says = λ s i x. absurd (in_none i);
        valid = λ m i. absurd (in_none (in_along (ap (λ l. l ++ []) ea) i));
        fine = λ j x i. fresh_fine sorts j x i;
      }

  -- ---- calls of the sender, which add nothing to what readers accepted and gave out

  module _ (ks : List (Call D A R)) where
    quiet : (rec : List (Change D A R)) (w : World D A R P Q) → Invariant K p q rec (λ j. all_accepted j ks) (λ j. given_out j ks) (λ j. is_settled j ks) w → Invariant K p q rec (λ j. all_accepted j ks ++ []) (λ j. given_out j ks ++ []) (λ j. is_settled j ks) w
    quiet rec w s =
        keeps_same ok p q rec rec (λ j. all_accepted j ks) (λ j. all_accepted j ks ++ []) (λ j. given_out j ks) (λ j. given_out j ks ++ []) (λ j. is_settled j ks) (λ j. is_settled j ks) w
        refl (λ j. none_more (all_accepted j ks)) (λ j. none_more (given_out j ks)) (λ j. refl) s

    -- and recorded nothing
    silent : (w : World D A R P Q) → Kept ks w → Invariant K p q (all_recorded ks ++ []) (λ j. all_accepted j ks ++ []) (λ j. given_out j ks ++ []) (λ j. is_settled j ks) w
    silent w s = subst (λ l. Invariant K p q l (λ j. all_accepted j ks ++ []) (λ j. given_out j ks ++ []) (λ j. is_settled j ks) w) (none_more (all_recorded ks)) (quiet (all_recorded ks) w s)

  some_kept : (l : List A) → T (some l) → T (some (reduced K l))
  some_kept [] h = absurd h
  some_kept (x ∷ l) h = some_beyond ok p q (reduced K (x ∷ l)) x (T_back (beyond below (reduced K (x ∷ l)) x) (beyond below (x ∷ l) x) (beyond_inserted_all order [] (x ∷ l) x) (or_left (below x x) (beyond below l x) (below_refl order x)))

  -- the same reader, with what it accepted, gave out and whether it is settled said in other words
  restate : (rec : List (Change D A R)) (ss : List (Statement A)) (top : List A) {ms ms' : List (Message D A R)} {out out' : List (Change D A R)} {set set' : Bool} (x : Reader D A R) → ms ≡ ms' → out ≡ out' → set ≡ set' → Fine K rec ss top ms out set x → Fine K rec ss top ms' out' set' x
  restate rec ss top {ms} {ms'} {out} {out'} {set} {set'} x em eo es f = subst (λ b. Fine K rec ss top ms' out' b x) es (subst (λ l. Fine K rec ss top ms' l set x) eo (subst (λ l. Fine K rec ss top l out set x) em f))

  -- after the calls ks, which led to the world w
  module _ (ks : List (Call D A R)) (w : World D A R P Q) (s : Kept ks w) where
    abbrev rec : List (Change D A R)
    rec = all_recorded ks

    abbrev top : List A
    top = w.sender.frontier

    records_by : (tables : Bool) (cs : List (Change D A R)) → Kept (recorded cs (record_changes K tables cs w.sender).0 ∷ ks) (with_sender w (record_changes K tables cs w.sender).1)
    records_by tables cs =
        answer_cases (λ a. Kept (recorded cs a.0 ∷ ks) (with_sender w a.1)) (record_asks K tables cs w.sender) w.sender (tt, after_record ok p q cs w.sender)
        (λ n. silent ks w s)
        (λ yes. quiet ks (rec ++ cs) (with_sender w (after_record ok p q cs w.sender)) (keeps_record ok p q rec (λ j. all_accepted j ks) (λ j. given_out j ks) (λ j. is_settled j ks) w tables cs yes s))

    moves : (u : List A) (done : Bool) → T (leq below top u) → T (not (leq below u top)) → Antichain below u → (done ≡ false → T (some u)) →
        Invariant K p q (rec ++ []) (λ j. all_accepted j ks ++ []) (λ j. given_out j ks ++ []) (λ j. is_settled j ks) (record { sender = moved K u w.sender; done = done; changes_post = w.changes_post; statements_post = w.statements_post; readers = w.readers })
    moves u done on strict apart stands =
        silent ks (record { sender = moved K u w.sender; done = done; changes_post = w.changes_post; statements_post = w.statements_post; readers = w.readers })
        (keeps_move ok p q rec (λ j. all_accepted j ks) (λ j. given_out j ks) (λ j. is_settled j ks) w u done on strict apart stands s)

    closes_by : (tables : Bool) (l : List A) → Kept (closed l (close K tables l w.sender).0 ∷ ks) (with_sender w (close K tables l w.sender).1)
    closes_by tables l =
        answer_cases (λ a. Kept (closed l a.0 ∷ ks) (with_sender w a.1)) (close_asks K tables l w.sender) w.sender (tt, moved K (reduced K l) w.sender)
        (λ n. silent ks w s)
        (λ yes.
        let u = reduced K l in
        let advances = leq below top l && not (leq below l top) in
        let ahead : T advances = and_right (some l) advances yes.1.0 in
        let same : (z : A) → beyond below u z ≡ beyond below l z = λ z. beyond_inserted_all order [] l z in
        let on : T (leq below top u) = leq_from order top u (λ z h. leq_beyond order top l z (and_left (leq below top l) (not (leq below l top)) ahead) (T_along (beyond below u z) (beyond below l z) (same z) h)) in
        let strict : T (not (leq below u top)) = not_from (leq below u top) (λ h. not_both (leq below l top) (and_right (leq below top l) (not (leq below l top)) ahead) (leq_from order l top (λ z k. T_along (beyond below u z) (beyond below l z) (same z) (leq_beyond order u top z h k)))) in
        moves u w.done on strict (antichain_inserted_all order [] l (antichain_none order)) (λ _. some_kept l (and_left (some l) advances yes.1.0)))

    -- the invariant says of `done` only that a sender that is not finished has a frontier
    finishes_by : (tables : Bool) → w.done ≡ false → Kept (finished (finish K tables w.sender).0 ∷ ks) (finishing w (finish K tables w.sender))
    finishes_by tables going =
        answer_cases (λ a. Kept (finished a.0 ∷ ks) (finishing w a)) (finish_asks K tables w.sender) w.sender (tt, moved K [] w.sender)
        (λ n. silent ks (finishing w (refused n, w.sender)) (record { ss = s.ss; stated = s.stated; chain = s.chain; apart = s.apart; stands = λ _. s.stands going; clean = s.clean; counted = s.counted; small = s.small; says = s.says; valid = s.valid; fine = s.fine }))
        (λ yes. moves [] true tt (not_empty_leq ok p q top (s.stands going)) (antichain_none order) (λ e. absurd (true≢false e)))

    pumps_changes_by : (ms : List (Message D A R)) (post : P) → p.taken post ++ ms ≡ p.taken w.changes_post ++ w.sender.queued_changes → Kept ks (changes_pumped w ms post)
    pumps_changes_by ms post e =
        record { ss = s.ss; stated = s.stated; chain = s.chain; apart = s.apart; stands = s.stands; clean = s.clean; counted = s.counted; small = s.small; says = s.says; valid = λ m i. s.valid m (in_along e i); fine = s.fine }

    pumps_statements_by : (ms : List (Message D A R)) (post : Q) → q.taken post ++ ms ≡ q.taken w.statements_post ++ w.sender.queued_statements → Kept ks (statements_pumped w ms post)
    pumps_statements_by ms post e =
        record { ss = s.ss; stated = e ∙ s.stated; chain = s.chain; apart = s.apart; stands = s.stands; clean = s.clean; counted = s.counted; small = s.small; says = s.says; valid = s.valid; fine = s.fine }

    meanwhile_by : (a : P) (b : Q) → p.taken a ≡ p.taken w.changes_post → q.taken b ≡ q.taken w.statements_post → Kept ks (with_posts w a b)
    meanwhile_by a b ea eb =
        record {
          ss = s.ss;
          stated = ap (λ l. l ++ w.sender.queued_statements) eb ∙ s.stated;
          chain = s.chain;
          apart = s.apart;
          stands = s.stands;
          clean = s.clean;
          counted = s.counted;
          small = s.small;
          says = s.says;
          valid = λ m i. s.valid m (in_along (ap (λ l. l ++ w.sender.queued_changes) ea) i);
          fine = s.fine;
        }

    -- ---- calls of reader i, which leave the sender and the other readers

    reads : (c : Call D A R) (i : ℕ) (x y : Reader D A R) (rs : List (Reader D A R)) → Turned w.readers i x y rs → records_of c ≡ [] →
        ((j : ℕ) → (j ≡ i → ⊥) → all_accepted j ks ≡ all_accepted j (c ∷ ks)) → ((j : ℕ) → (j ≡ i → ⊥) → given_out j ks ≡ given_out j (c ∷ ks)) → ((j : ℕ) → (j ≡ i → ⊥) → is_settled j ks ≡ is_settled j (c ∷ ks)) →
        (FineBy ks rec s.ss top i x → FineBy (c ∷ ks) rec s.ss top i y) → Kept (c ∷ ks) (with_readers w rs)
    reads c i x y rs τ er ea eo es here =
        subst (λ l. Invariant K p q l (λ j. all_accepted j (c ∷ ks)) (λ j. given_out j (c ∷ ks)) (λ j. is_settled j (c ∷ ks)) (with_readers w rs)) (none_more rec ∙ ap (λ l. rec ++ l) (sym er))
        (record {
          ss = s.ss;
          stated = s.stated;
          chain = s.chain;
          apart = s.apart;
          stands = s.stands;
          clean = s.clean;
          counted = s.counted;
          small = s.small;
          says = s.says;
          valid = s.valid;
          fine = λ j z a. ⊎_elim
              (λ h. subst (λ v. FineBy (c ∷ ks) rec s.ss top j v) (sym h.1) (subst (λ n. FineBy (c ∷ ks) rec s.ss top n y) (sym h.0) (here (s.fine i x (turned_at τ)))))
              (λ h. restate rec s.ss top z (ea j h.0) (eo j h.0) (es j h.0) (s.fine j z h.1))
              (turned_cases j z τ a);
        })

    told_by : Once K rec → Told K rec s.ss
    told_by once = tells ok p q rec (λ j. all_accepted j ks) (λ j. given_out j ks) (λ j. is_settled j ks) w once s

    came : (m : Message D A R) → In m (sent K p q w) → Valid K rec s.ss m
    came m i = sent_valid ok p q rec (λ j. all_accepted j ks) (λ j. given_out j ks) (λ j. is_settled j ks) w s m i

    feeds_by : (tables : Bool) (i : ℕ) (m : Message D A R) (h : Held D A R) (rs : List (Reader D A R)) → In m (sent K p q w) → Turned w.readers i (held h) (held (feed K tables m h).1) rs → Once K rec → Kept (fed i m (feed K tables m h).0 ∷ ks) (with_readers w rs)
    feeds_by tables i m h rs member τ once =
        let a = (feed K tables m h).0 in
        let y = held (feed K tables m h).1 in
        let took = brings a (λ _. m ∷ []) in
        let gave = brings a interval_changes in
        reads (fed i m a) i (held h) y rs τ refl (λ j n. more_there i j (all_accepted j ks) took n) (λ j n. more_there i j (given_out j ks) gave n) (λ j n. refl)
        (λ f. restate rec s.ss top {set = is_settled i ks} y (more_here i (all_accepted i ks) took) (more_here i (given_out i ks) gave) refl (held_feeds ok rec s.ss top (told_by once) tables (all_accepted i ks) (given_out i ks) m h (came m member) f))

    sifts_by : (tables : Bool) (i : ℕ) (cs : List (Change D A R)) (h : Prompt D A R) (rs : List (Reader D A R)) → In (changes cs) (sent K p q w) → Turned w.readers i (prompt h) (prompt (sift K tables cs h).1) rs → Once K rec → Kept (sifted i cs (sift K tables cs h).0 ∷ ks) (with_readers w rs)
    sifts_by tables i cs h rs member τ once =
        let a = (sift K tables cs h).0 in
        let y = prompt (sift K tables cs h).1 in
        let took = brings a (λ _. changes cs ∷ []) in
        let gave = brings a (λ new. new) in
        let set : ℕ → Bool = λ j. cond (is_accepted a) false (is_settled j ks) in
        reads (sifted i cs a) i (prompt h) y rs τ refl (λ j n. more_there i j (all_accepted j ks) took n) (λ j n. more_there i j (given_out j ks) gave n) (λ j n. sym (pick_there i j (set j) (is_settled j ks) n))
        (λ f. restate rec s.ss top y (more_here i (all_accepted i ks) took) (more_here i (given_out i ks) gave) (sym (pick_here i (set i) (is_settled i ks))) (prompt_sifts ok rec s.ss top (told_by once) tables (all_accepted i ks) (given_out i ks) (is_settled i ks) cs h (came (changes cs) member) f))

    notes_by : (tables : Bool) (i : ℕ) (u : Statement A) (h : Prompt D A R) (rs : List (Reader D A R)) → In (statement u) (sent K p q w) → Turned w.readers i (prompt h) (prompt (note K tables u h).1) rs → Once K rec → Kept (noted i u (note K tables u h).0 ∷ ks) (with_readers w rs)
    notes_by tables i u h rs member τ once =
        let a = (note K tables u h).0 in
        let y = prompt (note K tables u h).1 in
        let took = brings a (λ _. statement u ∷ []) in
        let set : ℕ → Bool = λ j. cond (is_accepted a) false (is_settled j ks) in
        reads (noted i u a) i (prompt h) y rs τ refl (λ j n. more_there i j (all_accepted j ks) took n) (λ j n. none_more (given_out j ks)) (λ j n. sym (pick_there i j (set j) (is_settled j ks) n))
        (λ f. restate rec s.ss top y (more_here i (all_accepted i ks) took) (none_more (given_out i ks)) (sym (pick_here i (set i) (is_settled i ks))) (prompt_notes ok rec s.ss top (told_by once) tables (all_accepted i ks) (given_out i ks) (is_settled i ks) u h (came (statement u) member) f))

    settles_by : (tables : Bool) (i : ℕ) (h : Prompt D A R) (rs : List (Reader D A R)) → Turned w.readers i (prompt h) (prompt (settle K tables h).1) rs → Once K rec → Kept (settled i (settle K tables h).0 ∷ ks) (with_readers w rs)
    settles_by tables i h rs τ once =
        let a = (settle K tables h).0 in
        let y = prompt (settle K tables h).1 in
        let set : ℕ → Bool = λ j. cond (is_accepted a) true (is_settled j ks) in
        reads (settled i a) i (prompt h) y rs τ refl (λ j n. none_more (all_accepted j ks)) (λ j n. none_more (given_out j ks)) (λ j n. sym (pick_there i j (set j) (is_settled j ks) n))
        (λ f. restate rec s.ss top y (none_more (all_accepted i ks)) (none_more (given_out i ks)) (sym (pick_here i (set i) (is_settled i ks))) (prompt_settles ok rec s.ss top (told_by once) tables (all_accepted i ks) (given_out i ks) (is_settled i ks) h f))

    -- heed and putting away give out and accept nothing
    turns : (c : Call D A R) (i : ℕ) (x y : Reader D A R) (rs : List (Reader D A R)) → Turned w.readers i x y rs → records_of c ≡ [] → ((j : ℕ) → messages_of j c ≡ []) → ((j : ℕ) → gifts_of j c ≡ []) → ((j : ℕ) → is_settled j ks ≡ is_settled j (c ∷ ks)) →
        (FineBy ks rec s.ss top i x → FineBy ks rec s.ss top i y) → Kept (c ∷ ks) (with_readers w rs)
    turns c i x y rs τ er em eg es here =
        let same : (j : ℕ) → all_accepted j ks ≡ all_accepted j (c ∷ ks) = λ j. none_more (all_accepted j ks) ∙ ap (λ l. all_accepted j ks ++ l) (sym (em j)) in
        let gave : (j : ℕ) → given_out j ks ≡ given_out j (c ∷ ks) = λ j. none_more (given_out j ks) ∙ ap (λ l. given_out j ks ++ l) (sym (eg j)) in
        reads c i x y rs τ er (λ j n. same j) (λ j n. gave j) (λ j n. es j) (λ f. restate rec s.ss top y (same i) (gave i) (es i) (here f))

    -- ---- the law from the invariant

    given_of : (j : ℕ) (x : Reader D A R) → FineBy ks rec s.ss top j x → Given K ks j x
    given_of j (held h) f = held_given ok rec s.ss top (all_accepted j ks) (given_out j ks) h f
    given_of j (prompt h) f = prompt_given ok rec s.ss top (all_accepted j ks) (given_out j ks) (is_settled j ks) h f
    given_of j (away h) f = prompt_given ok rec s.ss top (all_accepted j ks) (given_out j ks) (is_settled j ks) h f

    stand_of : Once K rec → (j : ℕ) (x : Reader D A R) → T (counts_in j ks x) → FineBy ks rec s.ss top j x → Stand K rec s.ss top (all_accepted j ks) (stands_at x)
    stand_of once j (held h) c f = held_stands ok rec s.ss top (told_by once) (all_accepted j ks) (given_out j ks) h f
    stand_of once j (prompt h) c f = prompt_stands ok rec s.ss top (told_by once) (all_accepted j ks) (given_out j ks) (is_settled j ks) h c f
    stand_of once j (away h) c f = prompt_stands ok rec s.ss top (told_by once) (all_accepted j ks) (given_out j ks) (is_settled j ks) h c f

    promised : Once K rec → Promises K p q ks w
    promised once =
        record {
          given = λ j x a. given_of j x (s.fine j x a);
          agree = λ i j x y a b cx cy same.
              stands_agree ok rec s.ss top (all_accepted i ks) (all_accepted j ks) (stands_at x) (stands_at y) (λ m h. (same m).0 h) (λ m h. (same m).1 h) (stand_of once i x cx (s.fine i x a)) (stand_of once j y cy (s.fine j y b));
          behind_sender = λ j x a. fine_behind ok rec s.ss top (all_accepted j ks) (given_out j ks) (is_settled j ks) x (s.fine j x a);
          level = λ j x a c none gone.
              let st = stand_of once j x c (s.fine j x a) in (
                λ e.
                    let l = level_to ok rec s.ss top (all_accepted j ks) (stands_at x) st e in
                    (λ m i. let n = map_in statement m s.ss (in_along s.stated i) in in_same (sym n.1) (l.0 n.0 n.2), l.1),
                λ g. level_from ok rec s.ss top (all_accepted j ks) (stands_at x) s.apart st (λ u i. g.0 (statement u) (in_along (sym s.stated) (in_map statement i)), g.1),
              );
        }

  -- ---- every step, and every run

  step_keeps : {v : World D A R P Q} {c : Call D A R} {w : World D A R P Q} (ks : List (Call D A R)) → Step K p q v c w → Once K (all_recorded ks) → Kept ks v → Kept (c ∷ ks) w
  step_keeps ks (Step.records {w = v} tables {cs = cs} going) once s = records_by ks v s tables cs
  step_keeps ks (Step.closes {w = v} tables {l = l} going) once s = closes_by ks v s tables l
  step_keeps ks (Step.finishes {w = v} tables going) once s = finishes_by ks v s tables going
  step_keeps ks (Step.pumps_changes {w = v} tables {ms = ms} {post = post} pumped) once s = silent ks (changes_pumped v ms post) (pumps_changes_by ks v s ms post (pump_keeps p pumped))
  step_keeps ks (Step.pumps_statements {w = v} tables {ms = ms} {post = post} pumped) once s = silent ks (statements_pumped v ms post) (pumps_statements_by ks v s ms post (pump_keeps q pumped))
  step_keeps ks (Step.feeds {w = v} tables {i = i} {m = m} {h = h} {rs = rs} member τ) once s = feeds_by ks v s tables i m h rs member τ once
  step_keeps ks (Step.sifts {w = v} tables {i = i} {cs = cs} {h = h} {rs = rs} member τ) once s = sifts_by ks v s tables i cs h rs member τ once
  step_keeps ks (Step.notes {w = v} tables {i = i} {s = u} {h = h} {rs = rs} member τ) once s = notes_by ks v s tables i u h rs member τ once
  step_keeps ks (Step.settles {w = v} tables {i = i} {h = h} {rs = rs} τ) once s = settles_by ks v s tables i h rs τ once
  step_keeps ks (Step.heeds {w = v} tables {i = i} {h = h} {rs = rs} τ) once s =
      turns ks v s (heeded i (heed K tables h).0) i (prompt h) (prompt (heed K tables h).1) rs τ refl (λ j. refl) (λ j. refl) (λ j. refl)
      (λ f. prompt_heeds ok (all_recorded ks) s.ss v.sender.frontier (told_by ks v s once) tables (all_accepted i ks) (given_out i ks) (is_settled i ks) h f)
  step_keeps ks (Step.puts_away {w = v} tables {i = i} {h = h} {rs = rs} τ) once s =
      turns ks v s (put i (put_away tables h).0) i (prompt h) (put_away tables h).1 rs τ refl (λ j. refl) (λ j. refl) (λ j. refl)
      (λ f. fine_put_away ok tables (all_recorded ks) s.ss v.sender.frontier (all_accepted i ks) (given_out i ks) (is_settled i ks) h f)

  -- what was recorded before a call is the front of what was recorded after it
  once_before : (c : Call D A R) (ks : List (Call D A R)) → Once K (all_recorded (c ∷ ks)) → Once K (all_recorded ks)
  once_before c ks o = once_left ok (all_recorded ks) (records_of c) o

  run_keeps : {ks : List (Call D A R)} {w : World D A R P Q} → Run K p q ks w → Once K (all_recorded ks) → Kept ks w
  run_keeps (Run.begun sorts {a = a} {b = b} ea eb) once = begins sorts a b ea eb
  run_keeps (Run.then {ks = ks} {c = c} run step) once = let before = once_before c ks once in step_keeps ks step before (run_keeps run before)
  run_keeps (Run.meanwhile {ks = ks} {w = w} {a = a} {b = b} run ea eb) once = meanwhile_by ks w (run_keeps run once) a b ea eb

  -- ---- no reader retreats

  still_there : {xs : List (Reader D A R)} (j : ℕ) (x y : Reader D A R) → At xs j x → At xs j y → T (leq below (stands_at x) (stands_at y))
  still_there j x y a b = subst (λ v. T (leq below (stands_at x) (stands_at v))) (at_same y a b) (leq_refl order (stands_at x))

  turned_onward : {xs : List (Reader D A R)} {i : ℕ} {x' y' : Reader D A R} {ys : List (Reader D A R)} (j : ℕ) (x y : Reader D A R) → Turned xs i x' y' ys → T (leq below (stands_at x') (stands_at y')) → At xs j x → At ys j y → T (leq below (stands_at x) (stands_at y))
  turned_onward {xs = xs} {x' = x'} {y' = y'} j x y τ on a b =
      ⊎_elim
      (λ h.
      let same : x ≡ x' = at_same x' (subst (λ n. At xs n x) h.0 a) (turned_at τ) in
      subst (λ v. T (leq below (stands_at v) (stands_at y))) (sym same) (subst (λ v. T (leq below (stands_at x') (stands_at v))) (sym h.1) on))
      (λ h. still_there j x y a h.1)
      (turned_cases j y τ b)

  -- the call left the reader where it was
  turned_still : {xs : List (Reader D A R)} {i : ℕ} {x' y' : Reader D A R} {ys : List (Reader D A R)} (j : ℕ) (x y : Reader D A R) → Turned xs i x' y' ys → stands_at y' ≡ stands_at x' → At xs j x → At ys j y → T (leq below (stands_at x) (stands_at y))
  turned_still {x' = x'} j x y τ e a b = turned_onward j x y τ (subst (λ l. T (leq below (stands_at x') l)) (sym e) (leq_refl order (stands_at x'))) a b

  step_onward : {v : World D A R P Q} {c : Call D A R} {w : World D A R P Q} (ks : List (Call D A R)) → Step K p q v c w → Once K (all_recorded ks) → Kept ks v → (j : ℕ) (x y : Reader D A R) → At v.readers j x → At w.readers j y → T (leq below (stands_at x) (stands_at y))
  step_onward ks (Step.records tables going) once s j x y a b = still_there j x y a b
  step_onward ks (Step.closes tables going) once s j x y a b = still_there j x y a b
  step_onward ks (Step.finishes tables going) once s j x y a b = still_there j x y a b
  step_onward ks (Step.pumps_changes tables pumped) once s j x y a b = still_there j x y a b
  step_onward ks (Step.pumps_statements tables pumped) once s j x y a b = still_there j x y a b
  step_onward ks (Step.feeds {w = v} tables {i = i} {m = m} {h = h} member τ) once s j x y a b =
      turned_onward j x y τ (held_onward ok (all_recorded ks) s.ss v.sender.frontier (told_by ks v s once) tables (all_accepted i ks) (given_out i ks) m h (came ks v s m member) (s.fine i (held h) (turned_at τ))) a b
  step_onward ks (Step.sifts tables {cs = cs} {h = h} member τ) once s j x y a b = turned_still j x y τ (sift_still ok tables cs h) a b
  step_onward ks (Step.notes tables {s = u} {h = h} member τ) once s j x y a b = turned_still j x y τ (note_still ok tables u h) a b
  step_onward ks (Step.settles {w = v} tables {i = i} {h = h} τ) once s j x y a b =
      turned_onward j x y τ (settle_onward ok (all_recorded ks) s.ss v.sender.frontier (told_by ks v s once) tables (all_accepted i ks) (given_out i ks) (is_settled i ks) h (s.fine i (prompt h) (turned_at τ))) a b
  step_onward ks (Step.heeds tables {h = h} τ) once s j x y a b = turned_still j x y τ (heed_still ok tables h) a b
  step_onward ks (Step.puts_away tables {h = h} τ) once s j x y a b = turned_still j x y τ (put_away_still ok tables h) a b

  pub law : Law K p q
  law =
      record {
        promises = λ ks w run one. let once = one_each_once ok (all_recorded ks) one in promised ks w (run_keeps run once) once;
        onward = λ ks v w c run step one j x y a b. let once = once_before c ks (one_each_once ok (all_recorded (c ∷ ks)) one) in step_onward ks step once (run_keeps run once) j x y a b;
      }
