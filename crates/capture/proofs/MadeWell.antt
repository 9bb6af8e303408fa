-- Every message that a run's sender makes passes what each reader asks of it alone.
use Rattle.std.proofs.Common.{◌≡◌, ℕ, ◌≤◌, Bool, true, not, ◌&&◌, T, leb, List, [], ◌∷◌, ◌++◌, map, length, ℤ, pos, ◌+ℤ◌, filter, sym, refl, ap, subst, ⊎_elim, append_assoc, arith, le→leb}
use Rattle.std.specs.List.{list_all}
use Rattle.std.proofs.lemmas.List.{length-map}
use Rattle.lattice.proofs.Tests.{T_≡true, and_intro, and_left, and_right, cond_both, not_both, not_from, not_or_left, not_or_right}
use Rattle.lattice.specs.Orders.{Order, at_once}
use Rattle.frontier.specs.Counts.{added, added_all, entry, is_zero, room, stopped}
use Rattle.frontier.specs.Frontiers.{beyond, fits}
use Rattle.frontier.proofs.Filling.{adding, fit_length, inserting}
use Rattle.capture.specs.Kinds.{Kinds}
use Rattle.capture.specs.Law.{all_stated}
use Rattle.capture.specs.Messages.{Change, Message, changes, statement}
use Rattle.capture.specs.Posts.{Post}
use Rattle.capture.specs.Runs.{Call, In, Run, Step, World}
use Rattle.capture.specs.Sender.{Sender, announced, close, close_asks, counts_with, finish, finish_asks, moved, raised, record_asks, record_changes, reduced, stating, told}
use Rattle.capture.specs.Statements.{counted_once, inside, small}
use Rattle.capture.specs.WellMade.{MessagesWellMade, WellMade}
use Rattle.capture.proofs.Answering.{answer_cases}
use Rattle.capture.proofs.Counts.{Clean, clean_added_all, listed, same_sym}
use Rattle.capture.proofs.Invariant.{pump_keeps}
use Rattle.capture.proofs.Laws.{Lawful}
use Rattle.capture.proofs.Lists.{in_along, in_cases, in_none, in_one, kept_length}
use Rattle.capture.proofs.Tallies.{clean_retained}

pass_append : {X : Type 0} (p : X → Bool) (xs ys : List X) → T (list_all p xs) → T (list_all p ys) → T (list_all p (xs ++ ys))
pass_append p [] ys h k = k
pass_append p (x ∷ xs) ys h k = and_intro (p x) (list_all p (xs ++ ys)) (and_left (p x) (list_all p xs) h) (pass_append p xs ys (and_right (p x) (list_all p xs) h) k)

-- what is kept by a test passes it
pass_kept : {X : Type 0} (p : X → Bool) (xs : List X) → T (list_all p (filter p xs))
pass_kept p [] = tt
pass_kept p (x ∷ xs) = cond_both (λ l. T (list_all p l)) (p x) (x ∷ filter p xs) (filter p xs) (λ h. and_intro (p x) (list_all p (filter p xs)) h (pass_kept p xs)) (λ _. pass_kept p xs)

module _ {A : Type 0} (below : A → A → Bool) where
  -- no more is announced than was counted
  pub announced_few : (f : List A) (cs : List (A × ℤ)) → length (announced below f cs) ≤ length cs
  announced_few f cs = let as-told : A × ℤ → A × ℕ = λ c. (c.0, told c.1) in omega (arith, length-map (filter (λ c. not (beyond below f c.0)) cs) as-told, kept_length (λ c. not (beyond below f c.0)) cs)

  -- times that all pass a test still do where one that passes is counted
  module _ (p : A → Bool) where
    abbrev all_times : List (A × ℤ) → Bool
    all_times es = list_all (λ e. p e.0) es

    pass_entry : (x : A) (z : ℤ) → T (p x) → T (all_times (entry x z))
    pass_entry x z h = cond_both (λ l. T (all_times l)) (is_zero z) [] ((x, z) ∷ []) (λ _. tt) (λ _. and_intro (p x) true h tt)

    pass_added : (es : List (A × ℤ)) (x : A) (z : ℤ) → T (all_times es) → T (p x) → T (all_times (added below es x z))
    pass_added [] x z h k = pass_entry x z k
    pass_added (e ∷ es) x z h k =
        let first = and_left (p e.0) (all_times es) h in
        let rest = and_right (p e.0) (all_times es) h in
        let new = entry e.0 (stopped (e.1 +ℤ z)) in
        cond_both (λ l. T (all_times l)) (at_once below e.0 x) (new ++ es) (e ∷ added below es x z)
        (λ _. pass_append (λ e. p e.0) new es (pass_entry e.0 (stopped (e.1 +ℤ z)) first) rest)
        (λ _. and_intro (p e.0) (all_times (added below es x z)) first (pass_added es x z rest k))

    pass_raised : {D R : Type 0} (es : List (A × ℤ)) (cs : List (Change D A R)) → T (all_times es) → T (list_all (λ c. p c.time) cs) → T (all_times (added_all below es (raised cs)))
    pass_raised es [] h k = h
    pass_raised es (c ∷ cs) h k =
        let first = and_left (p c.time) (list_all (λ c. p c.time) cs) k in
        let rest = and_right (p c.time) (list_all (λ c. p c.time) cs) k in
        pass_raised (added below es c.time (pos 1)) cs (pass_added es c.time (pos 1) h first) rest

  -- what is announced of counts beyond l is beyond l and behind f
  inside_announced : (l f : List A) (cs : List (A × ℤ)) → T (list_all (λ c. beyond below l c.0) cs) → T (inside below l f (announced below f cs))
  inside_announced l f [] h = tt
  inside_announced l f (c ∷ cs) h =
      let first = and_left (beyond below l c.0) (list_all (λ c. beyond below l c.0) cs) h in
      let more = inside_announced l f cs (and_right (beyond below l c.0) (list_all (λ c. beyond below l c.0) cs) h) in
      let kept = filter (λ c. not (beyond below f c.0)) cs in
      cond_both (λ es. T (inside below l f (map (λ c. (c.0, told c.1)) es))) (not (beyond below f c.0)) (c ∷ kept) kept
      (λ behind. and_intro (beyond below l c.0 && not (beyond below f c.0)) (inside below l f (announced below f cs)) (and_intro (beyond below l c.0) (not (beyond below f c.0)) first behind) more)
      (λ _. more)

module _ {A : Type 0} {below : A → A → Bool} (order : Order below) where
  apart_announced : (x : A) (f : List A) (cs : List (A × ℤ)) → T (not (listed below cs x)) → T (list_all (λ e. not (at_once below x e.0)) (announced below f cs))
  apart_announced x f [] h = tt
  apart_announced x f (c ∷ cs) h =
      let other = not_or_left (at_once below c.0 x) (listed below cs x) h in
      let more = apart_announced x f cs (not_or_right (at_once below c.0 x) (listed below cs x) h) in
      let kept = filter (λ c. not (beyond below f c.0)) cs in
      let differs : A × ℕ → Bool = λ e. not (at_once below x e.0) in
      cond_both (λ es. T (list_all differs (map (λ c. (c.0, told c.1)) es))) (not (beyond below f c.0)) (c ∷ kept) kept
      (λ _. and_intro (not (at_once below x c.0)) (list_all differs (announced below f cs)) (not_from (at_once below x c.0) (λ same. not_both (at_once below c.0 x) other (same_sym order x c.0 same))) more)
      (λ _. more)

  -- what is announced of clean counts is counted once
  once_announced : (f : List A) (cs : List (A × ℤ)) → Clean below cs → T (counted_once below (announced below f cs))
  once_announced f [] c = tt
  once_announced f (e ∷ es) c =
      let more = once_announced f es c.1 in
      let kept = filter (λ c. not (beyond below f c.0)) es in
      cond_both (λ l. T (counted_once below (map (λ c. (c.0, told c.1)) l))) (not (beyond below f e.0)) (e ∷ kept) kept
      (λ _. and_intro (list_all (λ y. not (at_once below e.0 y.0)) (announced below f es)) (counted_once below (announced below f es)) (apart_announced e.0 f es c.0.0) more)
      (λ _. more)

module _ {D A R P Q : Type 0} {K : Kinds D A R} (ok : Lawful K) (p : Post D A R P) (q : Post D A R Q) where
  abbrev below : A → A → Bool
  below = K.time.below

  order : Order below
  order = ok.order

  -- the sender's frontier and counts are few, its counts are of different times, all beyond its frontier, and its messages us of changes and ss of statements are well made
  record Sound (s : Sender D A R) (us ss : List (Message D A R)) : Type 0 where
    few_times : length s.frontier ≤ 32
    few_counts : length s.counts ≤ 256
    clean : Clean below s.counts
    ahead : T (list_all (λ e. beyond below s.frontier e.0) s.counts)
    updates_well : (m : Message D A R) → In m us → WellMade K m
    statements_well : (m : Message D A R) → In m ss → WellMade K m

  -- the messages of a world
  abbrev SoundIn : World D A R P Q → Type 0
  SoundIn w = Sound w.sender (p.taken w.changes_post ++ w.sender.queued_changes) (all_stated K p q w)

  -- one message more, after those taken and queued
  one_more : (taken queue : List (Message D A R)) (n : Message D A R) → ((m : Message D A R) → In m (taken ++ queue) → WellMade K m) → WellMade K n → (m : Message D A R) → In m (taken ++ (queue ++ n ∷ [])) → WellMade K m
  one_more taken queue n before now m i =
      ⊎_elim (before m) (λ j. subst (WellMade K) (sym (in_one j)) now) (in_cases m (taken ++ queue) (n ∷ []) (in_along (sym (append_assoc taken queue (n ∷ []))) i))

  module _ (s : Sender D A R) (up : P) (pr : Q) (sound : Sound s (p.taken up ++ s.queued_changes) (q.taken pr ++ s.queued_statements)) where
    abbrev After : Sender D A R → Type 0
    After t = Sound t (p.taken up ++ t.queued_changes) (q.taken pr ++ t.queued_statements)

    -- the statement that leads on to u is well made
    moves : (u : List A) → length u ≤ 32 → T (small (stating K u s).counts) → After (moved K u s)
    moves u few little =
        let lower : T (leb (length s.frontier) 32) = le→leb (length s.frontier) 32 sound.few_times in
        let upper : T (leb (length u) 32) = le→leb (length u) 32 few in
        let counts : T (leb (length (announced below u s.counts)) 256) = le→leb (length (announced below u s.counts)) 256 (omega (arith, announced_few below u s.counts, sound.few_counts)) in
        record {
          few_times = few;
          few_counts = omega (arith, kept_length (λ c. beyond below u c.0) s.counts, sound.few_counts);
          clean = clean_retained order u s.counts sound.clean;
          ahead = pass_kept (λ c. beyond below u c.0) s.counts;
          updates_well = sound.updates_well;
          statements_well = one_more (q.taken pr) s.queued_statements (statement (stating K u s)) sound.statements_well
              (and_intro (leb (length s.frontier) 32) _ lower (and_intro (leb (length u) 32) _ upper counts), little, inside_announced below s.frontier u s.counts sound.ahead, once_announced order u s.counts sound.clean);
        }

    records : (tables : Bool) (cs : List (Change D A R)) → After (record_changes K tables cs s).1
    records tables cs =
        answer_cases (λ a. After a.1) (record_asks K tables cs s) s (tt, record { frontier = s.frontier; counts = counts_with K cs s; queued_changes = s.queued_changes ++ changes cs ∷ []; queued_statements = s.queued_statements })
        (λ n. sound)
        (λ asked. record {
          few_times = sound.few_times;
          few_counts = fit_length (adding below 256) s.counts (raised cs) sound.few_counts (T_≡true (room below 256 s.counts (raised cs)) asked.1.1.1.1.0);
          clean = clean_added_all order s.counts (raised cs) sound.clean;
          ahead = pass_raised below (λ x. beyond below s.frontier x) s.counts cs sound.ahead asked.1.1.0;
          updates_well = one_more (p.taken up) s.queued_changes (changes cs) sound.updates_well asked.1.0;
          statements_well = sound.statements_well;
        })

    closes : (tables : Bool) (l : List A) → After (close K tables l s).1
    closes tables l =
        answer_cases (λ a. After a.1) (close_asks K tables l s) s (tt, moved K (reduced K l) s)
        (λ n. sound)
        (λ asked. moves (reduced K l) (fit_length (inserting below) [] l (omega arith) (T_≡true (fits below 32 [] l) asked.1.1.1.0)) asked.1.1.0)

    finishes : (tables : Bool) → After (finish K tables s).1
    finishes tables =
        answer_cases (λ a. After a.1) (finish_asks K tables s) s (tt, moved K [] s)
        (λ n. sound)
        (λ asked. moves [] (omega arith) asked.1.0)

  -- messages that move from a queue to its post, or stay where other calls alter a post
  other_words : {s t : Sender D A R} {us vs ss ts : List (Message D A R)} → t.frontier ≡ s.frontier → t.counts ≡ s.counts → vs ≡ us → ts ≡ ss → Sound s us ss → Sound t vs ts
  other_words {s} {t} {us} {vs} {ss} {ts} ef ec eu es sound =
      record {
        few_times = subst (λ l. length l ≤ 32) (sym ef) sound.few_times;
        few_counts = subst (λ l. length l ≤ 256) (sym ec) sound.few_counts;
        clean = subst (Clean below) (sym ec) sound.clean;
        ahead = subst (λ l. T (list_all (λ e. beyond below l e.0) t.counts)) (sym ef) (subst (λ l. T (list_all (λ e. beyond below s.frontier e.0) l)) (sym ec) sound.ahead);
        updates_well = λ m i. sound.updates_well m (in_along eu i);
        statements_well = λ m i. sound.statements_well m (in_along es i);
      }

  step_sound : {v : World D A R P Q} {c : Call D A R} {w : World D A R P Q} → Step K p q v c w → SoundIn v → SoundIn w
  step_sound (Step.records {w = v} tables {cs = cs} going) s = records v.sender v.changes_post v.statements_post s tables cs
  step_sound (Step.closes {w = v} tables {l = l} going) s = closes v.sender v.changes_post v.statements_post s tables l
  step_sound (Step.finishes {w = v} tables going) s = finishes v.sender v.changes_post v.statements_post s tables
  step_sound (Step.pumps_changes tables pumped) s = other_words refl refl (pump_keeps p pumped) refl s
  step_sound (Step.pumps_statements tables pumped) s = other_words refl refl refl (pump_keeps q pumped) s
  step_sound (Step.feeds tables member τ) s = s
  step_sound (Step.sifts tables member τ) s = s
  step_sound (Step.notes tables member τ) s = s
  step_sound (Step.settles tables τ) s = s
  step_sound (Step.heeds tables τ) s = s
  step_sound (Step.puts_away tables τ) s = s

  run_sound : {ks : List (Call D A R)} {w : World D A R P Q} → Run K p q ks w → SoundIn w
  run_sound (Run.begun sorts ea eb) =
      record {
        few_times = omega arith;
        few_counts = omega arith;
        clean = tt;
        ahead = tt;
        updates_well = λ m i. absurd (in_none (in_along (ap (λ l. l ++ []) ea) i));
        statements_well = λ m i. absurd (in_none (in_along (ap (λ l. l ++ []) eb) i));
      }
  run_sound (Run.then run step) = step_sound step (run_sound run)
  run_sound (Run.meanwhile {w = w} run ea eb) = other_words refl refl (ap (λ l. l ++ w.sender.queued_changes) ea) (ap (λ l. l ++ w.sender.queued_statements) eb) (run_sound run)

  pub messages_well_made : MessagesWellMade K p q
  messages_well_made ks w run m i =
      let s = run_sound run in
      ⊎_elim (s.updates_well m) (s.statements_well m) (in_cases m (p.taken w.changes_post ++ w.sender.queued_changes) (all_stated K p q w) i)
