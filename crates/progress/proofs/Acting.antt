-- How the questions of an act are answered, and how acts follow one another.
use Rattle.std.proofs.Common.{◌≡◌, ℕ, suc, ◌<◌, ◌≤◌, Bool, true, false, not, ◌&&◌, T, ltb, List, [], ◌∷◌, ◌++◌, length, get_or, take, drop, ℤ, Some, None, refl, ap, ◌∙◌, arith}
use Rattle.std.specs.List.{prefix_len}
use Rattle.std.proofs.lemmas.Bool.{cond-true, cond-false, and_parts}
use Rattle.questions.specs.Questions.{first_no}
use Rattle.questions.proofs.Asking.{ask_next, ask_here}
use Rattle.lattice.specs.Orders.{Order, Joins}
use Rattle.frontier.specs.Counts.{room}
use Rattle.frontier.specs.Frontiers.{fits, leq, pairwise, join}
use Rattle.frontier.specs.Tables.{sized, frontier_size}
use Rattle.frontier.proofs.Tables.{sized_tells}
use Rattle.frontier.proofs.Joining.{leq_join_left}
use Rattle.capture.specs.Kinds.{Time}
use Rattle.capture.specs.Messages.{Statement}
use Rattle.capture.specs.Sizes.{reader_counts, reader_statements}
use Rattle.capture.specs.Statements.{Progress, passed, ready, counts_beyond, first_ready, with_waiting, act, act_asks, drained, drain_asks, advanced}
use Rattle.progress.specs.Tables.{progress_sized, ProgressSized, turns_asks, course_asks}
use Rattle.progress.specs.declared.statements.Lengths.{Lengths}
use Rattle.progress.proofs.Waiting.{unready, first_at, first_none, kept_without}

pub same_progress : {A : Type 0} {f f' : List A} {c c' : List (A × ℤ)} {w w' : List (Statement A)} → f ≡ f' → c ≡ c' → w ≡ w' → ◌≡◌ {A = Progress A} (record { frontier = f; counts = c; waiting = w }) (record { frontier = f'; counts = c'; waiting = w' })
same_progress {f' = f'} {c = c} {c' = c'} {w = w} e d h = ap (λ x. record { frontier = x; counts = c; waiting = w }) e ∙ ap (λ x. record { frontier = f'; counts = x; waiting = w }) d ∙ ap (λ x. record { frontier = f'; counts = c'; waiting = x }) h

-- questions that are asked one list after the other
module _ (ys : List (Bool × ℕ)) where
  pub asked_on_from : (xs : List (Bool × ℕ)) → first_no xs ≡ None → first_no (xs ++ ys) ≡ first_no ys
  asked_on_from [] e = refl
  asked_on_from ((true, n) ∷ xs) e = asked_on_from xs e
  asked_on_from ((false, n) ∷ xs) e = let z : ◌≡◌ {A = ℕ} 0 1 = cc in absurd (omega arith)

  pub asked_until : (xs : List (Bool × ℕ)) (m : ℕ) → first_no xs ≡ Some m → first_no (xs ++ ys) ≡ Some m
  asked_until [] m e = let z : ◌≡◌ {A = ℕ} 0 1 = cc in absurd (omega arith)
  asked_until ((true, n) ∷ xs) m e = asked_until xs m e
  asked_until ((false, n) ∷ xs) m e = e

yes_true : (b : Bool) → T b → b ≡ true
yes_true true h = refl
yes_true false h = absurd h

module _ {A : Type 0} (t : Time A) (s : Statement A) (p : Progress A) where
  abbrev pub counts_fit : Bool
  counts_fit = room t.below reader_counts p.counts (counts_beyond t.below p.frontier s.counts)

  abbrev pub times_fit : Bool
  times_fit = fits t.below frontier_size [] (pairwise t.joined s.upper p.frontier)

  pub act_many_counts : counts_fit ≡ false → first_no (act_asks t s p) ≡ Some 11
  act_many_counts e = ask_here counts_fit 11 ((times_fit, 12) ∷ []) e

  pub act_many_times : counts_fit ≡ true → times_fit ≡ false → first_no (act_asks t s p) ≡ Some 12
  act_many_times e h = ask_next counts_fit 11 ((times_fit, 12) ∷ []) e ∙ ask_here times_fit 12 [] h

  pub act_fits : counts_fit ≡ true → times_fit ≡ true → first_no (act_asks t s p) ≡ None
  act_fits e h = ask_next counts_fit 11 ((times_fit, 12) ∷ []) e ∙ ask_next times_fit 12 [] h

-- the waiting statement at the first place that can act, and the turns after it
module _ {A : Type 0} (t : Time A) (order : Order t.below) (joins : Joins t.below t.joined) (p : Progress A) (n : ℕ) where
  abbrev place : ℕ
  place = prefix_len (unready t.below p.frontier) p.waiting

  abbrev others : List (Statement A)
  others = take place p.waiting ++ drop (suc place) p.waiting

  module _ (d : Statement A) (h : place < length p.waiting) where
    abbrev chosen : Statement A
    chosen = get_or p.waiting place d

    found : first_ready t.below p.frontier p.waiting ≡ Some (chosen, others)
    found = first_at t.below p.frontier p.waiting d h

    -- its own act passes it
    left : act t chosen (with_waiting p others) ≡ act t chosen p
    left =
        let f = join t.below t.joined chosen.upper p.frontier in
        let gone : not (passed t.below f chosen) ≡ false = ap not (yes_true (leq t.below chosen.upper f) (leq_join_left order joins chosen.upper p.frontier)) in
        same_progress refl refl (kept_without (λ u. not (passed t.below f u)) p.waiting place d h gone)

    pub drained_turn : drained t (suc n) p ≡ drained t n (act t chosen p)
    drained_turn = ap (λ o. elim o [ None ↦ p | Some q ↦ drained t n (act t q.0 (with_waiting p q.1)) ]) found ∙ ap (drained t n) left

    asks_turn : drain_asks t (suc n) p ≡ act_asks t chosen p ++ drain_asks t n (act t chosen p)
    asks_turn = ap (λ o. elim o [ None ↦ [] | Some q ↦ act_asks t q.0 (with_waiting p q.1) ++ drain_asks t n (act t q.0 (with_waiting p q.1)) ]) found ∙ ap (λ q. act_asks t chosen p ++ drain_asks t n q) left

    pub asked_turn : first_no (act_asks t chosen p) ≡ None → first_no (drain_asks t (suc n) p) ≡ first_no (drain_asks t n (act t chosen p))
    asked_turn e = ap first_no asks_turn ∙ asked_on_from (drain_asks t n (act t chosen p)) (act_asks t chosen p) e

    pub stopped_turn : (m : ℕ) → first_no (act_asks t chosen p) ≡ Some m → first_no (drain_asks t (suc n) p) ≡ Some m
    stopped_turn m e = ap first_no asks_turn ∙ asked_until (drain_asks t n (act t chosen p)) (act_asks t chosen p) m e

  module _ (h : length p.waiting ≤ place) where
    pub drained_none : drained t (suc n) p ≡ p
    drained_none = ap (λ o. elim o [ None ↦ p | Some q ↦ drained t n (act t q.0 (with_waiting p q.1)) ]) (first_none t.below p.frontier p.waiting h)

    pub asked_none : first_no (drain_asks t (suc n) p) ≡ None
    asked_none = ap (λ o. first_no (elim o [ None ↦ [] | Some q ↦ act_asks t q.0 (with_waiting p q.1) ++ drain_asks t n (act t q.0 (with_waiting p q.1)) ])) (first_none t.below p.frontier p.waiting h)

-- what comes of a statement
module _ {A : Type 0} (t : Time A) (s : Statement A) (p : Progress A) where
  module _ (e : passed t.below p.frontier s ≡ true) where
    pub dropped_asks : course_asks t s p ≡ []
    dropped_asks = cond-true (passed t.below p.frontier s) _ _ e

    pub dropped : advanced t s p ≡ p
    dropped = cond-true (passed t.below p.frontier s) _ _ e

  module _ (e : passed t.below p.frontier s ≡ false) where
    module _ (h : ready t.below p.frontier s ≡ true) where
      pub acting_asks : course_asks t s p ≡ turns_asks t (length p.waiting) s p
      acting_asks = cond-false (passed t.below p.frontier s) _ _ e ∙ cond-true (ready t.below p.frontier s) _ _ h

      pub acting : advanced t s p ≡ drained t (length p.waiting) (act t s p)
      acting = cond-false (passed t.below p.frontier s) _ _ e ∙ cond-true (ready t.below p.frontier s) _ _ h

    module _ (h : ready t.below p.frontier s ≡ false) where
      pub waiting_asks : course_asks t s p ≡ (ltb (length p.waiting) reader_statements, 10) ∷ []
      waiting_asks = cond-false (passed t.below p.frontier s) _ _ e ∙ cond-false (ready t.below p.frontier s) _ _ h

      pub waits : advanced t s p ≡ with_waiting p (p.waiting ++ s ∷ [])
      waits = cond-false (passed t.below p.frontier s) _ _ e ∙ cond-false (ready t.below p.frontier s) _ _ h

-- tables that are at least their sizes
pub progress_room : {X Y Z : Type 0} (n : Lengths) (F : List X) (C : List Y) (W : List Z) (S : List X) → progress_sized n F C W S ≡ true → ProgressSized n F C W × (frontier_size ≤ length S)
progress_room n F C W S e =
    let a = and_parts (sized frontier_size n.frontier (length F)) (sized reader_counts n.counts (length C) && (sized reader_statements n.waiting (length W) && sized frontier_size 0 (length S))) e in
    let b = and_parts (sized reader_counts n.counts (length C)) (sized reader_statements n.waiting (length W) && sized frontier_size 0 (length S)) a.1 in
    let d = and_parts (sized reader_statements n.waiting (length W)) (sized frontier_size 0 (length S)) b.1 in
    let f = sized_tells frontier_size n.frontier (length F) a.0 in
    let c = sized_tells reader_counts n.counts (length C) b.0 in
    let w = sized_tells reader_statements n.waiting (length W) d.0 in
    ((f.0, f.1, c.0, c.1, w.0, w.1), (sized_tells frontier_size 0 (length S) d.1).1)
