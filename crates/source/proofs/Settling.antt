-- What a settle comes to.
use Rattle.std.proofs.Common.{◌≡◌, ℕ, ◌-◌, ◌≤◌, Bool, true, false, List, [], ◌∷◌, map, length, take, ℤ, None, Ok, Err, sym, refl, ap, ◌∙◌, arith}
use Rattle.questions.specs.declared.Refusal.{Refusal}
use Rattle.questions.specs.declared.Refusal.TheVariants.{ShortTable}
use Rattle.questions.specs.Questions.{first_no}
use Rattle.questions.proofs.Asking.{ask_next, ask_here, asked_all}
use Rattle.frontier.specs.Counts.{added_all, room, positives}
use Rattle.frontier.specs.Frontiers.{inserted_all, fits}
use Rattle.frontier.specs.Tables.{in_use, Holds, counted, frontier_size}
use Rattle.frontier.proofs.Filling.{fit_length, adding, inserting}
use Rattle.frontier.proofs.Tables.{sub_zero, length_in_use}
use Rattle.capture.specs.Kinds.{Kinds}
use Rattle.capture.specs.Messages.{Change}
use Rattle.capture.specs.Prompt.{Prompt as Meant, settle_asks, settle}
use Rattle.capture.specs.Sizes.{reader_counts}
use Rattle.capture.proofs.Answering.{answer_made}
use Rattle.source.specs.declared.prompt.Prompt.{Prompt}
use Rattle.source.specs.Tables.{prompt_of, settle_sized}
use Rattle.source.specs.Calls.{Settled, after_settle}
use Rattle.source.specs.Weighing.{Brought, sums_asks}

module _ {Y A : Type 0} (below : A → A → Bool) (value : Y → A) (p : Prompt) (frontier : List Y) (counts sums : List (Y × ℤ)) where
  -- what the parts in use read as
  abbrev F : List A
  F = in_use value p.progress.frontier frontier

  abbrev C : List (A × ℤ)
  C = in_use (counted value) p.progress.counts counts

  abbrev S : List (A × ℤ)
  S = in_use (counted value) p.waiting_counts sums

  abbrev edge_of : List A
  edge_of = inserted_all below F (positives (added_all below C S))

  -- the parts as they are handed on
  cut : {B : Type 0} (G : List A → List (A × ℤ) → List (A × ℤ) → B) → G (map value (take (p.progress.frontier - 0) frontier)) (map (counted value) (take (p.progress.counts - 0) counts)) (map (counted value) (take (p.waiting_counts - 0) sums)) ≡ G F C S
  cut G =
      ap (λ a. G (in_use value a frontier) (map (counted value) (take (p.progress.counts - 0) counts)) (map (counted value) (take (p.waiting_counts - 0) sums))) (sub_zero p.progress.frontier)
      ∙ ap (λ b. G F (in_use (counted value) b counts) (map (counted value) (take (p.waiting_counts - 0) sums))) (sub_zero p.progress.counts)
      ∙ ap (λ c. G F C (in_use (counted value) c sums)) (sub_zero p.waiting_counts)

  module _ (n m : ℕ) (scratch : List (Y × ℤ)) (edge : List Y) where
    pub brought_tells : Brought below value (Ok (n, m)) (take (p.progress.frontier - 0) frontier) (take (p.progress.counts - 0) counts) (take (p.waiting_counts - 0) sums) scratch edge
        → (first_no (sums_asks below value F C S) ≡ None) × Holds (counted value) n scratch (added_all below C S) × Holds value m edge edge_of
    unfolding Brought
    brought_tells b =
        let sum = cut (λ _ c s. added_all below c s) in
        let made = cut (λ f c s. inserted_all below f (positives (added_all below c s))) in
        (sym (cut (λ f c s. first_no (sums_asks below value f c s))) ∙ b.0, (b.1.0.0 ∙ sum, sym (ap length sum) ∙ b.1.0.1), (b.1.1.0 ∙ made, sym (ap length made) ∙ b.1.1.1))

    -- they fit
    pub brought_fits : p.progress.frontier ≤ frontier_size → p.progress.frontier ≤ length frontier → p.progress.counts ≤ reader_counts → p.progress.counts ≤ length counts
        → Brought below value (Ok (n, m)) (take (p.progress.frontier - 0) frontier) (take (p.progress.counts - 0) counts) (take (p.waiting_counts - 0) sums) scratch edge → (n ≤ reader_counts) × (m ≤ frontier_size)
    brought_fits hf lf hc lc b =
        let told = brought_tells b in
        let roomy = room below reader_counts C S in
        let near = fits below frontier_size F (positives (added_all below C S)) in
        let after-11 = asked_all roomy 11 ((near, 12) ∷ []) told.0 in
        let after-12 = asked_all near 12 [] after-11.1 in (
          omega (arith, told.1.1, fit_length (adding below reader_counts) C S (omega (arith, length_in_use (counted value) p.progress.counts counts lc)) after-11.0),
          omega (arith, told.2.1, fit_length (inserting below) F (positives (added_all below C S)) (omega (arith, length_in_use value p.progress.frontier frontier lf)) after-12.0),
        )

module _ {X Y D A R : Type 0} (k : Kinds D A R) (value : Y → A) (reads : X → Change D A R) (p : Prompt) (frontier reported : List Y) (counts sums scratch : List (Y × ℤ)) (edge : List Y) where
  -- the numbers of the reader that is left
  abbrev pub settling : ℕ → ℕ → Prompt
  settling n m = record { progress = record { frontier = p.progress.frontier; counts = n; waiting = p.progress.waiting }; reported = m; heeded = p.heeded; pending = p.pending; waiting_counts = 0 }

  abbrev tables : Bool
  tables = settle_sized p frontier reported counts sums scratch edge

  abbrev asks : List (Bool × ℕ)
  asks = sums_asks k.time.below value (F k.time.below value p frontier counts sums) (C k.time.below value p frontier counts sums) (S k.time.below value p frontier counts sums)

  pub settle_short : tables ≡ false → Settled k value reads (Err ShortTable) p p frontier reported reported counts counts sums scratch edge
  unfolding Settled
  settle_short e = λ heeded pending waiting. (ask_here tables 1 asks e, (refl, refl, refl))

  module _ (fit : tables ≡ true) where
    pub settle_refused : (f : Refusal) (scratch' : List (Y × ℤ)) (edge' : List Y) → Brought k.time.below value (Err f) (take (p.progress.frontier - 0) frontier) (take (p.progress.counts - 0) counts) (take (p.waiting_counts - 0) sums) scratch' edge'
        → Settled k value reads (Err f) p p frontier reported reported counts counts sums scratch edge
    unfolding Brought Settled
    settle_refused f scratch' edge' b = λ heeded pending waiting.
        (ask_next tables 1 asks fit ∙ sym (cut k.time.below value p frontier counts sums (λ f c s. first_no (sums_asks k.time.below value f c s))) ∙ b.0, (refl, refl, refl))

    pub settle_done : (n m : ℕ) (scratch' : List (Y × ℤ)) (edge' : List Y) → Brought k.time.below value (Ok (n, m)) (take (p.progress.frontier - 0) frontier) (take (p.progress.counts - 0) counts) (take (p.waiting_counts - 0) sums) scratch' edge'
        → (counts' : List (Y × ℤ)) (reported' : List Y) → take n counts' ≡ take n scratch' → take m reported' ≡ take m edge'
        → Settled k value reads (Ok m) p (settling n m) frontier reported reported' counts counts' sums scratch edge
    unfolding Settled
    settle_done n m scratch' edge' b counts' reported' copied told = λ heeded pending waiting.
        let bs = brought_tells k.time.below value p frontier counts sums n m scratch' edge' b in
        let before = prompt_of value reads p frontier reported heeded counts sums pending waiting in
        let sum = added_all k.time.below before.progress.counts before.waiting_counts in
        let made-edge = inserted_all k.time.below before.progress.frontier (positives sum) in
        let state : List (A × ℤ) → List A → Meant D A R = λ cs fs. record { progress = record { frontier = before.progress.frontier; counts = cs; waiting = before.progress.waiting }; reported = fs; heeded = before.heeded; pending = before.pending; waiting_counts = [] } in
        let made : Meant D A R = state sum made-edge in
        let none : first_no (settle_asks k tables before) ≡ None = ask_next tables 1 asks fit ∙ bs.0 in
        let left : (settle k tables before).1 ≡ made = ap (λ z. z.1) (answer_made (settle_asks k tables before) before (made-edge, made) none) in
        let sums_are : in_use (counted value) n counts' ≡ sum = ap (map (counted value)) copied ∙ bs.1.0 in
        let edge_is : in_use value m reported' ≡ made-edge = ap (map value) told ∙ bs.2.0 in
        let numbers : settling n m ≡ after_settle p made = ap (λ j. settling j m) (sym bs.1.1) ∙ ap (settling (length sum)) (sym bs.2.1) in
        (none, (numbers ∙ sym (ap (after_settle p) left), ap (λ cs. state cs (in_use value m reported')) sums_are ∙ ap (state sum) edge_is ∙ sym left, sym bs.2.1 ∙ sym (ap (λ z. length z.reported) left)))
