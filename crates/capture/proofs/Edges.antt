-- A reader's lower edge, said by the recorded changes that it still misses: the times beyond it are the open ones.
use Rattle.std.proofs.Common.{◌≡◌, ℕ, zero, suc, ◌<◌, Bool, not, ◌||◌, T, ◌⊎◌, List, [], ◌∷◌, ℤ, pos, negsuc, ◌+ℤ◌, sym, ap, ◌∙◌, subst, inl, inr, ⊎_elim, arith}
use borrow.Author.Differences.{ints}
use Rattle.std.proofs.lemmas.Bool.{cases_lt}
use Rattle.lattice.proofs.Tests.{T_along, T_back, by_cases, cond_false, not_both, not_from, or_cases, or_left, or_right}
use Rattle.lattice.specs.Orders.{Joins, Order, at_once}
use Rattle.frontier.proofs.Antichains.{is_same, same_is}
use Rattle.frontier.proofs.Beyond.{beyond_inserted_all, beyond_up, leq_beyond}
use Rattle.frontier.specs.Counts.{positive, positives}
use Rattle.frontier.specs.Frontiers.{beyond, leq}
use Rattle.capture.specs.Kinds.{Kinds, Time}
use Rattle.capture.specs.Messages.{Change, Statement, alike, has}
use Rattle.capture.specs.Sender.{count_at}
use Rattle.capture.specs.Statements.{Progress, lower_edge}
use Rattle.capture.proofs.Changes.{InsideAt, Once, alike_is, is_alike, many_at, many_at_full, many_at_subset}
use Rattle.capture.proofs.Counts.{positives_beyond_from, positives_beyond_to}
use Rattle.capture.proofs.Laws.{Lawful}
use Rattle.capture.proofs.Places.{Place}

positive_less : (c : ℤ) (b n : ℕ) → c +ℤ pos b ≡ pos n → T (positive c) → b < n
positive_less (pos zero) b n e h = absurd h
positive_less (pos (suc m)) b n e h = omega (arith, ints)
positive_less (negsuc m) b n e h = absurd h

less_positive : (c : ℤ) (b n : ℕ) → c +ℤ pos b ≡ pos n → b < n → T (positive c)
less_positive (pos zero) b n e h = omega (arith, ints)
less_positive (pos (suc m)) b n e h = tt
less_positive (negsuc m) b n e h = omega (arith, ints)

module _ {D A R : Type 0} (K : Kinds D A R) where
  -- a change at or before z was recorded, and is not among those that were got
  pub record Missing (rec got : List (Change D A R)) (z : A) : Type 0 where
    pub change : Change D A R
    pub recorded : T (has K rec change)
    pub missed : T (not (has K got change))
    pub before : T (K.time.below change.time z)

  -- z is open: beyond the progress frontier f, or at or after a change that is missing
  abbrev pub Open : List (Change D A R) → List (Change D A R) → List A → A → Type 0
  Open rec got f z = T (beyond K.time.below f z) ⊎ Missing rec got z

module _ {D A R : Type 0} {K : Kinds D A R} (ok : Lawful K) where
  abbrev t : Time A
  t = K.time

  abbrev below : A → A → Bool
  below = t.below

  order : Order below
  order = ok.order

  joins : Joins below t.joined
  joins = ok.joins

  -- some change of rec at y is missing, or none
  find : (y : A) (rec got : List (Change D A R)) → ((c : Change D A R) × T (has K rec c) × T (not (has K got c)) × T (at_once below c.time y)) ⊎ InsideAt K y rec got
  find y [] got = inr (λ c s h. absurd h)
  find y (e ∷ rec) got =
      ⊎_elim
      (λ m. inl (m.0, or_right (alike K e m.0) (has K rec m.0) m.1, m.2, m.3))
      (λ all. by_cases (has K got e)
      (λ g. inr (λ c s h. ⊎_elim (λ a. subst (λ v. T (has K got v)) (alike_is ok e c a) g) (λ b. all c s b) (or_cases (alike K e c) (has K rec c) h)))
      (λ n. by_cases (at_once below e.time y)
      (λ s. inl (e, or_left (alike K e e) (has K rec e) (is_alike ok e), n, s))
      (λ s. inr (λ c k h. ⊎_elim (λ a. absurd (not_both (at_once below e.time y) s (subst (λ v. T (at_once below v.time y)) (sym (alike_is ok e c a)) k))) (λ b. all c k b) (or_cases (alike K e c) (has K rec c) h)))))
      (find y rec got)

  module _ (heard : Statement A → Type 0) (base : A → ℕ) (top : List A) (ss : List (Statement A)) (p : Progress A) (rec got : List (Change D A R)) (pc : Place t heard (λ x. many_at below x rec) base top ss p) (level : (x : A) → base x ≡ many_at below x got) where
    pub edge_open : Once K rec → (z : A) → T (beyond below (lower_edge t p) z) → Open K rec got p.frontier z
    edge_open once z h =
        let pl = pc.placed in
        ⊎_elim
        (λ f. inl f)
        (λ b.
        let y = positives_beyond_to order p.counts z pl.clean b in
        by_cases (beyond below p.frontier y.0)
        (λ f. inl (beyond_up order p.frontier y.0 z f y.1.1))
        (λ n.
        let behind : T (not (beyond below pc.mid y.0)) = subst (λ v. T (not v)) (pl.at_mid y.0) n in
        let eq : count_at below p.counts y.0 +ℤ pos (many_at below y.0 got) ≡ pos (many_at below y.0 rec) = ap (λ v. count_at below p.counts y.0 +ℤ pos v) (sym (level y.0)) ∙ pl.counted y.0 ∙ ap pos (cond_false (beyond below pc.mid y.0) 0 (many_at below y.0 rec) behind) in
        let less = positive_less (count_at below p.counts y.0) (many_at below y.0 got) (many_at below y.0 rec) eq y.1.0 in
        ⊎_elim
        (λ m. inr (record { change = m.0; recorded = m.1; missed = m.2; before = subst (λ v. T (below v z)) (sym (same_is order m.0.time y.0 m.3)) y.1.1 }))
        (λ all. let over = many_at_subset ok y.0 rec got once all in absurd (omega arith))
        (find y.0 rec got)))
        (or_cases (beyond below p.frontier z) (beyond below (positives p.counts) z) (T_along (beyond below (lower_edge t p) z) (beyond below p.frontier z || beyond below (positives p.counts) z) (beyond_inserted_all order p.frontier (positives p.counts) z) h))

    pub open_edge : Once K got → ((c : Change D A R) → T (has K got c) → T (has K rec c)) → (z : A) → Open K rec got p.frontier z → T (beyond below (lower_edge t p) z)
    open_edge once from z o =
        let pl = pc.placed in
        T_back (beyond below (lower_edge t p) z) (beyond below p.frontier z || beyond below (positives p.counts) z) (beyond_inserted_all order p.frontier (positives p.counts) z)
        (⊎_elim
        (λ f. or_left (beyond below p.frontier z) (beyond below (positives p.counts) z) f)
        (λ m.
        let y = m.change.time in
        by_cases (beyond below p.frontier y)
        (λ f. or_left (beyond below p.frontier z) (beyond below (positives p.counts) z) (beyond_up order p.frontier y z f m.before))
        (λ n.
        let behind : T (not (beyond below pc.mid y)) = subst (λ v. T (not v)) (pl.at_mid y) n in
        let eq : count_at below p.counts y +ℤ pos (many_at below y got) ≡ pos (many_at below y rec) = ap (λ v. count_at below p.counts y +ℤ pos v) (sym (level y)) ∙ pl.counted y ∙ ap pos (cond_false (beyond below pc.mid y) 0 (many_at below y rec) behind) in
        let less : many_at below y got < many_at below y rec =
        ⊎_elim (λ l. l) (λ g. absurd (not_both (has K got m.change) m.missed (many_at_full ok y got rec once (λ c s h. from c h) g m.change (is_same order y) m.recorded))) (cases_lt (many_at below y got) (many_at below y rec)) in
        or_right (beyond below p.frontier z) (beyond below (positives p.counts) z) (positives_beyond_from order p.counts y z (less_positive (count_at below p.counts y) (many_at below y got) (many_at below y rec) eq less) m.before)))
        o)

  -- what is open later was open before
  pub open_back : (rec got got' : List (Change D A R)) (f f' : List A) → ((c : Change D A R) → T (has K got c) → T (has K got' c)) → T (leq below f f') → (z : A) → Open K rec got' f' z → Open K rec got f z
  open_back rec got got' f f' more on z o =
      ⊎_elim (λ h. inl (leq_beyond order f f' z on h)) (λ m. inr (record { change = m.change; recorded = m.recorded; missed = not_from (has K got m.change) (λ g. not_both (has K got' m.change) m.missed (more m.change g)); before = m.before })) o
