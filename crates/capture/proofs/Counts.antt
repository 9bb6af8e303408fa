-- Counts that belong to times: what an entry is after additions, and what the positives tell.
-- `at-added-all` asks `Steady`, that no addition on the way is cut off at 64 bits; `steady-from` gives it from a bound on the sizes at each time.
use Rattle.std.proofs.Common.{◌≡◌, ℕ, zero, suc, ◌+◌, ◌-◌, ◌^◌, ◌≤◌, min, Bool, true, false, cond, not, ◌||◌, T, ◌⊎◌, List, [], ◌∷◌, ◌++◌, ℤ, pos, negsuc, ◌+ℤ◌, nat_abs, sym, refl, ap, ◌∙◌, subst, inl, inr, ⊎_elim, arith}
use borrow.Author.Differences.{ints}
use lib.IntN.{+ℤ_assoc, +ℤ_idl, +ℤ_idr}
use Rattle.lattice.proofs.Tests.{by_cases, cond_both, cond_false, cond_true, not_both, not_from, not_or_left, not_or_right, or_cases, or_left, or_right}
use Rattle.lattice.specs.Orders.{Order, at_once}
use Rattle.frontier.proofs.Antichains.{is_same, same_is}
use Rattle.frontier.specs.Counts.{added, added_all, entry, is_zero, positive, positives, stopped}
use Rattle.frontier.specs.Frontiers.{beyond}
use Rattle.capture.specs.Sender.{count_at}

pub stopped_abs : (z : ℤ) → nat_abs z ≤ 9223372036854775807 → stopped z ≡ z
stopped_abs (pos n) h = let e : min n (2 ^ 63 - 1) ≡ n = omega arith in ap pos e
stopped_abs (negsuc n) h = let e : min n (2 ^ 63 - 1) ≡ n = omega arith in ap negsuc e

zero_is : (z : ℤ) → T (is_zero z) → z ≡ pos 0
zero_is (pos zero) h = refl
zero_is (pos (suc n)) h = absurd h
zero_is (negsuc n) h = absurd h

abs_sum : (a b : ℤ) → nat_abs (a +ℤ b) ≤ nat_abs a + nat_abs b
abs_sum a b = omega (arith, ints)

module _ {A : Type 0} (below : A → A → Bool) where
  -- the time has an entry
  abbrev pub listed : List (A × ℤ) → A → Bool
  listed [] x = false
  listed (e ∷ es) x = at_once below e.0 x || listed es x

  -- no time stands twice, and no entry is 0
  abbrev pub Clean : List (A × ℤ) → Type 0
  Clean [] = Unit {0}
  Clean (e ∷ es) = (T (not (listed es e.0)) × T (not (is_zero e.1))) × Clean es

  -- the sum of the additions at a time
  abbrev pub sum_at : List (A × ℤ) → A → ℤ
  sum_at [] y = pos 0
  sum_at (c ∷ cs) y = cond (at_once below c.0 y) c.1 (pos 0) +ℤ sum_at cs y

  -- the sum of their sizes
  abbrev pub size_at : List (A × ℤ) → A → ℕ
  size_at [] y = 0
  size_at (c ∷ cs) y = cond (at_once below c.0 y) (nat_abs c.1) 0 + size_at cs y

  -- no addition is cut off
  abbrev pub Steady : List (A × ℤ) → List (A × ℤ) → Type 0
  Steady es [] = Unit {0}
  Steady es (c ∷ cs) = (stopped (count_at below es c.0 +ℤ c.1) ≡ count_at below es c.0 +ℤ c.1) × Steady (added below es c.0 c.1) cs

module _ {A : Type 0} {below : A → A → Bool} (order : Order below) where
  pub same_sym : (x y : A) → T (at_once below x y) → T (at_once below y x)
  same_sym x y h = subst (λ v. T (at_once below v x)) (same_is order x y h) (is_same order x)

  pub at_absent : (es : List (A × ℤ)) (x : A) → T (not (listed below es x)) → count_at below es x ≡ pos 0
  at_absent [] x h = refl
  at_absent (e ∷ es) x h =
      cond_false (at_once below e.0 x) e.1 (count_at below es x) (not_or_left (at_once below e.0 x) (listed below es x) h) ∙ at_absent es x (not_or_right (at_once below e.0 x) (listed below es x) h)

  listed_entry : (x : A) (z : ℤ) (es : List (A × ℤ)) (y : A) → T (listed below (entry x z ++ es) y) → T (at_once below x y) ⊎ T (listed below es y)
  listed_entry x z es y =
      cond_both (λ l. T (listed below (l ++ es) y) → T (at_once below x y) ⊎ T (listed below es y)) (is_zero z) [] ((x, z) ∷ []) (λ _ h. inr h) (λ _ h. or_cases (at_once below x y) (listed below es y) h)

  pub listed_added : (es : List (A × ℤ)) (x : A) (z : ℤ) (y : A) → T (listed below (added below es x z) y) → T (listed below es y) ⊎ T (at_once below x y)
  listed_added [] x z y =
      cond_both (λ l. T (listed below l y) → ⊥ ⊎ T (at_once below x y)) (is_zero z) [] ((x, z) ∷ []) (λ _ h. inl h) (λ _ h. ⊎_elim inr (λ p. inl p) (or_cases (at_once below x y) false h))
  listed_added (e ∷ es) x z y =
      cond_both (λ l. T (listed below l y) → T (at_once below e.0 y || listed below es y) ⊎ T (at_once below x y)) (at_once below e.0 x) (entry e.0 (stopped (e.1 +ℤ z)) ++ es) (e ∷ added below es x z)
      (λ _ h. ⊎_elim (λ p. inl (or_left (at_once below e.0 y) (listed below es y) p)) (λ p. inl (or_right (at_once below e.0 y) (listed below es y) p)) (listed_entry e.0 (stopped (e.1 +ℤ z)) es y h))
      (λ _ h.
      ⊎_elim (λ p. inl (or_left (at_once below e.0 y) (listed below es y) p))
      (λ p. ⊎_elim (λ q. inl (or_right (at_once below e.0 y) (listed below es y) q)) inr (listed_added es x z y p))
      (or_cases (at_once below e.0 y) (listed below (added below es x z) y) h))

  pub clean_added : (es : List (A × ℤ)) (x : A) (z : ℤ) → Clean below es → Clean below (added below es x z)
  clean_added [] x z c = cond_both (λ l. Clean below l) (is_zero z) [] ((x, z) ∷ []) (λ _. tt) (λ q. ((tt, q), tt))
  clean_added (e ∷ es) x z c =
      cond_both (λ l. Clean below l) (at_once below e.0 x) (entry e.0 (stopped (e.1 +ℤ z)) ++ es) (e ∷ added below es x z)
      (λ _. cond_both (λ l. Clean below (l ++ es)) (is_zero (stopped (e.1 +ℤ z))) [] ((e.0, stopped (e.1 +ℤ z)) ∷ []) (λ _. c.1) (λ q. ((c.0.0, q), c.1)))
      (λ q.
      ((not_from (listed below (added below es x z) e.0) (λ h. ⊎_elim (λ p. not_both (listed below es e.0) c.0.0 p) (λ p. not_both (at_once below e.0 x) q (same_sym x e.0 p)) (listed_added es x z e.0 h)), c.0.1), clean_added es x z c.1))

  pub clean_added_all : (es cs : List (A × ℤ)) → Clean below es → Clean below (added_all below es cs)
  clean_added_all es [] c = c
  clean_added_all es (a ∷ cs) c = clean_added_all (added below es a.0 a.1) cs (clean_added es a.0 a.1 c)

  at_entry : (x : A) (z : ℤ) (es : List (A × ℤ)) (y : A) → T (not (listed below es x)) → count_at below (entry x z ++ es) y ≡ cond (at_once below x y) z (count_at below es y)
  at_entry x z es y n =
      cond_both (λ l. count_at below (l ++ es) y ≡ cond (at_once below x y) z (count_at below es y)) (is_zero z) [] ((x, z) ∷ [])
      (λ q.
      by_cases (at_once below x y) (λ s. ap (count_at below es) (sym (same_is order x y s)) ∙ at_absent es x n ∙ sym (zero_is z q) ∙ sym (cond_true (at_once below x y) z (count_at below es y) s))
      (λ s. sym (cond_false (at_once below x y) z (count_at below es y) s)))
      (λ _. refl)

  pub at_added : (es : List (A × ℤ)) (x : A) (z : ℤ) (y : A) → Clean below es → stopped (count_at below es x +ℤ z) ≡ count_at below es x +ℤ z → count_at below (added below es x z) y ≡ cond (at_once below x y) (count_at below es x +ℤ z) (count_at below es y)
  at_added [] x z y c s =
      cond_both (λ l. count_at below l y ≡ cond (at_once below x y) (pos 0 +ℤ z) (pos 0)) (is_zero z) [] ((x, z) ∷ [])
      (λ q. sym (ap (λ v. cond (at_once below x y) v (pos 0)) (+ℤ_idl z ∙ zero_is z q) ∙ cond_both (λ v. v ≡ pos 0) (at_once below x y) (pos 0) (pos 0) (λ _. refl) (λ _. refl)))
      (λ _. ap (λ v. cond (at_once below x y) v (pos 0)) (sym (+ℤ_idl z)))
  at_added (e ∷ es) x z y c s₀ =
      cond_both (λ l. stopped (count_at below (e ∷ es) x +ℤ z) ≡ count_at below (e ∷ es) x +ℤ z → count_at below l y ≡ cond (at_once below x y) (count_at below (e ∷ es) x +ℤ z) (count_at below (e ∷ es) y)) (at_once below e.0 x) (entry e.0 (stopped (e.1 +ℤ z)) ++ es) (e ∷ added below es x z)
      (λ q s.
      let here : count_at below (e ∷ es) x ≡ e.1 = cond_true (at_once below e.0 x) e.1 (count_at below es x) q in
      let is : e.0 ≡ x = same_is order e.0 x q in
      let kept : stopped (e.1 +ℤ z) ≡ count_at below (e ∷ es) x +ℤ z = ap (λ v. stopped (v +ℤ z)) (sym here) ∙ s in
      at_entry e.0 (stopped (e.1 +ℤ z)) es y c.0.0 ∙ ap (λ v. cond (at_once below e.0 y) v (count_at below es y)) kept ∙
      by_cases (at_once below e.0 y)
      (λ r. cond_true (at_once below e.0 y) (count_at below (e ∷ es) x +ℤ z) (count_at below es y) r ∙ sym (cond_true (at_once below x y) (count_at below (e ∷ es) x +ℤ z) (count_at below (e ∷ es) y) (subst (λ v. T (at_once below v y)) is r)))
      (λ r. cond_false (at_once below e.0 y) (count_at below (e ∷ es) x +ℤ z) (count_at below es y) r ∙ sym (cond_false (at_once below e.0 y) e.1 (count_at below es y) r) ∙ sym (cond_false (at_once below x y) (count_at below (e ∷ es) x +ℤ z) (count_at below (e ∷ es) y) (subst (λ v. T (not (at_once below v y))) is r))))
      (λ q s.
      let there : count_at below (e ∷ es) x ≡ count_at below es x = cond_false (at_once below e.0 x) e.1 (count_at below es x) q in
      let ih : count_at below (added below es x z) y ≡ cond (at_once below x y) (count_at below es x +ℤ z) (count_at below es y) = at_added es x z y c.1 (ap (λ v. stopped (v +ℤ z)) (sym there) ∙ s ∙ ap (λ v. v +ℤ z) there) in
      by_cases (at_once below e.0 y)
      (λ r.
      let other : T (not (at_once below x y)) = not_from (at_once below x y) (λ p. not_both (at_once below e.0 x) q (subst (λ v. T (at_once below e.0 v)) (sym (same_is order x y p)) r)) in
      cond_true (at_once below e.0 y) e.1 (count_at below (added below es x z) y) r ∙ sym (cond_true (at_once below e.0 y) e.1 (count_at below es y) r) ∙ sym (cond_false (at_once below x y) (count_at below (e ∷ es) x +ℤ z) (count_at below (e ∷ es) y) other))
      (λ r.
      cond_false (at_once below e.0 y) e.1 (count_at below (added below es x z) y) r ∙ ih ∙ ap (λ v. cond (at_once below x y) (v +ℤ z) (count_at below es y)) (sym there) ∙
      ap (λ v. cond (at_once below x y) (count_at below (e ∷ es) x +ℤ z) v) (sym (cond_false (at_once below e.0 y) e.1 (count_at below es y) r))))
      s₀

  -- the same, as a sum
  pub at_added_sum : (es : List (A × ℤ)) (x : A) (z : ℤ) (y : A) → Clean below es → stopped (count_at below es x +ℤ z) ≡ count_at below es x +ℤ z → count_at below (added below es x z) y ≡ count_at below es y +ℤ cond (at_once below x y) z (pos 0)
  at_added_sum es x z y c s =
      at_added es x z y c s ∙
      by_cases (at_once below x y)
      (λ r. cond_true (at_once below x y) (count_at below es x +ℤ z) (count_at below es y) r ∙ ap (λ v. count_at below es v +ℤ z) (same_is order x y r) ∙ ap (λ v. count_at below es y +ℤ v) (sym (cond_true (at_once below x y) z (pos 0) r)))
      (λ r. cond_false (at_once below x y) (count_at below es x +ℤ z) (count_at below es y) r ∙ sym (+ℤ_idr (count_at below es y)) ∙ ap (λ v. count_at below es y +ℤ v) (sym (cond_false (at_once below x y) z (pos 0) r)))

  pub at_added_all : (es cs : List (A × ℤ)) (y : A) → Clean below es → Steady below es cs → count_at below (added_all below es cs) y ≡ count_at below es y +ℤ sum_at below cs y
  at_added_all es [] y c s = sym (+ℤ_idr (count_at below es y))
  at_added_all es (a ∷ cs) y c s =
      at_added_all (added below es a.0 a.1) cs y (clean_added es a.0 a.1 c) s.1 ∙ ap (λ v. v +ℤ sum_at below cs y) (at_added_sum es a.0 a.1 y c s.0) ∙
      +ℤ_assoc (count_at below es y) (cond (at_once below a.0 y) a.1 (pos 0)) (sum_at below cs y)

  abs_cond : (b : Bool) (z : ℤ) → nat_abs (cond b z (pos 0)) ≡ cond b (nat_abs z) 0
  abs_cond true z = refl
  abs_cond false z = refl

  pub steady_from : (es cs : List (A × ℤ)) → Clean below es → ((y : A) → nat_abs (count_at below es y) + size_at below cs y ≤ 9223372036854775807) → Steady below es cs
  steady_from es [] c f = tt
  steady_from es (a ∷ cs) c f =
      let here : nat_abs (count_at below es a.0) + (nat_abs a.1 + size_at below cs a.0) ≤ 9223372036854775807 =
      subst (λ v. nat_abs (count_at below es a.0) + (v + size_at below cs a.0) ≤ 9223372036854775807) (cond_true (at_once below a.0 a.0) (nat_abs a.1) 0 (is_same order a.0)) (f a.0) in
      let s : stopped (count_at below es a.0 +ℤ a.1) ≡ count_at below es a.0 +ℤ a.1 = stopped_abs (count_at below es a.0 +ℤ a.1) (omega (arith, abs_sum (count_at below es a.0) a.1)) in (
        s,
        steady_from (added below es a.0 a.1) cs (clean_added es a.0 a.1 c)
            (λ y.
            let e = ap nat_abs (at_added_sum es a.0 a.1 y c s) in
            let l = abs_sum (count_at below es y) (cond (at_once below a.0 y) a.1 (pos 0)) in
            let k = abs_cond (at_once below a.0 y) a.1 in
            let b = f y in
            omega arith),
      )

  -- at a clean list the sum of the additions is the entry
  pub sum_at_clean : (cs : List (A × ℤ)) (y : A) → Clean below cs → sum_at below cs y ≡ count_at below cs y
  sum_at_clean [] y c = refl
  sum_at_clean (e ∷ es) y c =
      ap (λ v. cond (at_once below e.0 y) e.1 (pos 0) +ℤ v) (sum_at_clean es y c.1) ∙
      by_cases (at_once below e.0 y)
      (λ q.
      let gone : count_at below es y ≡ pos 0 = ap (count_at below es) (sym (same_is order e.0 y q)) ∙ at_absent es e.0 c.0.0 in
      ap (λ v. v +ℤ count_at below es y) (cond_true (at_once below e.0 y) e.1 (pos 0) q) ∙ ap (λ v. e.1 +ℤ v) gone ∙ +ℤ_idr e.1 ∙ sym (cond_true (at_once below e.0 y) e.1 (count_at below es y) q))
      (λ q. ap (λ v. v +ℤ count_at below es y) (cond_false (at_once below e.0 y) e.1 (pos 0) q) ∙ +ℤ_idl (count_at below es y) ∙ sym (cond_false (at_once below e.0 y) e.1 (count_at below es y) q))

  pub size_at_clean : (cs : List (A × ℤ)) (y : A) → Clean below cs → size_at below cs y ≡ nat_abs (count_at below cs y)
  size_at_clean [] y c = refl
  size_at_clean (e ∷ es) y c =
      ap (λ v. cond (at_once below e.0 y) (nat_abs e.1) 0 + v) (size_at_clean es y c.1) ∙
      by_cases (at_once below e.0 y)
      (λ q.
      let gone : count_at below es y ≡ pos 0 = ap (count_at below es) (sym (same_is order e.0 y q)) ∙ at_absent es e.0 c.0.0 in
      let g = ap nat_abs gone in
      let a = cond_true (at_once below e.0 y) (nat_abs e.1) 0 q in
      let b = ap nat_abs (cond_true (at_once below e.0 y) e.1 (count_at below es y) q) in
      omega arith)
      (λ q.
      let a = cond_false (at_once below e.0 y) (nat_abs e.1) 0 q in
      let b = ap nat_abs (cond_false (at_once below e.0 y) e.1 (count_at below es y) q) in
      omega arith)

  pub at_head : (e : A × ℤ) (es : List (A × ℤ)) → count_at below (e ∷ es) e.0 ≡ e.1
  at_head e es = cond_true (at_once below e.0 e.0) e.1 (count_at below es e.0) (is_same order e.0)

  -- a positive count further on in a clean list is that of the whole list
  at_tail : (e : A × ℤ) (es : List (A × ℤ)) (x : A) → T (not (listed below es e.0)) → T (positive (count_at below es x)) → count_at below (e ∷ es) x ≡ count_at below es x
  at_tail e es x n h =
      cond_false (at_once below e.0 x) e.1 (count_at below es x) (not_from (at_once below e.0 x) (λ s. subst (λ v. T (positive v)) (ap (count_at below es) (sym (same_is order e.0 x s)) ∙ at_absent es e.0 n) h))

  pub positives_beyond_to : (cs : List (A × ℤ)) (z : A) → Clean below cs → T (beyond below (positives cs) z) → (x : A) × (T (positive (count_at below cs x)) × T (below x z))
  positives_beyond_to [] z c h = absurd h
  positives_beyond_to (e ∷ es) z c h₀ =
      let later : T (beyond below (positives es) z) → (x : A) × (T (positive (count_at below (e ∷ es) x)) × T (below x z)) =
      λ h. let m = positives_beyond_to es z c.1 h in (m.0, (subst (λ v. T (positive v)) (sym (at_tail e es m.0 c.0.0 m.1.0)) m.1.0, m.1.1)) in
      cond_both (λ l. T (beyond below l z) → (x : A) × (T (positive (count_at below (e ∷ es) x)) × T (below x z))) (positive e.1) (e.0 ∷ positives es) (positives es)
      (λ q h. ⊎_elim (λ p. (e.0, (subst (λ v. T (positive v)) (sym (at_head e es)) q, p))) later (or_cases (below e.0 z) (beyond below (positives es) z) h))
      (λ _ h. later h)
      h₀

  pub positives_beyond_from : (cs : List (A × ℤ)) (x z : A) → T (positive (count_at below cs x)) → T (below x z) → T (beyond below (positives cs) z)
  positives_beyond_from [] x z h k = h
  positives_beyond_from (e ∷ es) x z h k =
      by_cases (at_once below e.0 x)
      (λ s.
      let q : T (positive e.1) = subst (λ v. T (positive v)) (cond_true (at_once below e.0 x) e.1 (count_at below es x) s) h in
      cond_both (λ l. T (beyond below l z)) (positive e.1) (e.0 ∷ positives es) (positives es)
      (λ _. or_left (below e.0 z) (beyond below (positives es) z) (subst (λ v. T (below v z)) (sym (same_is order e.0 x s)) k))
      (λ n. absurd (not_both (positive e.1) n q)))
      (λ s.
      let ih : T (beyond below (positives es) z) = positives_beyond_from es x z (subst (λ v. T (positive v)) (cond_false (at_once below e.0 x) e.1 (count_at below es x) s) h) k in
      cond_both (λ l. T (beyond below l z)) (positive e.1) (e.0 ∷ positives es) (positives es) (λ _. or_right (below e.0 z) (beyond below (positives es) z) ih) (λ _. ih))
