-- What a statement's counts say at a time, what an act adds there, and what a sender's counts announce and keep.
use Rattle.std.proofs.Common.{◌≡◌, ℕ, ◌+◌, ◌≤◌, Bool, true, false, cond, not, ◌||◌, T, List, [], ◌∷◌, map, ℤ, pos, ◌+ℤ◌, nat_abs, filter, sym, refl, ap, ◌∙◌, subst, ⊎_elim, arith}
use borrow.Author.Differences.{ints}
use Rattle.lattice.proofs.Tests.{by_cases, cond_both, cond_false, cond_true, not_both, not_from, not_not, or_cases, or_left, or_right}
use Rattle.lattice.specs.Orders.{Order, at_once}
use Rattle.frontier.proofs.Antichains.{same_is}
use Rattle.frontier.specs.Counts.{added_all}
use Rattle.frontier.specs.Frontiers.{beyond}
use Rattle.capture.specs.Sender.{announced, count_at, retained, told}
use Rattle.capture.specs.Statements.{counts_beyond}
use Rattle.capture.proofs.Counts.{Clean, at_absent, at_added_all, listed, size_at, steady_from, sum_at}

-- one entry more: b says whether its time is x, and g whether x is beyond
sum_in : (b g : Bool) (n k : ℕ) (z : ℤ) → (T b → T g) → z ≡ pos (cond g k 0) → cond b (pos n) (pos 0) +ℤ z ≡ pos (cond g (cond b n 0 + k) 0)
sum_in true true n k z e h = omega (arith, ints)
sum_in true false n k z e h = absurd (e tt)
sum_in false true n k z e h = omega (arith, ints)
sum_in false false n k z e h = omega (arith, ints)

sum_out : (b g : Bool) (n k : ℕ) (z : ℤ) → (T b → T (not g)) → z ≡ pos (cond g k 0) → z ≡ pos (cond g (cond b n 0 + k) 0)
sum_out true true n k z e h = absurd (e tt)
sum_out true false n k z e h = h
sum_out false true n k z e h = omega (arith, ints)
sum_out false false n k z e h = h

size_in : (b g : Bool) (n k z : ℕ) → (T b → T g) → z ≡ cond g k 0 → cond b n 0 + z ≡ cond g (cond b n 0 + k) 0
size_in true true n k z e h = omega arith
size_in true false n k z e h = absurd (e tt)
size_in false true n k z e h = omega arith
size_in false false n k z e h = omega arith

size_out : (b g : Bool) (n k z : ℕ) → (T b → T (not g)) → z ≡ cond g k 0 → z ≡ cond g (cond b n 0 + k) 0
size_out true true n k z e h = absurd (e tt)
size_out true false n k z e h = h
size_out false true n k z e h = omega arith
size_out false false n k z e h = h

both_zero : (b : Bool) → ◌≡◌ {A = ℕ} (cond b 0 0) 0
both_zero true = refl
both_zero false = refl

-- what a statement's counts say at a time
abbrev pub tally : {A : Type 0} → (A → A → Bool) → List (A × ℕ) → A → ℕ
tally below [] x = 0
tally below (c ∷ cs) x = cond (at_once below c.0 x) c.1 0 + tally below cs x

module _ {A : Type 0} {below : A → A → Bool} (order : Order below) where
  -- nothing is cut off where the sizes are small
  pub at_more : (es cs : List (A × ℤ)) → Clean below es → ((y : A) → nat_abs (count_at below es y) + size_at below cs y ≤ 9223372036854775807) → (y : A) → count_at below (added_all below es cs) y ≡ count_at below es y +ℤ sum_at below cs y
  at_more es cs c h y = at_added_all order es cs y c (steady_from order es cs c h)

  pub sum_beyond : (f : List A) (cs : List (A × ℕ)) (x : A) → sum_at below (counts_beyond below f cs) x ≡ pos (cond (beyond below f x) (tally below cs x) 0)
  sum_beyond f [] x = cond_both (λ n. pos 0 ≡ pos n) (beyond below f x) 0 0 (λ _. refl) (λ _. refl)
  sum_beyond f (c ∷ cs) x =
      let ih = sum_beyond f cs x in
      let kept = filter (λ e. beyond below f e.0) cs in
      cond_both (λ l. sum_at below (map (λ e. (e.0, pos e.1)) l) x ≡ pos (cond (beyond below f x) (cond (at_once below c.0 x) c.1 0 + tally below cs x) 0)) (beyond below f c.0) (c ∷ kept) kept
      (λ p. sum_in (at_once below c.0 x) (beyond below f x) c.1 (tally below cs x) (sum_at below (counts_beyond below f cs) x) (λ e. subst (λ v. T (beyond below f v)) (same_is order c.0 x e) p) ih)
      (λ p. sum_out (at_once below c.0 x) (beyond below f x) c.1 (tally below cs x) (sum_at below (counts_beyond below f cs) x) (λ e. subst (λ v. T (not (beyond below f v))) (same_is order c.0 x e) p) ih)

  pub size_beyond : (f : List A) (cs : List (A × ℕ)) (x : A) → size_at below (counts_beyond below f cs) x ≡ cond (beyond below f x) (tally below cs x) 0
  size_beyond f [] x = cond_both (λ n. 0 ≡ n) (beyond below f x) 0 0 (λ _. refl) (λ _. refl)
  size_beyond f (c ∷ cs) x =
      let ih = size_beyond f cs x in
      let kept = filter (λ e. beyond below f e.0) cs in
      cond_both (λ l. size_at below (map (λ e. (e.0, pos e.1)) l) x ≡ cond (beyond below f x) (cond (at_once below c.0 x) c.1 0 + tally below cs x) 0) (beyond below f c.0) (c ∷ kept) kept
      (λ p. size_in (at_once below c.0 x) (beyond below f x) c.1 (tally below cs x) (size_at below (counts_beyond below f cs) x) (λ e. subst (λ v. T (beyond below f v)) (same_is order c.0 x e) p) ih)
      (λ p. size_out (at_once below c.0 x) (beyond below f x) c.1 (tally below cs x) (size_at below (counts_beyond below f cs) x) (λ e. subst (λ v. T (not (beyond below f v))) (same_is order c.0 x e) p) ih)

  pub at_retained : (f : List A) (cs : List (A × ℤ)) (x : A) → count_at below (retained below f cs) x ≡ cond (beyond below f x) (count_at below cs x) (pos 0)
  at_retained f [] x = cond_both (λ v. pos 0 ≡ v) (beyond below f x) (pos 0) (pos 0) (λ _. refl) (λ _. refl)
  at_retained f (e ∷ es) x =
      let ih = at_retained f es x in
      cond_both (λ l. count_at below l x ≡ cond (beyond below f x) (count_at below (e ∷ es) x) (pos 0)) (beyond below f e.0) (e ∷ retained below f es) (retained below f es)
      (λ q.
      by_cases (at_once below e.0 x)
      (λ s.
      let b : T (beyond below f x) = subst (λ v. T (beyond below f v)) (same_is order e.0 x s) q in
      cond_true (at_once below e.0 x) e.1 (count_at below (retained below f es) x) s ∙ sym (cond_true (at_once below e.0 x) e.1 (count_at below es x) s) ∙ sym (cond_true (beyond below f x) (count_at below (e ∷ es) x) (pos 0) b))
      (λ s.
      cond_false (at_once below e.0 x) e.1 (count_at below (retained below f es) x) s ∙ ih ∙ ap (λ v. cond (beyond below f x) v (pos 0)) (sym (cond_false (at_once below e.0 x) e.1 (count_at below es x) s))))
      (λ q.
      by_cases (at_once below e.0 x)
      (λ s.
      let b : T (not (beyond below f x)) = subst (λ v. T (not (beyond below f v))) (same_is order e.0 x s) q in
      ih ∙ cond_false (beyond below f x) (count_at below es x) (pos 0) b ∙ sym (cond_false (beyond below f x) (count_at below (e ∷ es) x) (pos 0) b))
      (λ s. ih ∙ ap (λ v. cond (beyond below f x) v (pos 0)) (sym (cond_false (at_once below e.0 x) e.1 (count_at below es x) s))))

  listed_retained : (f : List A) (cs : List (A × ℤ)) (x : A) → T (listed below (retained below f cs) x) → T (listed below cs x)
  listed_retained f [] x h = h
  listed_retained f (e ∷ es) x h₀ =
      cond_both (λ l. T (listed below l x) → T (at_once below e.0 x || listed below es x)) (beyond below f e.0) (e ∷ retained below f es) (retained below f es)
      (λ _ h. ⊎_elim (λ p. or_left (at_once below e.0 x) (listed below es x) p) (λ p. or_right (at_once below e.0 x) (listed below es x) (listed_retained f es x p)) (or_cases (at_once below e.0 x) (listed below (retained below f es) x) h))
      (λ _ h. or_right (at_once below e.0 x) (listed below es x) (listed_retained f es x h))
      h₀

  pub clean_retained : (f : List A) (cs : List (A × ℤ)) → Clean below cs → Clean below (retained below f cs)
  clean_retained f [] c = tt
  clean_retained f (e ∷ es) c =
      cond_both (λ l. Clean below l) (beyond below f e.0) (e ∷ retained below f es) (retained below f es)
      (λ _. ((not_from (listed below (retained below f es) e.0) (λ h. not_both (listed below es e.0) c.0.0 (listed_retained f es e.0 h)), c.0.1), clean_retained f es c.1))
      (λ _. clean_retained f es c.1)

  -- a statement announces the count of each time that is behind its upper
  pub tally_announced : (f : List A) (cs : List (A × ℤ)) (x : A) (n : ℕ) → Clean below cs → count_at below cs x ≡ pos n → tally below (announced below f cs) x ≡ cond (beyond below f x) 0 n
  tally_announced f [] x n c e = let z : 0 ≡ n = omega (arith, ap nat_abs e) in sym (both_zero (beyond below f x)) ∙ ap (λ v. cond (beyond below f x) 0 v) z
  tally_announced f (h ∷ es) x n c e =
      let kept = filter (λ d. not (beyond below f d.0)) es in
      let told_all : List (A × ℤ) → List (A × ℕ) = λ l. map (λ d. (d.0, told d.1)) l in
      by_cases (at_once below h.0 x)
      (λ s.
      let gone : count_at below es x ≡ pos 0 = ap (count_at below es) (sym (same_is order h.0 x s)) ∙ at_absent order es h.0 c.0.0 in
      let none : tally below (announced below f es) x ≡ 0 = tally_announced f es x 0 c.1 gone ∙ both_zero (beyond below f x) in
      let is : told h.1 ≡ n = ap told (sym (cond_true (at_once below h.0 x) h.1 (count_at below es x) s) ∙ e) in
      cond_both (λ l. tally below (told_all l) x ≡ cond (beyond below f x) 0 n) (not (beyond below f h.0)) (h ∷ kept) kept
      (λ q.
      let z = cond_true (at_once below h.0 x) (told h.1) 0 s in
      let sum : cond (at_once below h.0 x) (told h.1) 0 + tally below (announced below f es) x ≡ n = omega arith in
      sum ∙ sym (cond_false (beyond below f x) 0 n (subst (λ v. T (not (beyond below f v))) (same_is order h.0 x s) q)))
      (λ q. none ∙ sym (cond_true (beyond below f x) 0 n (subst (λ v. T (beyond below f v)) (same_is order h.0 x s) (not_not (beyond below f h.0) q)))))
      (λ s.
      let ih = tally_announced f es x n c.1 (sym (cond_false (at_once below h.0 x) h.1 (count_at below es x) s) ∙ e) in
      cond_both (λ l. tally below (told_all l) x ≡ cond (beyond below f x) 0 n) (not (beyond below f h.0)) (h ∷ kept) kept
      (λ q.
      let z = cond_false (at_once below h.0 x) (told h.1) 0 s in
      let sum : cond (at_once below h.0 x) (told h.1) 0 + tally below (announced below f es) x ≡ tally below (announced below f es) x = omega arith in
      sum ∙ ih)
      (λ q. ih))
