-- What the times beyond a list tell of it: `leq`, `inserted` and `meet` by the times beyond them.
use Rattle.std.proofs.Common.{◌≡◌, Bool, false, not, ◌&&◌, ◌||◌, T, ◌⊎◌, List, [], ◌∷◌, ◌++◌, sym, refl, ap, ◌∙◌, inl, inr, ⊎_elim}
use mathlib.Core.Bool.{or_assoc, and_assoc}
use Rattle.lattice.specs.Orders.{Order}
use Rattle.lattice.proofs.Tests.{or_left, or_right, or_cases, and_intro, and_left, and_right, not_not, cond_both, iff_≡, T_along, T_back}
use Rattle.frontier.specs.Frontiers.{beyond, leq, without, inserted, inserted_all, meet}

module _ {A : Type 0} {below : A → A → Bool} (order : Order below) where
  pub below_refl : (x : A) → T (below x x)
  below_refl x = order.reflexive x

  pub below_trans : (x y z : A) → T (below x y) → T (below y z) → T (below x z)
  below_trans x y z h k = order.transitive x y z h k

  pub below_antisym : (x y : A) → T (below x y) → T (below y x) → x ≡ y
  below_antisym x y h k = order.antisymmetric x y h k

  pub beyond_up : (xs : List A) (y z : A) → T (beyond below xs y) → T (below y z) → T (beyond below xs z)
  beyond_up [] y z h k = h
  beyond_up (x ∷ xs) y z h k =
      ⊎_elim (λ p. or_left (below x z) (beyond below xs z) (below_trans x y z p k)) (λ p. or_right (below x z) (beyond below xs z) (beyond_up xs y z p k)) (or_cases (below x y) (beyond below xs y) h)

  pub leq_beyond : (xs ys : List A) (z : A) → T (leq below xs ys) → T (beyond below ys z) → T (beyond below xs z)
  leq_beyond xs [] z h k = absurd k
  leq_beyond xs (y ∷ ys) z h k =
      ⊎_elim (λ p. beyond_up xs y z (and_left (beyond below xs y) (leq below xs ys) h) p) (λ p. leq_beyond xs ys z (and_right (beyond below xs y) (leq below xs ys) h) p) (or_cases (below y z) (beyond below ys z) k)

  pub leq_from : (xs ys : List A) → ((z : A) → T (beyond below ys z) → T (beyond below xs z)) → T (leq below xs ys)
  leq_from xs [] f = tt
  leq_from xs (y ∷ ys) f =
      and_intro (beyond below xs y) (leq below xs ys) (f y (or_left (below y y) (beyond below ys y) (below_refl y))) (leq_from xs ys (λ z h. f z (or_right (below y z) (beyond below ys z) h)))

  pub leq_refl : (xs : List A) → T (leq below xs xs)
  leq_refl xs = leq_from xs xs (λ z h. h)

  pub leq_trans : (xs ys zs : List A) → T (leq below xs ys) → T (leq below ys zs) → T (leq below xs zs)
  leq_trans xs ys zs h k = leq_from xs zs (λ z b. leq_beyond xs ys z h (leq_beyond ys zs z k b))

  pub beyond_one : (x z : A) → beyond below (x ∷ []) z ≡ below x z
  beyond_one x z = iff_≡ (beyond below (x ∷ []) z) (below x z) (λ h. ⊎_elim (λ p. p) (λ p. absurd p) (or_cases (below x z) false h)) (λ h. or_left (below x z) false h)

  pub beyond_append : (xs ys : List A) (z : A) → beyond below (xs ++ ys) z ≡ (beyond below xs z || beyond below ys z)
  beyond_append [] ys z = refl
  beyond_append (x ∷ xs) ys z = ap (λ b. below x z || b) (beyond_append xs ys z) ∙ sym (or_assoc (below x z) (beyond below xs z) (beyond below ys z))

  pub leq_append : (zs xs ys : List A) → leq below zs (xs ++ ys) ≡ (leq below zs xs && leq below zs ys)
  leq_append zs [] ys = refl
  leq_append zs (x ∷ xs) ys = ap (λ b. beyond below zs x && b) (leq_append zs xs ys) ∙ sym (and_assoc (beyond below zs x) (leq below zs xs) (leq below zs ys))

  without_to : (x : A) (es : List A) (z : A) → T (beyond below (without below x es) z) → T (beyond below es z)
  without_to x [] z = λ h. h
  without_to x (e ∷ es) z =
      cond_both (λ l. T (beyond below l z) → T (beyond below (e ∷ es) z)) (not (below x e)) (e ∷ without below x es) (without below x es)
      (λ _ h. ⊎_elim (λ p. or_left (below e z) (beyond below es z) p) (λ p. or_right (below e z) (beyond below es z) (without_to x es z p)) (or_cases (below e z) (beyond below (without below x es) z) h))
      (λ _ h. or_right (below e z) (beyond below es z) (without_to x es z h))

  without_from : (x : A) (es : List A) (z : A) → T (beyond below es z) → T (beyond below (without below x es) z) ⊎ T (below x z)
  without_from x [] z h = absurd h
  without_from x (e ∷ es) z h =
      cond_both (λ l. T (beyond below l z) ⊎ T (below x z)) (not (below x e)) (e ∷ without below x es) (without below x es)
      (λ _.
      ⊎_elim (λ p. inl (or_left (below e z) (beyond below (without below x es) z) p))
      (λ p. ⊎_elim (λ r. inl (or_right (below e z) (beyond below (without below x es) z) r)) inr (without_from x es z p))
      (or_cases (below e z) (beyond below es z) h))
      (λ q. ⊎_elim (λ p. inr (below_trans x e z (not_not (below x e) q) p)) (λ p. without_from x es z p) (or_cases (below e z) (beyond below es z) h))

  pub beyond_inserted_to : (es : List A) (x z : A) → T (beyond below (inserted below es x) z) → T (beyond below es z) ⊎ T (below x z)
  beyond_inserted_to es x z =
      cond_both (λ l. T (beyond below l z) → T (beyond below es z) ⊎ T (below x z)) (beyond below es x) es (without below x es ++ x ∷ [])
      (λ _ h. inl h)
      (λ _ h.
      ⊎_elim (λ p. inl (without_to x es z p)) (λ p. inr (T_along (beyond below (x ∷ []) z) (below x z) (beyond_one x z) p))
      (or_cases (beyond below (without below x es) z) (beyond below (x ∷ []) z) (T_along (beyond below (without below x es ++ x ∷ []) z) (beyond below (without below x es) z || beyond below (x ∷ []) z) (beyond_append (without below x es) (x ∷ []) z) h)))

  in_inserted : (x : A) (es : List A) (z : A) → T (beyond below (without below x es) z) ⊎ T (below x z) → T (beyond below (without below x es ++ x ∷ []) z)
  in_inserted x es z s =
      T_back (beyond below (without below x es ++ x ∷ []) z) (beyond below (without below x es) z || beyond below (x ∷ []) z) (beyond_append (without below x es) (x ∷ []) z)
      (⊎_elim (λ p. or_left (beyond below (without below x es) z) (beyond below (x ∷ []) z) p) (λ p. or_right (beyond below (without below x es) z) (beyond below (x ∷ []) z) (or_left (below x z) false p)) s)

  pub beyond_inserted_old : (es : List A) (x z : A) → T (beyond below es z) → T (beyond below (inserted below es x) z)
  beyond_inserted_old es x z h =
      cond_both (λ l. T (beyond below l z)) (beyond below es x) es (without below x es ++ x ∷ []) (λ _. h) (λ _. in_inserted x es z (without_from x es z h))

  pub beyond_inserted_new : (es : List A) (x z : A) → T (below x z) → T (beyond below (inserted below es x) z)
  beyond_inserted_new es x z h =
      cond_both (λ l. T (beyond below l z)) (beyond below es x) es (without below x es ++ x ∷ []) (λ q. beyond_up es x z q h) (λ _. in_inserted x es z (inr h))

  pub beyond_inserted : (es : List A) (x z : A) → beyond below (inserted below es x) z ≡ (beyond below es z || below x z)
  beyond_inserted es x z =
      iff_≡ (beyond below (inserted below es x) z) (beyond below es z || below x z)
      (λ h. ⊎_elim (λ p. or_left (beyond below es z) (below x z) p) (λ p. or_right (beyond below es z) (below x z) p) (beyond_inserted_to es x z h))
      (λ h. ⊎_elim (λ p. beyond_inserted_old es x z p) (λ p. beyond_inserted_new es x z p) (or_cases (beyond below es z) (below x z) h))

  pub beyond_inserted_all : (es xs : List A) (z : A) → beyond below (inserted_all below es xs) z ≡ (beyond below es z || beyond below xs z)
  beyond_inserted_all es [] z = iff_≡ (beyond below es z) (beyond below es z || false) (λ h. or_left (beyond below es z) false h) (λ h. ⊎_elim (λ p. p) (λ p. absurd p) (or_cases (beyond below es z) false h))
  beyond_inserted_all es (x ∷ xs) z =
      beyond_inserted_all (inserted below es x) xs z ∙ ap (λ b. b || beyond below xs z) (beyond_inserted es x z) ∙ or_assoc (beyond below es z) (below x z) (beyond below xs z)

  pub beyond_meet : (xs ys : List A) (z : A) → beyond below (meet below xs ys) z ≡ (beyond below xs z || beyond below ys z)
  beyond_meet xs ys z = beyond_inserted_all [] (xs ++ ys) z ∙ beyond_append xs ys z
