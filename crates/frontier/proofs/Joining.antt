-- The join of two lists by the times beyond it.
use Rattle.std.proofs.Common.{◌≡◌, Bool, true, false, ◌&&◌, ◌||◌, T, List, [], ◌∷◌, map, refl, ap, ◌∙◌, ⊎_elim}
use Rattle.lattice.specs.Orders.{Order, Joins}
use Rattle.lattice.proofs.Tests.{or_left, or_right, or_cases, and_intro, and_left, and_right, iff_≡, T_along, T_back}
use Rattle.frontier.specs.Frontiers.{beyond, leq, pairwise, join}
use Rattle.frontier.proofs.Beyond.{below_trans, leq_from, leq_beyond, beyond_append, beyond_inserted_all}

module _ {A : Type 0} {below : A → A → Bool} {joined : A → A → A} (order : Order below) (joins : Joins below joined) where
  beyond_map : (x : A) (ys : List A) (z : A) → beyond below (map (joined x) ys) z ≡ (below x z && beyond below ys z)
  beyond_map x [] z = iff_≡ false (below x z && false) (λ h. absurd h) (λ h. and_right (below x z) false h)
  beyond_map x (y ∷ ys) z =
      let ih : beyond below (map (joined x) ys) z ≡ (below x z && beyond below ys z) = beyond_map x ys z in
      iff_≡ (below (joined x y) z || beyond below (map (joined x) ys) z) (below x z && (below y z || beyond below ys z))
      (λ h.
      ⊎_elim
      (λ p. and_intro (below x z) (below y z || beyond below ys z) (below_trans order x (joined x y) z (joins.left x y) p) (or_left (below y z) (beyond below ys z) (below_trans order y (joined x y) z (joins.right x y) p)))
      (λ p. let q = T_along (beyond below (map (joined x) ys) z) (below x z && beyond below ys z) ih p in
      and_intro (below x z) (below y z || beyond below ys z) (and_left (below x z) (beyond below ys z) q) (or_right (below y z) (beyond below ys z) (and_right (below x z) (beyond below ys z) q)))
      (or_cases (below (joined x y) z) (beyond below (map (joined x) ys) z) h))
      (λ h.
      let l = and_left (below x z) (below y z || beyond below ys z) h in
      ⊎_elim (λ p. or_left (below (joined x y) z) (beyond below (map (joined x) ys) z) (joins.least x y z l p))
      (λ p. or_right (below (joined x y) z) (beyond below (map (joined x) ys) z) (T_back (beyond below (map (joined x) ys) z) (below x z && beyond below ys z) ih (and_intro (below x z) (beyond below ys z) l p)))
      (or_cases (below y z) (beyond below ys z) (and_right (below x z) (below y z || beyond below ys z) h)))

  and_over_or : (a b c : Bool) → ((a && c) || (b && c)) ≡ ((a || b) && c)
  and_over_or true true true = refl
  and_over_or true true false = refl
  and_over_or true false true = refl
  and_over_or true false false = refl
  and_over_or false b c = refl

  pub beyond_pairwise : (xs ys : List A) (z : A) → beyond below (pairwise joined xs ys) z ≡ (beyond below xs z && beyond below ys z)
  beyond_pairwise [] ys z = refl
  beyond_pairwise (x ∷ xs) ys z =
      beyond_append order (map (joined x) ys) (pairwise joined xs ys) z ∙ ap (λ b. b || beyond below (pairwise joined xs ys) z) (beyond_map x ys z) ∙ ap (λ b. (below x z && beyond below ys z) || b) (beyond_pairwise xs ys z) ∙ and_over_or (below x z) (beyond below xs z) (beyond below ys z)

  pub beyond_join : (xs ys : List A) (z : A) → beyond below (join below joined xs ys) z ≡ (beyond below xs z && beyond below ys z)
  beyond_join xs ys z = beyond_inserted_all order [] (pairwise joined xs ys) z ∙ beyond_pairwise xs ys z

  pub beyond_join_left : (xs ys : List A) (z : A) → T (beyond below (join below joined xs ys) z) → T (beyond below xs z)
  beyond_join_left xs ys z h = and_left (beyond below xs z) (beyond below ys z) (T_along (beyond below (join below joined xs ys) z) (beyond below xs z && beyond below ys z) (beyond_join xs ys z) h)

  pub beyond_join_right : (xs ys : List A) (z : A) → T (beyond below (join below joined xs ys) z) → T (beyond below ys z)
  beyond_join_right xs ys z h = and_right (beyond below xs z) (beyond below ys z) (T_along (beyond below (join below joined xs ys) z) (beyond below xs z && beyond below ys z) (beyond_join xs ys z) h)

  pub beyond_join_both : (xs ys : List A) (z : A) → T (beyond below xs z) → T (beyond below ys z) → T (beyond below (join below joined xs ys) z)
  beyond_join_both xs ys z h k = T_back (beyond below (join below joined xs ys) z) (beyond below xs z && beyond below ys z) (beyond_join xs ys z) (and_intro (beyond below xs z) (beyond below ys z) h k)

  pub leq_join_left : (xs ys : List A) → T (leq below xs (join below joined xs ys))
  leq_join_left xs ys = leq_from order xs (join below joined xs ys) (beyond_join_left xs ys)

  pub leq_join_right : (xs ys : List A) → T (leq below ys (join below joined xs ys))
  leq_join_right xs ys = leq_from order ys (join below joined xs ys) (beyond_join_right xs ys)

  pub join_leq : (xs ys zs : List A) → T (leq below xs zs) → T (leq below ys zs) → T (leq below (join below joined xs ys) zs)
  join_leq xs ys zs h k = leq_from order (join below joined xs ys) zs (λ z b. beyond_join_both xs ys z (leq_beyond order xs zs z h b) (leq_beyond order ys zs z k b))
