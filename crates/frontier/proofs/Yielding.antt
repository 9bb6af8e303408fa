-- What an iterator gives, when it is known to give a list, and how far a loop over it has come.
use Rattle.std.proofs.Common.{◌≡◌, List, [], ◌∷◌, ◌++◌, map, Option, Some, None, sym, refl, ap, ◌∙◌, subst}
use Rattle.std.specs.List.{flat_map}
use Rattle.std.specs.Iterator.{AlwaysYields, Yields}
use Rattle.std.proofs.lemmas.Iterator.{YieldsList}
use Rattle.std.proofs.lemmas.Simd.{map-map}
use Rattle.frontier.specs.Frontiers.{pairwise}

module _ {S A B : Type 0} (steps : S → Option A → S → Type 0) (value : A → B) where
  -- what was given, the item that comes, and what is left
  pub yields_on : (all : List B) (s t u : S) (xs : List A) (x : A) → AlwaysYields steps value s all → Yields steps s xs t → steps t (Some x) u → (rest : List B) × (all ≡ map value xs ++ value x ∷ rest)
  yields_on [] s t u [] x a y h = absurd (a x u (subst (λ v. steps v (Some x) u) (sym y) h))
  yields_on (b ∷ all) s t u [] x a y h = let one = a.1 x u (subst (λ v. steps v (Some x) u) (sym y) h) in (all, ap (λ c. c ∷ all) (sym one.0))
  yields_on [] s t u (e ∷ xs) x a y h = absurd (a e y.0 y.1)
  yields_on (b ∷ all) s t u (e ∷ xs) x a y h =
      let one = a.1 e y.0 y.1 in
      let on = yields_on all y.0 t u xs x one.1 y.2 h in
      (on.0, ap (λ c. c ∷ all) (sym one.0) ∙ ap (λ l. value e ∷ l) on.1)

  -- all was given
  pub yields_end : (all : List B) (s t u : S) (xs : List A) → AlwaysYields steps value s all → Yields steps s xs t → steps t None u → all ≡ map value xs
  yields_end [] s t u [] a y h = refl
  yields_end (b ∷ all) s t u [] a y h = absurd (a.0 u (subst (λ v. steps v None u) (sym y) h))
  yields_end [] s t u (e ∷ xs) a y h = absurd (a e y.0 y.1)
  yields_end (b ∷ all) s t u (e ∷ xs) a y h =
      let one = a.1 e y.0 y.1 in
      ap (λ c. c ∷ all) (sym one.0) ∙ ap (λ l. value e ∷ l) (yields_end all y.0 t u xs one.1 y.2 h)

  read_as : {C : Type 0} (read : B → C) (all : List B) (s : S) → AlwaysYields steps value s all → AlwaysYields steps (λ x. read (value x)) s (map read all)
  read_as read [] s a = a
  read_as read (b ∷ all) s a = (a.0, λ x j h. let one = a.1 x j h in (ap read one.0, read_as read all j one.1))

-- what the items are read as
pub yields_read : {S A B C : Type 0} {steps : S → Option A → S → Type 0} {value : A → B} {s : S} {all : List B} (read : B → C) → YieldsList steps value s all → AlwaysYields steps (λ x. read (value x)) s (map read all)
yields_read {steps = steps} {value = value} {s = s} {all = all} read given = read_as steps value read all s given.runs

-- the joins of stored times, and what they are read as
pub pairwise_read : {X A : Type 0} (joined : A → A → A) (value : X → A) (xs ys : List X) → flat_map (λ x. map (λ y. joined (value x) (value y)) ys) xs ≡ pairwise joined (map value xs) (map value ys)
pairwise_read joined value [] ys = refl
pairwise_read joined value (x ∷ xs) ys =
    ap (λ l. l ++ flat_map (λ z. map (λ y. joined (value z) (value y)) ys) xs) (sym (map-map (joined (value x)) value ys))
    ∙ ap (λ l. map (joined (value x)) (map value ys) ++ l) (pairwise_read joined value xs ys)
