-- What stays of a table under an insertion, and what it reads as.
use Rattle.std.proofs.Common.{◌≡◌, ℕ, ◌+◌, ◌<◌, Bool, true, false, cond, not, List, [], ◌∷◌, ◌++◌, map, length, take, set, filter, sym, refl, ap, ◌∙◌}
use Rattle.std.proofs.lemmas.List.{take_more_set, map_push, length_push, length-map}
use Rattle.std.proofs.lemmas.Bool.{cond-false}
use Rattle.frontier.specs.Frontiers.{beyond, without, inserted}
use Rattle.frontier.specs.Tables.{Holds}

-- what passes a test, by what stored values read as
module _ {X A : Type 0} (p : A → Bool) (value : X → A) where
  one_more : (b : Bool) (x : X) (xs : List X) (vs : List A) → map value xs ≡ vs → map value (cond b (x ∷ xs) xs) ≡ cond b (value x ∷ vs) vs
  one_more true x xs vs e = ap (λ l. value x ∷ l) e
  one_more false x xs vs e = e

  pub kept_map : (xs : List X) → map value (filter (λ x. p (value x)) xs) ≡ filter p (map value xs)
  kept_map [] = refl
  kept_map (x ∷ xs) = one_more (p (value x)) x (filter (λ y. p (value y)) xs) (filter p (map value xs)) (kept_map xs)

module _ {X A : Type 0} (below : A → A → Bool) (value : X → A) (t : A) where
  -- the stored time is not at or after t
  abbrev pub stays : X → Bool
  stays x = not (below t (value x))

  pub length_without : (xs : List X) → length (filter stays xs) ≡ length (without below t (map value xs))
  length_without xs = sym (length-map (filter stays xs) value) ∙ ap length (kept_map (λ e. not (below t e)) value xs)

-- a time behind the frontier comes last
module _ {X A : Type 0} (below : A → A → Bool) (value : X → A) (front : List A) (time : X) (behind : beyond below front (value time) ≡ false) where
  opened : inserted below front (value time) ≡ without below (value time) front ++ value time ∷ []
  opened = cond-false (beyond below front (value time)) front (without below (value time) front ++ value time ∷ []) behind

  pub length_inserted : length (inserted below front (value time)) ≡ length (without below (value time) front) + 1
  length_inserted = ap length opened ∙ length_push (without below (value time) front) (value time)

  pub inserted_more : (ys : List X) (n : ℕ) → n < length ys → Holds value n ys (without below (value time) front) → Holds value (n + 1) (set ys n time) (inserted below front (value time))
  inserted_more ys n h e =
      (ap (map value) (take_more_set ys n time h) ∙ map_push value (take n ys) time ∙ ap (λ l. l ++ value time ∷ []) e.0 ∙ sym opened, length_inserted ∙ ap (λ m. m + 1) e.1)
