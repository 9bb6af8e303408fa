-- Which waiting statement acts next, by its place, and what its act leaves waiting.
use Rattle.std.proofs.Common.{◌≡◌, ℕ, suc, ◌+◌, ◌<◌, ◌≤◌, Bool, true, false, cond, not, List, [], ◌∷◌, ◌++◌, length, get_or, take, drop, Some, None, filter, Option, sym, refl, ap, ◌∙◌, ⊎_elim, add-one, one-add, arith}
use Rattle.std.specs.List.{prefix_len}
use Rattle.std.proofs.lemmas.List.Elements.{filter-append}
use Rattle.std.proofs.lemmas.List.{drop_more, take-append-drop, get_or-map, get_or-take, length-take-le}
use Rattle.std.proofs.lemmas.Bool.{cond-true, cond-false, cases_Bool}
use Rattle.frontier.specs.Tables.{in_use}
use Rattle.capture.specs.Messages.{Statement}
use Rattle.capture.specs.Statements.{ready, first_ready}

module _ {A : Type 0} (below : A → A → Bool) (f : List A) where
  -- the statement cannot act
  abbrev pub unready : Statement A → Bool
  unready s = not (ready below f s)

  -- what was found among the others stands behind w
  abbrev behind : Statement A → Option (Statement A × List (Statement A)) → Option (Statement A × List (Statement A))
  behind w None = None
  behind w (Some q) = Some (q.0, w ∷ q.1)

  abbrev found : List (Statement A) → Statement A → ℕ → Option (Statement A × List (Statement A))
  found W d k = Some (get_or W k d, take k W ++ drop (suc k) W)

  module _ (w : Statement A) (W : List (Statement A)) where
    place_here : ready below f w ≡ true → prefix_len unready (w ∷ W) ≡ 0
    place_here e = ap (λ b. cond (not b) (1 + prefix_len unready W) 0) e

    place_on : ready below f w ≡ false → prefix_len unready (w ∷ W) ≡ suc (prefix_len unready W)
    place_on e = ap (λ b. cond (not b) (1 + prefix_len unready W) 0) e ∙ one-add (prefix_len unready W)

  pub first_at : (W : List (Statement A)) (d : Statement A) → prefix_len unready W < length W → first_ready below f W ≡ found W d (prefix_len unready W)
  first_at [] d h = absurd (omega arith)
  first_at (w ∷ W) d h =
      ⊎_elim
      (λ e. cond-true (ready below f w) (Some (w, W)) (behind w (first_ready below f W)) e ∙ ap (found (w ∷ W) d) (sym (place_here w W e)))
      (λ e. cond-false (ready below f w) (Some (w, W)) (behind w (first_ready below f W)) e ∙ ap (behind w) (first_at W d (omega (arith, place_on w W e))) ∙ ap (found (w ∷ W) d) (sym (place_on w W e)))
      (cases_Bool (ready below f w))

  pub first_none : (W : List (Statement A)) → length W ≤ prefix_len unready W → first_ready below f W ≡ None
  first_none [] h = refl
  first_none (w ∷ W) h =
      ⊎_elim
      (λ e. absurd (omega (arith, place_here w W e)))
      (λ e. cond-false (ready below f w) (Some (w, W)) (behind w (first_ready below f W)) e ∙ ap (behind w) (first_none W (omega (arith, place_on w W e))))
      (cases_Bool (ready below f w))

-- what is kept of a list does not depend on an element that is not kept
pub kept_without : {X : Type 0} (p : X → Bool) (xs : List X) (k : ℕ) (d : X) → k < length xs → p (get_or xs k d) ≡ false → filter p (take k xs ++ drop (suc k) xs) ≡ filter p xs
kept_without p xs k d h e =
    let rest = drop (suc k) xs in
    let gone : filter p (drop k xs) ≡ filter p rest = ap (filter p) (drop_more xs k d h ∙ ap (λ n. get_or xs k d ∷ drop n xs) (add-one k)) ∙ cond-false (p (get_or xs k d)) (get_or xs k d ∷ filter p rest) (filter p rest) e in
    filter-append p (take k xs) rest ∙ ap (λ l. filter p (take k xs) ++ l) (sym gone) ∙ sym (filter-append p (take k xs) (drop k xs)) ∙ ap (filter p) (take-append-drop k xs)

-- the first that can act, as the code finds it
pub chosen_at : {Y A : Type 0} (below : A → A → Bool) (f : List A) (stored : Y → Statement A) (W : List Y) (len at : ℕ) → at ≡ prefix_len (unready below f) (in_use stored len W) → (y : Y) (d : Statement A) → y ≡ get_or W at y → at < len → len ≤ length W → get_or (in_use stored len W) (prefix_len (unready below f) (in_use stored len W)) d ≡ stored y
chosen_at below f stored W len at place y d is h long =
    ap (λ k. get_or (in_use stored len W) k d) (sym place) ∙ get_or-map stored (take len W) at y d (omega (arith, length-take-le len W long)) ∙ ap stored (get_or-take len W at y h ∙ sym is)
