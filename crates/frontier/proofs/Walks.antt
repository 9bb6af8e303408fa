-- How a loop over a slice goes through a definition by recursion on a list, from place to place.
use Rattle.std.proofs.Common.{◌≡◌, ℕ, ◌+◌, ◌<◌, ◌≤◌, List, [], ◌∷◌, map, length, get_or, drop, sym, ap, ◌∙◌}
use Rattle.std.proofs.lemmas.List.{at_drop_more, at_drop_all}

module _ {X A : Type 0} (value : X → A) (xs : List X) (i : ℕ) (x : X) (h : i < length xs) (read : x ≡ get_or xs i x) where
  -- the element at i comes first of what is left, whatever is asked of that
  pub next : {B : Type 0} (F : List A → B) → F (map value (drop i xs)) ≡ F (value x ∷ map value (drop (i + 1) xs))
  next F = at_drop_more (λ ys. F (map value ys)) xs i x h ∙ ap (λ y. F (value y ∷ map value (drop (i + 1) xs))) (sym read)

-- nothing is left
pub walked : {X A B : Type 0} (value : X → A) (xs : List X) (i : ℕ) (F : List A → B) → length xs ≤ i → F (map value (drop i xs)) ≡ F []
walked value xs i F h = at_drop_all (λ ys. F (map value ys)) xs i h
