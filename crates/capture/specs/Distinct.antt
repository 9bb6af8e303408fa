-- Lists in which nothing stands twice.
use Rattle.std.specs.Prelude.{Bool, true, not, ◌&&◌, List, [], ◌∷◌}
use Rattle.std.specs.List.{list_all}

-- no value of the list is the same, by the test, as one after it
abbrev pub is_distinct : {K : Type 0} → (K → K → Bool) → List K → Bool
is_distinct same [] = true
is_distinct same (x ∷ xs) = list_all (λ y. not (same x y)) xs && is_distinct same xs
