-- Bytes cut at a mark.
use Rattle.std.specs.Prelude.{ℕ, cond, List, [], ◌∷◌, ◌++◌, Some, None, Option, ◌==◌}

-- the byte b before what was cut off behind it
abbrev pub with_byte : ℕ → Option (List ℕ × List ℕ) → Option (List ℕ × List ℕ)
with_byte b None = None
with_byte b (Some p) = Some (b ∷ p.0, p.1)

-- what stands before the first mark, and what stands behind it; nothing where there is no mark
abbrev pub cut_at : ℕ → List ℕ → Option (List ℕ × List ℕ)
cut_at mark [] = None
cut_at mark (b ∷ bs) = cond (b == mark) (Some ([], bs)) (with_byte b (cut_at mark bs))

-- the lines that byte 10 ends, the first of them begun already, and the bytes behind the last end
abbrev pub split_from : List ℕ → List ℕ → List (List ℕ) × List ℕ
split_from begun [] = ([], begun)
split_from begun (b ∷ bs) = cond (b == 10) (begun ∷ (split_from [] bs).0, (split_from [] bs).1) (split_from (begun ++ b ∷ []) bs)
