-- Counts that belong to times: a list with an entry for each time whose count is not 0.
use Rattle.std.specs.Prelude.{ℕ, zero, suc, Bool, true, false, cond, not, ◌&&◌, List, [], ◌∷◌, ◌++◌, length, ℤ, pos, negsuc, ◌+ℤ◌, nat_le}
use Rattle.std.specs.Int.{saturate_to_bits}
use Rattle.lattice.specs.Orders.{at_once}

-- a signed 64-bit sum stops at its ends
abbrev pub stopped : ℤ → ℤ
stopped z = saturate_to_bits 63 z

-- the number is 0
abbrev pub is_zero : ℤ → Bool
is_zero (pos zero) = true
is_zero (pos (suc n)) = false
is_zero (negsuc n) = false

-- the number is above 0
abbrev pub positive : ℤ → Bool
positive (pos zero) = false
positive (pos (suc n)) = true
positive (negsuc n) = false

-- an entry goes as soon as it is 0
abbrev pub entry : {A : Type 0} → A → ℤ → List (A × ℤ)
entry x z = cond (is_zero z) [] ((x, z) ∷ [])

-- the times of positive count, in stored order
abbrev pub positives : {A : Type 0} → List (A × ℤ) → List A
positives [] = []
positives (e ∷ es) = cond (positive e.1) (e.0 ∷ positives es) (positives es)

module _ {A : Type 0} (below : A → A → Bool) where
  -- an entry of another time than x
  abbrev pub other : A → (A × ℤ) → Bool
  other x e = not (at_once below e.0 x)

  -- z added to the count of x: a new entry goes last, and what stays keeps its order
  abbrev pub added : List (A × ℤ) → A → ℤ → List (A × ℤ)
  added [] x z = entry x z
  added (e ∷ es) x z = cond (at_once below e.0 x) (entry e.0 (stopped (e.1 +ℤ z)) ++ es) (e ∷ added es x z)

  -- each addition of the second list made in its turn
  abbrev pub added_all : List (A × ℤ) → List (A × ℤ) → List (A × ℤ)
  added_all es [] = es
  added_all es (c ∷ cs) = added_all (added es c.0 c.1) cs

  -- no list on the way has more than n entries
  abbrev pub room : ℕ → List (A × ℤ) → List (A × ℤ) → Bool
  room n es [] = true
  room n es (c ∷ cs) = nat_le (length (added es c.0 c.1)) n && room n (added es c.0 c.1) cs
