-- Lent tables: the first entries of a slice are in use, and read as a list of values.
use Rattle.std.specs.Prelude.{◌≡◌, ℕ, Bool, ◌&&◌, List, [], ◌∷◌, map, length, take, ℤ, nat_le}

-- a frontier has at most so many times, and its table at least so many entries
abbrev pub frontier_size : ℕ
frontier_size = 32

-- what the first n entries of a table read as
abbrev pub in_use : {X A : Type 0} → (X → A) → ℕ → List X → List A
in_use value n table = map value (take n table)

-- the first n entries are in use, and read as xs
abbrev pub Holds : {X A : Type 0} → (X → A) → ℕ → List X → List A → Type 0
Holds value n table xs = (in_use value n table ≡ xs) × (length xs ≡ n)

-- a table of n entries is at least its size, and no more of it is in use
abbrev pub sized : ℕ → ℕ → ℕ → Bool
sized size used n = nat_le used size && nat_le size n

-- an entry of a table of counts, by the time's value
abbrev pub counted : {X A : Type 0} → (X → A) → (X × ℤ) → (A × ℤ)
counted value e = (value e.0, e.1)

-- what a call on a table of n entries asks: that it is at least its size (1), and that what it comes to hold fits, by the number of that question
abbrev pub table_asks : ℕ → ℕ → ℕ → ℕ → Bool → List (Bool × ℕ)
table_asks size number n used few = (sized size used n, 1) ∷ (few, number) ∷ []

-- a frontier's table: at most 32 times after each insert (12)
abbrev pub frontier_asks : ℕ → ℕ → Bool → List (Bool × ℕ)
frontier_asks n used few = table_asks frontier_size 12 n used few
