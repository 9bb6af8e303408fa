-- The order of (round, week) times, by what they read as.
use Rattle.std.specs.Prelude.{ℕ, max, Bool, nat_le}
use Rattle.lattice.specs.Orders.{both, parts}

-- both the round and the week are at or before the other's
abbrev pub at_or_before : (ℕ × ℕ) → (ℕ × ℕ) → Bool
at_or_before = both nat_le nat_le

-- the later round and the later week
abbrev pub later : (ℕ × ℕ) → (ℕ × ℕ) → (ℕ × ℕ)
later = parts max max
