-- What the protocol knows of times, data and amounts: tests and functions on what stored values read as.
use Rattle.std.specs.Prelude.{Bool}
use Rattle.lattice.specs.declared.Same.{Ghosts}

-- a kind of time
pub record Time (A : Type 0) : Type 0 where
  -- the first time is at or before the second
  pub below : A → A → Bool
  -- the least time at or after both
  pub joined : A → A → A
  -- the least time, at which every frontier starts
  pub start : A

-- the kinds of data, time and amount that the changes of one sender are made of
pub record Kinds (D A R : Type 0) : Type 0 where
  -- the two data are equal
  pub same_data : D → D → Bool
  -- the kind of time
  pub time : Time A
  -- the two amounts are equal
  pub same_amount : R → R → Bool

-- the kinds that these tests and functions make
abbrev pub kinds : {D A R : Type 0} → (D → D → Bool) → (A → A → Bool) → (A → A → A) → A → (R → R → Bool) → Kinds D A R
kinds same_data below joined start same_amount = record { same_data = same_data; time = record { below = below; joined = joined; start = start }; same_amount = same_amount }

-- what the bound of a kind of time says: its joins and meets, what a stored time reads as, its order and its start
abbrev pub TimeBound : Type 0 → Type 0 → Type 0
TimeBound Y A = record { joined : A → A → A; met : A → A → A; value : Y → A; below : A → A → Bool; start : A }

-- the kind of time that a bound speaks of
abbrev pub time_by : {Y A : Type 0} → TimeBound Y A → Time A
time_by t = record { below = t.below; joined = t.joined; start = t.start }

-- the kinds that the bounds on data, times and amounts speak of
abbrev pub kinds_by : {X D Y A Z R : Type 0} → Ghosts X D → TimeBound Y A → Ghosts Z R → Kinds D A R
kinds_by d t r = kinds d.alike t.below t.joined t.start r.alike
