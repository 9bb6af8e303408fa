-- What the stored parts of a line read as.
use Rattle.std.specs.Prelude.{◌≡◌, ℕ, List, Some, None, Option, MatchOption}
use Rattle.lattice.specs.declared.product.Product.{Product}
use Rattle.timetable.specs.declared.week.Week.{Week}
use Rattle.timetable.specs.Weeks.{week_value}

-- the round and the week of a stored time
abbrev pub time_value : Product ℕ Week → ℕ × ℕ
time_value t = (t.outer, week_value t.inner)

-- what was found reads as what the definition says; nothing was found where it says nothing
abbrev pub Finds : {X A : Type 0} → Option X → (X → A) → Option A → Type 0
Finds r value said = MatchOption r (said ≡ None) (λ x. said ≡ Some (value x))

-- the same, where the definition also says what follows, and that is left
abbrev pub FindsThen : {X A : Type 0} → Option X → (X → A) → Option (A × List ℕ) → List ℕ → Type 0
FindsThen r value said left = MatchOption r (said ≡ None) (λ x. said ≡ Some (value x, left))
