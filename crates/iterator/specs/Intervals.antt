-- The interval that a held reader lets out, in its tables.
use Rattle.std.specs.Prelude.{◌≡◌, ℕ, ◌-◌, Bool, true, false, List, drop, Some, None, Option}
use Rattle.frontier.specs.Frontiers.{equal}
use Rattle.frontier.specs.Tables.{in_use, Holds}
use Rattle.capture.specs.Messages.{Change, those_behind, those_beyond}

module _ {X Y D A R : Type 0} (below : A → A → Bool) (value : Y → A) (reads : X → Change D A R) where
  -- none where the edge is equal to the reported frontier, and every table is as before; else how many changes are behind the edge and how many times it has: the answer tables hold them and are untouched beyond, the edge is reported, and the changes beyond it stay
  abbrev pub LetsOut : Option (ℕ × ℕ) → List A → ℕ → ℕ → List Y → List Y → List X → List X → List X → List X → List Y → List Y → Type 0
  LetsOut None edge times len reported reported' held held' published published' told told' =
      (equal below edge (in_use value times reported) ≡ true) × (reported' ≡ reported) × (held' ≡ held) × (published' ≡ published) × (told' ≡ told)
  LetsOut (Some q) edge times len reported reported' held held' published published' told told' =
      (equal below edge (in_use value times reported) ≡ false)
      × Holds value q.1 reported' edge
      × Holds reads (len - q.0) held' (those_beyond below edge (in_use reads len held))
      × (Holds reads q.0 published' (those_behind below edge (in_use reads len held)) × (drop q.0 published' ≡ drop q.0 published))
      × (Holds value q.1 told' edge × (drop q.1 told' ≡ drop q.1 told))
