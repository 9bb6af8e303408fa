-- What has been read, as the program holds it.
use Rattle.std.specs.Prelude.{◌≡◌, ℕ, map, Err, vec_items, Result}
use Rattle.frontiers.specs.declared.input.Expected.{Expected}
use Rattle.frontiers.specs.declared.reading.Input.{Input}
use Rattle.frontiers.specs.declared.fault.Fault.{Fault}
use Rattle.frontiers.specs.declared.fault.Fault.TheVariants.{Malformed, Refused, Memory}
use Rattle.lines.specs.Values.{time_value}
use Rattle.frontiers.specs.Input.{Told}

-- the two lists and the number of lines
abbrev pub told : Input → Told
told i = (map time_value (vec_items i.first), map time_value (vec_items i.second), i.lines)

-- a fault in reading names the malformed line; want of memory says nothing of the input, and reading refuses nothing
abbrev pub Faulty : Fault → Result Told (ℕ × Expected) → Type 0
Faulty (Malformed n e) r = r ≡ Err (n, e)
Faulty (Refused q) r = ⊥
Faulty Memory r = Unit {0}
