use Rattle.std.proofs.Common.{◌≡◌, drop}
use Rattle.lines.specs.Numbers.{digits_from}
use Rattle.lines.proofs.numbers.digits.Given as goal

-- what is left goes on from the number so far
abbrev pub invariant-loop-byte : goal.invariant-loop-byte
invariant-loop-byte l = digits_from 0 l.field ≡ digits_from l.n (drop l.byte-index l.field)
