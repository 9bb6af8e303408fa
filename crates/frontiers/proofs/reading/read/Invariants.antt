use Rattle.std.proofs.Common.{◌≡◌, [], length}
use Rattle.lines.specs.Ahead.{left}
use Rattle.frontiers.specs.Input.{says_from}
use Rattle.frontiers.specs.Reading.{told}
use Rattle.frontiers.proofs.reading.read.Given as goal

-- what is left, after what was read, says what the whole says
abbrev pub invariant-loop-line : goal.invariant-loop-line
invariant-loop-line l = (says_from ([], [], 0) l.bytes ≡ says_from (told l.input) (left l.lines)) × (l.input.lines ≡ l.lines.count)

abbrev pub decreases-loop-line : goal.decreases-loop-line
decreases-loop-line l = length (left l.lines)
