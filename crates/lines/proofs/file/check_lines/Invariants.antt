use Rattle.std.proofs.Common.{◌≡◌, List, length}
use Rattle.lines.specs.Format.{LessonMessage, outside, file_says}
use Rattle.lines.specs.Ahead.{left, ahead}
use Rattle.lines.proofs.Opening.{with_messages}
use Rattle.lines.proofs.file.check_lines.Given as goal

-- the messages so far come before what is ahead
abbrev pub invariant-loop-malformed : goal.invariant-loop-malformed
invariant-loop-malformed l = (ms : List LessonMessage) × (file_says l.bytes ≡ with_messages ms (ahead outside l.lines))

abbrev pub decreases-loop-malformed : goal.decreases-loop-malformed
decreases-loop-malformed l = length (left l.lines)
