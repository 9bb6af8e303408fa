use Rattle.std.proofs.Common.{◌≡◌, ◌≤◌, List, [], length, take}
use Rattle.capture.specs.Messages.{short_changes}
use Rattle.capture.specs.Sizes.{message_changes}
use Rattle.lines.specs.Format.{LessonChange, in_changes}
use Rattle.lines.specs.Ahead.{left, ahead, CountsOn, changes_in}
use Rattle.lines.proofs.updates.read_updates.Given as goal

-- the lines so far have the changes cs
abbrev pub invariant-loop-said : goal.invariant-loop-said
invariant-loop-said l = (cs : List LessonChange) × (ahead (in_changes []) l.initial.lines ≡ ahead (in_changes cs) l.lines) × (changes_in l.updates ≡ take message_changes cs) × (l.whole ≡ short_changes cs) × CountsOn l.lines × (length (left l.lines) ≤ length (left l.initial.lines))

abbrev pub decreases-loop-said : goal.decreases-loop-said
decreases-loop-said l = length (left l.lines)
