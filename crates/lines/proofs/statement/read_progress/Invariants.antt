use Rattle.std.proofs.Common.{◌≡◌, ℕ, ◌≤◌, length}
use Rattle.capture.specs.Messages.{Statement}
use Rattle.lines.specs.Format.{in_statement, no_statement}
use Rattle.lines.specs.Ahead.{left, ahead, CountsOn}
use Rattle.lines.specs.declared.part.Part.TheVariants.{Lower}
use Rattle.lines.proofs.Adding.{Keeps}
use Rattle.lines.proofs.statement.read_progress.Given as goal

-- the lines so far have the statement s
abbrev pub invariant-loop-said : goal.invariant-loop-said
invariant-loop-said l = (s : Statement (ℕ × ℕ)) × (ahead (in_statement Lower no_statement) l.initial.lines ≡ ahead (in_statement l.part s) l.lines) × Keeps l.rows l.whole s × CountsOn l.lines × (length (left l.lines) ≤ length (left l.initial.lines))

abbrev pub decreases-loop-said : goal.decreases-loop-said
decreases-loop-said l = length (left l.lines)
