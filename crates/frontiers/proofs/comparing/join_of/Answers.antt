use Rattle.std.proofs.Common.{map}
use Rattle.frontier.specs.Frontiers.{pairwise}
use Rattle.frontier.proofs.Filling.{made_few}
use Rattle.lines.specs.Values.{time_value}
use Rattle.frontiers.specs.Times.{at_or_before, later}
use Rattle.frontiers.proofs.comparing.join_of.Goals as goal

pub invariant_of-result : goal.invariant_of-result
invariant_of-result c = let told = c.in_ok-len.ensures in record { few = made_few at_or_before time_value (pairwise later (map time_value c.args.one.now) (map time_value c.args.other.now)) c.in_ok-len.len c.join_into.new.table told.answer.1 32 told.answer.0 }
