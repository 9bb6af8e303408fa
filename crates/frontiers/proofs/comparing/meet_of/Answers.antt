use Rattle.std.proofs.Common.{◌++◌, map}
use Rattle.frontier.proofs.Filling.{made_few}
use Rattle.lines.specs.Values.{time_value}
use Rattle.frontiers.specs.Times.{at_or_before}
use Rattle.frontiers.proofs.comparing.meet_of.Goals as goal

pub invariant_of-result : goal.invariant_of-result
invariant_of-result c = let told = c.in_ok-len.ensures in record { few = made_few at_or_before time_value (map time_value c.args.one.now ++ map time_value c.args.other.now) c.in_ok-len.len c.meet_into.new.table told.answer.1 32 told.answer.0 }
