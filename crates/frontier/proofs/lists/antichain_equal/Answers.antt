use Rattle.std.proofs.Common.{sym, ◌∙◌}
use Rattle.lattice.proofs.Tests.{and_then, and_else}
use Rattle.frontier.proofs.Antichains.{equal_by_order}
use Rattle.frontier.proofs.lists.antichain_equal.Goals as goal

pub returns-then-is_within : goal.returns-then-is_within
returns-then-is_within g c =
    record { value = and_then _ _ _ (sym c.is_within.ensures ∙ c.if-is_within.true) c.is_within-then-is_within.ensures; law = equal_by_order g.met.T.PartialOrder.order }

pub returns-else-is_within : goal.returns-else-is_within
returns-else-is_within g c =
    record { value = and_else _ _ _ (sym c.is_within.ensures ∙ c.if-is_within.false) c.is_within.ensures; law = equal_by_order g.met.T.PartialOrder.order }
