use Rattle.std.proofs.Common.{map, sym, ◌∙◌}
use Rattle.lattice.proofs.Tests.{or_then, or_else}
use Rattle.frontier.specs.Frontiers.{beyond}
use Rattle.frontier.proofs.Beyond.{beyond_meet}
use Rattle.frontier.proofs.lists.is_beyond_meet.Goals as goal

pub returns-then-is_beyond : goal.returns-then-is_beyond
returns-then-is_beyond g c =
    let o = g.T.PartialOrder in
    let one = map o.value c.args.one.now in
    let other = map o.value c.args.other.now in
    let t = o.value c.args.time.now in
    let law = beyond_meet g.met.T.PartialOrder.order in
    record { value = or_then c.is_beyond.result (beyond o.below one t) (beyond o.below other t) (sym c.is_beyond.ensures ∙ c.if-is_beyond.true) c.is_beyond.ensures ∙ sym (law one other t); law = law }

pub returns-else-is_beyond : goal.returns-else-is_beyond
returns-else-is_beyond g c =
    let o = g.T.PartialOrder in
    let one = map o.value c.args.one.now in
    let other = map o.value c.args.other.now in
    let t = o.value c.args.time.now in
    let law = beyond_meet g.met.T.PartialOrder.order in
    record { value = or_else c.is_beyond-else-is_beyond.result (beyond o.below one t) (beyond o.below other t) (sym c.is_beyond.ensures ∙ c.if-is_beyond.false) c.is_beyond-else-is_beyond.ensures ∙ sym (law one other t); law = law }
