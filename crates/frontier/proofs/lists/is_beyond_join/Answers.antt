use Rattle.std.proofs.Common.{map, sym, ◌∙◌}
use Rattle.lattice.proofs.Tests.{and_then, and_else}
use Rattle.frontier.specs.Frontiers.{beyond}
use Rattle.frontier.proofs.Joining.{beyond_join}
use Rattle.frontier.proofs.lists.is_beyond_join.Goals as goal

pub returns-then-is-beyond : goal.returns-then-is-beyond
returns-then-is-beyond g c =
    let o = g.T.PartialOrder in
    let one = map o.value c.args.one.now in
    let other = map o.value c.args.other.now in
    let t = o.value c.args.time.now in
    let law = beyond_join g.met.T.PartialOrder.order g.met.T.Lattice.joins in
    record { value = and_then c.is-beyond-then-is-beyond.result (beyond o.below one t) (beyond o.below other t) (sym c.is-beyond.ensures ∙ c.if-is-beyond.true) c.is-beyond-then-is-beyond.ensures ∙ sym (law one other t); law = law }

pub returns-else-is-beyond : goal.returns-else-is-beyond
returns-else-is-beyond g c =
    let o = g.T.PartialOrder in
    let one = map o.value c.args.one.now in
    let other = map o.value c.args.other.now in
    let t = o.value c.args.time.now in
    let law = beyond_join g.met.T.PartialOrder.order g.met.T.Lattice.joins in
    record { value = and_else c.is-beyond.result (beyond o.below one t) (beyond o.below other t) (sym c.is-beyond.ensures ∙ c.if-is-beyond.false) c.is-beyond.ensures ∙ sym (law one other t); law = law }
