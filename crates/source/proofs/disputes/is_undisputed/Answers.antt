use Rattle.std.proofs.Common.{map, sym, ◌∙◌}
use Rattle.capture.specs.Kinds.{kinds}
use Rattle.capture.specs.Views.{change_of}
use Rattle.source.proofs.Disputing.{undisputed_first, undisputed_stop, undisputed_on, undisputed_all}
use Rattle.source.proofs.disputes.is_undisputed.Goals as goal

pub loop-i-init : goal.loop-i-init
loop-i-init g c =
    let o = g.T.PartialOrder in
    let k = kinds g.D.Same.alike o.below g.T.Lattice.joined g.T.Timestamp.start g.R.Same.alike in
    let reads = change_of g.D.Same.value o.value g.R.Same.value in
    undisputed_first k reads (map o.value c.args.frontier.now) (map reads c.args.pending.now) c.args.changes.now

pub returns-then-is_disputed_beyond : goal.returns-then-is_disputed_beyond
returns-then-is_disputed_beyond g c =
    let o = g.T.PartialOrder in
    let k = kinds g.D.Same.alike o.below g.T.Lattice.joined g.T.Timestamp.start g.R.Same.alike in
    let reads = change_of g.D.Same.value o.value g.R.Same.value in
    undisputed_stop k reads (map o.value c.args.frontier.now) (map reads c.args.pending.now) c.args.changes.now c.loop-i.i c.index-changes-i.result c.loop-i-test.true c.index-changes-i.is c.loop-i.invariant (sym c.is_disputed_beyond.ensures ∙ c.if-is_disputed_beyond.true)

pub loop-i-preserved : goal.loop-i-preserved
loop-i-preserved g c =
    let o = g.T.PartialOrder in
    let k = kinds g.D.Same.alike o.below g.T.Lattice.joined g.T.Timestamp.start g.R.Same.alike in
    let reads = change_of g.D.Same.value o.value g.R.Same.value in
    undisputed_on k reads (map o.value c.args.frontier.now) (map reads c.args.pending.now) c.args.changes.now c.loop-i.i c.index-changes-i.result c.loop-i-test.true c.index-changes-i.is c.loop-i.invariant (sym c.is_disputed_beyond.ensures ∙ c.if-is_disputed_beyond.false)

pub returns : goal.returns
returns g c =
    let o = g.T.PartialOrder in
    let k = kinds g.D.Same.alike o.below g.T.Lattice.joined g.T.Timestamp.start g.R.Same.alike in
    let reads = change_of g.D.Same.value o.value g.R.Same.value in
    undisputed_all k reads (map o.value c.args.frontier.now) (map reads c.args.pending.now) c.args.changes.now c.loop-i.i c.loop-i-test.false c.loop-i.invariant
