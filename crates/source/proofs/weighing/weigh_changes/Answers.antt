use Rattle.std.proofs.Common.{sym, ◌∙◌}
use Rattle.capture.specs.Kinds.{kinds}
use Rattle.capture.specs.Views.{change_of}
use Rattle.source.proofs.Weights.{weighed_long, weighed_disputed, weighed}
use Rattle.source.proofs.weighing.weigh_changes.Goals as goal

pub returns-then-changes-gt-MESSAGE_CHANGES : goal.returns-then-changes-gt-MESSAGE_CHANGES
returns-then-changes-gt-MESSAGE_CHANGES g c =
    let o = g.T.PartialOrder in
    let k = kinds g.D.Same.alike o.below g.T.Lattice.joined g.T.Timestamp.start g.R.Same.alike in
    let reads = change_of g.D.Same.value o.value g.R.Same.value in
    weighed_long k o.value reads c.args.changes.now c.args.heeded.now c.args.pending.now c.args.waiting_counts.now c.args.new.now c.args.sums.now c.if-changes-gt-MESSAGE_CHANGES.true

pub returns-then-not-is_undisputed : goal.returns-then-not-is_undisputed
returns-then-not-is_undisputed g c =
    let o = g.T.PartialOrder in
    let k = kinds g.D.Same.alike o.below g.T.Lattice.joined g.T.Timestamp.start g.R.Same.alike in
    let reads = change_of g.D.Same.value o.value g.R.Same.value in
    weighed_disputed k o.value reads c.args.changes.now c.args.heeded.now c.args.pending.now c.args.waiting_counts.now c.args.new.now c.args.sums.now c.if-changes-gt-MESSAGE_CHANGES.false (sym c.is_undisputed.ensures ∙ c.if-not-is_undisputed.true)

pub returns : goal.returns
returns g c =
    let o = g.T.PartialOrder in
    let k = kinds g.D.Same.alike o.below g.T.Lattice.joined g.T.Timestamp.start g.R.Same.alike in
    let reads = change_of g.D.Same.value o.value g.R.Same.value in
    weighed k o.value reads c.args.changes.now c.args.heeded.now c.args.pending.now c.args.waiting_counts.now c.weigh_fresh.new.new c.weigh_fresh.new.sums c.if-changes-gt-MESSAGE_CHANGES.false (sym c.is_undisputed.ensures ∙ c.if-not-is_undisputed.false) c.weigh_fresh.result c.weigh_fresh.ensures
