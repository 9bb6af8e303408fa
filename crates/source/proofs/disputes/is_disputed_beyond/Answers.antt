use Rattle.std.proofs.Common.{map, sym, ◌∙◌}
use Rattle.capture.specs.Kinds.{kinds}
use Rattle.capture.specs.Views.{change_of}
use Rattle.source.proofs.Disputing.{by_pending, by_earlier, by_none}
use Rattle.source.proofs.disputes.is_disputed_beyond.Goals as goal

pub returns-then-is_disputed : goal.returns-then-is_disputed
returns-then-is_disputed g c =
    let k = kinds g.D.Same.alike g.T.PartialOrder.below g.T.Lattice.joined g.T.Timestamp.start g.R.Same.alike in
    let reads = change_of g.D.Same.value g.T.PartialOrder.value g.R.Same.value in
    c.is_beyond.ensures ∙ by_pending k (map g.T.PartialOrder.value c.args.frontier.now) (map reads c.args.pending.now) (map reads c.args.earlier.now) (reads c.args.change.now) (sym c.is_disputed.ensures ∙ c.if-is_disputed.true)

pub returns-then-is_disputed-2 : goal.returns-then-is_disputed-2
returns-then-is_disputed-2 g c =
    let k = kinds g.D.Same.alike g.T.PartialOrder.below g.T.Lattice.joined g.T.Timestamp.start g.R.Same.alike in
    let reads = change_of g.D.Same.value g.T.PartialOrder.value g.R.Same.value in
    c.is_beyond-then-is_disputed-2.ensures ∙ by_earlier k (map g.T.PartialOrder.value c.args.frontier.now) (map reads c.args.pending.now) (map reads c.args.earlier.now) (reads c.args.change.now) (sym c.is_disputed-2.ensures ∙ c.if-is_disputed-2.true)

pub returns : goal.returns
returns g c =
    let k = kinds g.D.Same.alike g.T.PartialOrder.below g.T.Lattice.joined g.T.Timestamp.start g.R.Same.alike in
    let reads = change_of g.D.Same.value g.T.PartialOrder.value g.R.Same.value in
    by_none k (map g.T.PartialOrder.value c.args.frontier.now) (map reads c.args.pending.now) (map reads c.args.earlier.now) (reads c.args.change.now) (sym c.is_disputed.ensures ∙ c.if-is_disputed.false) (sym c.is_disputed-2.ensures ∙ c.if-is_disputed-2.false)
