use Rattle.std.proofs.Common.{map, sym, ◌∙◌}
use Rattle.capture.specs.Kinds.{kinds}
use Rattle.capture.specs.Views.{change_of}
use Rattle.progress.proofs.News.{held_already, new_already, not_yet}
use Rattle.progress.proofs.changes.is_fresh.Goals as goal

pub returns-then-is_held : goal.returns-then-is_held
returns-then-is_held g c =
    let k = kinds g.D.Same.alike g.T.PartialOrder.below g.T.Lattice.joined g.T.Timestamp.start g.R.Same.alike in
    let reads = change_of g.D.Same.value g.T.PartialOrder.value g.R.Same.value in
    held_already k (map g.T.PartialOrder.value c.args.frontier.now) (map reads c.args.held.now) (map reads c.args.new.now) (reads c.args.change.now) (sym c.is_held.ensures ∙ c.if-is_held.true)

pub returns-then-is_held-2 : goal.returns-then-is_held-2
returns-then-is_held-2 g c =
    let k = kinds g.D.Same.alike g.T.PartialOrder.below g.T.Lattice.joined g.T.Timestamp.start g.R.Same.alike in
    let reads = change_of g.D.Same.value g.T.PartialOrder.value g.R.Same.value in
    new_already k (map g.T.PartialOrder.value c.args.frontier.now) (map reads c.args.held.now) (map reads c.args.new.now) (reads c.args.change.now) (sym c.is_held-2.ensures ∙ c.if-is_held-2.true)

pub returns : goal.returns
returns g c =
    let k = kinds g.D.Same.alike g.T.PartialOrder.below g.T.Lattice.joined g.T.Timestamp.start g.R.Same.alike in
    let reads = change_of g.D.Same.value g.T.PartialOrder.value g.R.Same.value in
    c.is_beyond.ensures ∙ not_yet k (map g.T.PartialOrder.value c.args.frontier.now) (map reads c.args.held.now) (map reads c.args.new.now) (reads c.args.change.now) (sym c.is_held.ensures ∙ c.if-is_held.false) (sym c.is_held-2.ensures ∙ c.if-is_held-2.false)
