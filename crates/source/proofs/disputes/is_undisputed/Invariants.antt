use Rattle.std.proofs.Common.{map}
use Rattle.capture.specs.Kinds.{kinds}
use Rattle.capture.specs.Views.{change_of}
use Rattle.source.proofs.Disputing.{UndisputedFrom}
use Rattle.source.proofs.disputes.is_undisputed.Given as goal

abbrev pub invariant-loop-i : goal.invariant-loop-i
invariant-loop-i g l =
    let o = g.T.PartialOrder in
    let k = kinds g.D.Same.alike o.below g.T.Lattice.joined g.T.Timestamp.start g.R.Same.alike in
    let reads = change_of g.D.Same.value o.value g.R.Same.value in
    UndisputedFrom k reads (map o.value l.frontier) (map reads l.pending) l.changes l.i
