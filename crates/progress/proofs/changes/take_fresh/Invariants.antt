use Rattle.std.proofs.Common.{◌≡◌, ◌≤◌, ◌++◌, map, drop}
use Rattle.frontier.specs.Tables.{in_use}
use Rattle.capture.specs.Kinds.{kinds}
use Rattle.capture.specs.Messages.{fresh}
use Rattle.capture.specs.Views.{change_of}
use Rattle.progress.proofs.changes.take_fresh.Given as goal

-- the new changes so far, and those that are left, are all the new ones
abbrev pub invariant-loop-c : goal.invariant-loop-c
invariant-loop-c g l =
    let k = kinds g.D.Same.alike g.T.PartialOrder.below g.T.Lattice.joined g.T.Timestamp.start g.R.Same.alike in
    let reads = change_of g.D.Same.value g.T.PartialOrder.value g.R.Same.value in
    let f = map g.T.PartialOrder.value l.frontier in
    let held = map reads l.held in
    let new = in_use reads l.n l.table in
    (l.n ≤ l.c-index)
    × (new ++ fresh k f (held ++ new) (map reads (drop l.c-index l.changes)) ≡ fresh k f held (map reads l.changes))
