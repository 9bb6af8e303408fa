use Rattle.std.proofs.Common.{◌≡◌, ◌≤◌, map, drop}
use Rattle.frontier.specs.Tables.{in_use}
use Rattle.capture.specs.Messages.{those_behind}
use Rattle.capture.specs.Views.{change_of}
use Rattle.iterator.proofs.edges.copy_behind.Given as goal

-- the changes behind the frontier so far
abbrev pub invariant-loop-c : goal.invariant-loop-c
invariant-loop-c g l =
    let o = g.T.PartialOrder in
    let reads = change_of g.D.Same.value o.value g.R.Same.value in
    (l.n ≤ l.c-index)
    × (in_use reads l.n l.table ≡ those_behind o.below (map o.value l.frontier) (in_use reads l.c-index l.changes))
    × (drop l.n l.table ≡ drop l.n l.initial.table)
