use Rattle.std.proofs.Common.{◌≤◌, map, drop}
use Rattle.frontier.specs.Tables.{in_use, counted}
use Rattle.capture.specs.Views.{count_of}
use Rattle.sink.proofs.Parting.{Announcing}
use Rattle.sink.proofs.announcing.announce.Given as goal

abbrev pub invariant-loop-c : goal.invariant-loop-c
invariant-loop-c g l =
    let o = g.T.PartialOrder in
    (l.n ≤ l.c-index)
    × Announcing o.below (map o.value l.upper) (map (counted o.value) l.counts) (map (counted o.value) (drop l.c-index l.counts)) (in_use (count_of o.value) l.n l.table)
