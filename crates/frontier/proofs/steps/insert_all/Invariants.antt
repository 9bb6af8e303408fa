use Rattle.std.proofs.Common.{◌≡◌, ◌≤◌, map, drop}
use Rattle.frontier.specs.Tables.{in_use, frontier_size}
use Rattle.frontier.proofs.Filling.{Filled, inserting}
use Rattle.frontier.proofs.steps.insert_all.Given as goal

-- the times that came so far are inserted
abbrev pub invariant-loop-t : goal.invariant-loop-t
invariant-loop-t g l =
    let o = g.T.PartialOrder in
    (goal.iterator-loop-t g).can_next l.t-iterator
    × (goal.iterator-loop-t g).is_finite l.t-iterator
    × (l.n ≤ frontier_size)
    × Filled (inserting o.below) (in_use o.value l.len l.initial.table) (map o.value l.yielded) (in_use o.value l.n l.table)
    × (drop frontier_size l.table ≡ drop frontier_size l.initial.table)
