use Rattle.std.proofs.Common.{◌≡◌, ◌≤◌, map, drop}
use Rattle.frontier.specs.Tables.{in_use, counted}
use Rattle.frontier.proofs.Filling.{Filled, adding}
use Rattle.frontier.proofs.steps.update_all.Given as goal

-- the amounts that came so far are added
abbrev pub invariant-loop-time : goal.invariant-loop-time
invariant-loop-time g l =
    let o = g.T.PartialOrder in
    (goal.iterator-loop-time g).can_next l.time-iterator
    × (goal.iterator-loop-time g).is_finite l.time-iterator
    × (l.n ≤ l.limit)
    × Filled (adding o.below l.limit) (in_use (counted o.value) l.len l.initial.table) (map (counted o.value) l.yielded) (in_use (counted o.value) l.n l.table)
    × (drop l.limit l.table ≡ drop l.limit l.initial.table)
