use Rattle.std.proofs.Common.{◌≡◌, map, drop}
use Rattle.capture.specs.Statements.{counted_once}
use Rattle.capture.specs.Views.{count_of}
use Rattle.progress.proofs.statements.is_counted_once.Given as goal

-- what is left answers for the whole
abbrev pub invariant-loop-i : goal.invariant-loop-i
invariant-loop-i g l =
    let o = g.T.PartialOrder in
    counted_once o.below (map (count_of o.value) (drop l.i l.counts)) ≡ counted_once o.below (map (count_of o.value) l.counts)
