use Rattle.std.specs.Fn.{CalledAt}
use Rattle.frontier.proofs.Retaining.{Retains}
use Rattle.frontier.proofs.entries.retain.Given as goal

abbrev pub invariant-loop-i : goal.invariant-loop-i
invariant-loop-i g l = goal.F-IsAlwaysCallable g l.keep × Retains (CalledAt g.F.FnMut) l.initial.keep l.initial.table l.keep l.table l.kept l.i
