use Rattle.std.proofs.Common.{◌≡◌, ◌-◌}
use Rattle.questions.specs.Questions.{first_no}
use Rattle.capture.specs.Statements.{drained, drain_asks}
use Rattle.progress.specs.Tables.{time_of}
use Rattle.progress.specs.Lent.{progress_in, SameTables}
use Rattle.progress.proofs.tables.ProgressTables+T+StoredProgress+T.drain.Given as goal

-- the turns that are left come to what all come to
abbrev pub invariant-loop : goal.invariant-loop
invariant-loop g l =
    let o = g.T.PartialOrder in
    let t = time_of o.below g.T.Lattice.joined g.T.Timestamp.start in
    let before = progress_in o.value l.initial.self in
    let now = progress_in o.value l.self in
    (drained t l.turns before ≡ drained t (l.turns - l.counter) now)
    × (first_no (drain_asks t l.turns before) ≡ first_no (drain_asks t (l.turns - l.counter) now))
    × SameTables l.initial.self l.self
