use Rattle.std.proofs.Common.{◌≤◌, length, arith}
use Rattle.capture.specs.Kinds.{kinds}
use Rattle.capture.specs.Sizes.{reader_counts}
use Rattle.capture.specs.Views.{change_of}
use Rattle.progress.proofs.Weights.{fresh_weighed}
use Rattle.progress.proofs.weighing.weigh_fresh.Goals as goal

pub returns : goal.returns
returns g c =
    let o = g.T.PartialOrder in
    let k = kinds g.D.Same.alike o.below g.T.Lattice.joined g.T.Timestamp.start g.R.Same.alike in
    let reads = change_of g.D.Same.value o.value g.R.Same.value in
    let n = c.take_fresh-n.result in
    let new = c.take_fresh-n.new.table in
    let long : n ≤ length new = omega (arith, c.take_fresh-n.ensures.within, c.take_fresh-n.auto.table, c.requires.0) in
    let table = c.copy_entries.new.to in
    let wide : reader_counts ≤ length table = omega (arith, c.copy_entries.auto.to, c.requires.3) in
    let told = c.in_ok-m.ensures in
    fresh_weighed k o.value reads c.args.changes.now c.args.frontier.now c.args.kept.now c.args.counts.now n new c.take_fresh-n.ensures.after long (omega (arith, c.if-n-room.false, c.requires.1)) c.requires.2 table wide c.copy_entries.ensures.front c.take_fresh-n.ensures.within c.in_ok-m.m c.lower_counts.new.table told.0 told.1
