use Rattle.std.proofs.Common.{◌<◌, length, arith, of_calls}
use Rattle.std.specs.Fn.{CalledAt}
use Rattle.std.proofs.lemmas.Fn.{called_at}
use Rattle.std.proofs.Retain.{get_or_unique}
use Rattle.frontier.proofs.Retaining.{retains_no, retains_yes, retains_here, retains_all}
use Rattle.frontier.proofs.entries.retain.Goals as goal
use Rattle.frontier.proofs.entries.retain.Goals.{then-keep, then-kept-i, else-kept-i, else-keep}

pub loop-i-preserved : goal.loop-i-preserved
loop-i-preserved g c =
    let l = c.loop-i in
    let R = CalledAt g.F.FnMut in
    let x = c.index-table-i.result in
    let within : l.i < length l.table = omega arith in
    elim c.if-keep.branch [
      | then-keep w ↦ (
        search of_calls,
        elim w.if-kept-i.branch [
          | then-kept-i v ↦
              let y = v.index-table-i-then-kept-i.result in
              rw (w.table-is, w.kept-is, v.table-is, get_or_unique l.table l.i y x within v.index-table-i-then-kept-i.is c.index-table-i.is)
              (retains_yes R _ _ l.keep c.keep.new.self l.table l.kept l.i x l.invariant.1 within c.index-table-i.is (called_at g.F.FnMut c.keep.ensures w.if-keep.true))
          | else-kept-i v ↦
              rw (w.table-is, w.kept-is, v.table-is)
              (retains_here R _ _ l.keep c.keep.new.self l.table l.kept l.i x l.invariant.1 within c.index-table-i.is (called_at g.F.FnMut c.keep.ensures w.if-keep.true) v.if-kept-i.false)
        ],
      )
      | else-keep w ↦ (
        search of_calls,
        rw (w.table-is, w.kept-is)
            (retains_no R _ _ l.keep c.keep.new.self l.table l.kept l.i x l.invariant.1 within c.index-table-i.is (called_at g.F.FnMut c.keep.ensures w.if-keep.false)),
      )
    ]

pub returns : goal.returns
returns g c =
    let l = c.loop-i in
    let all = retains_all (CalledAt g.F.FnMut) _ _ l.keep l.table l.kept l.i c.args.len (omega arith) l.invariant.1 in
    record { within = all.0; kept = all.1; rest = all.2 }
