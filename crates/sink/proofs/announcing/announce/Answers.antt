use Rattle.std.proofs.Common.{◌<◌, leb, [], map, length, sym, ap, ◌∙◌, arith, w64, SFits, rules}
use Rattle.std.proofs.lemmas.Int.{to_z-of_z}
use Rattle.questions.proofs.Asking.{asked_all}
use Rattle.frontier.specs.Tables.{counted}
use Rattle.frontier.proofs.Walks.{next}
use Rattle.capture.specs.Sizes.{largest_count}
use Rattle.capture.specs.Sender.{told as as_told}
use Rattle.capture.specs.Views.{count_of}
use Rattle.capture.proofs.Queues.{pushed}
use Rattle.sink.proofs.Parting.{passes, writes}
use Rattle.sink.proofs.announcing.announce.Goals as goal
use Rattle.sink.proofs.announcing.announce.Goals.{then-not-is_beyond+in_ok-count, else-not-is_beyond}

pub offset_bounds-table-n : goal.offset_bounds-table-n
offset_bounds-table-n g c = let h : c.loop-c.n < length c.args.table.now = omega (arith, c.requires, c.loop-c.invariant.0) in search rules

pub loop-c-preserved : goal.loop-c-preserved
loop-c-preserved g c =
    let o = g.T.PartialOrder in
    let x = c.c-item.result in
    let upper = map o.value c.args.upper.now in
    let turn = next (counted o.value) c.args.counts.now c.loop-c.c-index x c.loop-c-test.true c.c-item.is (λ ys. ys) in
    let inside : c.loop-c.n < length c.loop-c.table = omega (arith, c.requires, c.loop-c.invariant.0) in
    elim c.if-not-is_beyond.branch [
      | then-not-is_beyond+in_ok-count w ↦
          let fits : SFits w64 x.1 = search rules in
          let told = simp to_z-of_z at w.in_ok-count.ensures in
          let yes = asked_all (leb (as_told x.1) largest_count) 5 [] told.0 in
          rw (w.table-is, w.n-is) (omega (arith, c.loop-c.invariant.0), writes o.below upper (counted o.value x) _ _ _ _ turn c.loop-c.invariant.1 (sym c.is_beyond.ensures ∙ w.if-not-is_beyond.true) _ (pushed (count_of o.value) c.loop-c.table c.loop-c.n _ _ inside (ap (λ k. (o.value x.0, k)) told.1)) yes.0)
      | else-not-is_beyond w ↦
          rw (w.table-is, w.n-is) (omega (arith, c.loop-c.invariant.0), passes o.below upper (counted o.value x) _ _ _ _ turn c.loop-c.invariant.1 (sym c.is_beyond.ensures ∙ w.if-not-is_beyond.false))
    ]
