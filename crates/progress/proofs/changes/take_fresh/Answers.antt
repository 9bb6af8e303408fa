use Rattle.std.proofs.Common.{◌≡◌, ◌+◌, ◌<◌, [], ◌∷◌, ◌++◌, map, length, take, drop, set, sym, ap, ◌∙◌, arith}
use Rattle.std.proofs.lemmas.List.{take_more_set, map_push}
use Rattle.frontier.specs.Tables.{in_use}
use Rattle.frontier.proofs.Tables.{sub_zero}
use Rattle.frontier.proofs.Walks.{next}
use Rattle.capture.specs.Kinds.{kinds}
use Rattle.capture.specs.Messages.{fresh}
use Rattle.capture.specs.Views.{change_of}
use Rattle.progress.proofs.News.{is_new, fresh_yes, fresh_no}
use Rattle.progress.proofs.changes.take_fresh.Goals as goal
use Rattle.progress.proofs.changes.take_fresh.Goals.{then-is_fresh, else-is_fresh}

pub loop-c-preserved : goal.loop-c-preserved
loop-c-preserved g c =
    let k = kinds g.D.Same.alike g.T.PartialOrder.below g.T.Lattice.joined g.T.Timestamp.start g.R.Same.alike in
    let reads = change_of g.D.Same.value g.T.PartialOrder.value g.R.Same.value in
    let f = map g.T.PartialOrder.value c.args.frontier.now in
    let held = map reads c.args.held.now in
    let n = c.loop-c.n in
    let table = c.loop-c.table in
    let new = in_use reads n table in
    let x = c.c-item.result in
    let rest = map reads (drop (c.loop-c.c-index + 1) c.args.changes.now) in
    let inside : n < length table = omega (arith, c.loop-c.invariant.0, c.requires) in
    let turn = next reads c.args.changes.now c.loop-c.c-index x c.loop-c-test.true c.c-item.is (λ ys. new ++ fresh k f (held ++ new) ys) in
    let test = sym (ap (λ m. is_new k f held (in_use reads m table) (reads x)) (sub_zero n)) ∙ sym c.is_fresh.ensures in
    elim c.if-is_fresh.branch [
      | then-is_fresh w ↦
          let push : in_use reads (n + 1) (set table n x) ≡ new ++ reads x ∷ [] = ap (map reads) (take_more_set table n x inside) ∙ map_push reads (take n table) x in
          rw (w.table-is, w.n-is) (omega (arith, c.loop-c.invariant.0), ap (λ l. l ++ fresh k f (held ++ l) rest) push ∙ sym (turn ∙ fresh_yes k f held new (reads x) rest (test ∙ w.if-is_fresh.true)) ∙ c.loop-c.invariant.1)
      | else-is_fresh w ↦
          rw (w.table-is, w.n-is) (omega (arith, c.loop-c.invariant.0), sym (turn ∙ fresh_no k f held new (reads x) rest (test ∙ w.if-is_fresh.false)) ∙ c.loop-c.invariant.1)
    ]
