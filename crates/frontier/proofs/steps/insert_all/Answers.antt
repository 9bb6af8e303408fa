use Rattle.std.proofs.Common.{◌≤◌, map, length, sym, ap, ◌∙◌, subst, arith}
use Rattle.std.specs.Iterator.{AlwaysYields}
use Rattle.std.proofs.iter.Next.{on}
use Rattle.std.proofs.lemmas.List.{map_push}
use Rattle.std.proofs.lemmas.Result.{err_from_is_err_and}
use Rattle.questions.specs.Questions.{number_of, first_no}
use Rattle.frontier.specs.Frontiers.{fits}
use Rattle.frontier.specs.Tables.{in_use, frontier_size, frontier_asks}
use Rattle.frontier.proofs.Filling.{filled_more, filled_stop, filled_all, inserting}
use Rattle.frontier.proofs.Yielding.{yields_on, yields_end}
use Rattle.frontier.proofs.steps.insert_all.Goals as goal

pub returns-in_err-n : goal.returns-in_err-n
returns-in_err-n g c =
    let o = g.T.PartialOrder in
    let l = c.loop-t in
    let start = in_use o.value c.args.len c.args.table.now in
    let told = c.in_err-n.ensures in
    let long : frontier_size ≤ length l.table = omega arith in
    let p = err_from_is_err_and c.from_residual.result c.from_residual.ensures.1 in
    rw (p.1, p.2) record {
      answer = λ all a.
          let left = yields_on g.I.Iterator.next_gives o.value all _ l.t-iterator c.next.new.self l.yielded c.in-Some.t (subst (λ s. AlwaysYields g.I.Iterator.next_gives o.value s all) (sym c.into_iter-t-iterator.ensures.into_iter_gives) a) l.yielded_by c.in-Some.ensures.steps in
          let stop = filled_stop (inserting o.below) o.value start (map o.value l.yielded) l.n l.table l.invariant.2 long l.invariant.3 (o.value c.in-Some.t) (number_of c.in_err-n.field-0.0) told.answer.0 left.0 (length c.args.table.now) c.args.len c.if-len-gt-FRONTIER_SIZE.false c.if-table-lt-FRONTIER_SIZE.false in
          (ap (λ ys. first_no (frontier_asks (length c.args.table.now) c.args.len (fits o.below frontier_size start ys))) left.1 ∙ stop, tt);
      rest = told.rest ∙ l.invariant.4;
    }

pub loop-t-preserved : goal.loop-t-preserved
loop-t-preserved g c =
    let o = g.T.PartialOrder in
    let l = c.loop-t in
    let told = c.in_ok-n.ensures in
    let long : frontier_size ≤ length l.table = omega arith in
    let next = on c.in-Some.t c.in-Some.is c.next.ensures.goes l.invariant.1 in
    let more = filled_more (inserting o.below) o.value (in_use o.value c.args.len c.args.table.now) (map o.value l.yielded) l.n l.table l.invariant.2 long l.invariant.3 (o.value c.in-Some.t) c.in_ok-n.n c.insert.new.table told.answer.0 told.answer.1 in
    rw (map_push o.value l.yielded c.in-Some.t) (next.0, next.1, more.0, more.1, told.rest ∙ l.invariant.4)

pub returns : goal.returns
returns g c =
    let o = g.T.PartialOrder in
    let l = c.loop-t in
    let long : l.n ≤ length l.table = omega arith in
    record {
      answer = λ all a.
          let end = yields_end g.I.Iterator.next_gives o.value all _ l.t-iterator c.next.new.self l.yielded (subst (λ s. AlwaysYields g.I.Iterator.next_gives o.value s all) (sym c.into_iter-t-iterator.ensures.into_iter_gives) a) l.yielded_by c.in-None.ensures.steps in
          rw end (filled_all (inserting o.below) o.value (in_use o.value c.args.len c.args.table.now) (map o.value l.yielded) l.n l.table long l.invariant.3 (length c.args.table.now) c.args.len c.if-len-gt-FRONTIER_SIZE.false c.if-table-lt-FRONTIER_SIZE.false);
      rest = l.invariant.4;
    }
