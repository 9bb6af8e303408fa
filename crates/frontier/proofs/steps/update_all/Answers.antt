use Rattle.std.proofs.Common.{◌≤◌, map, length, sym, ap, ◌∙◌, subst, arith, rules, ℤ, w64, SFits}
use Rattle.std.specs.Iterator.{AlwaysYields}
use Rattle.std.proofs.iter.Next.{on}
use Rattle.std.proofs.lemmas.Int.{to_z-of_z}
use Rattle.std.proofs.lemmas.List.{map_push}
use Rattle.std.proofs.lemmas.Result.{err_from_is_err_and}
use Rattle.questions.specs.Questions.{number_of, first_no}
use Rattle.frontier.specs.Counts.{room}
use Rattle.frontier.specs.Tables.{in_use, counted, table_asks}
use Rattle.frontier.proofs.Filling.{filled_more, filled_stop, filled_all, adding}
use Rattle.frontier.proofs.Yielding.{yields_on, yields_end}
use Rattle.frontier.proofs.steps.update_all.Goals as goal

pub returns-in_err-n : goal.returns-in_err-n
returns-in_err-n g c =
    let o = g.T.PartialOrder in
    let l = c.loop-time in
    let start = in_use (counted o.value) c.args.len c.args.table.now in
    let item : g.row.T.Denot × ℤ = (c.in-Some.time, c.in-Some.amount) in
    let fits : SFits w64 c.in-Some.amount = search rules in
    let told = simp to_z-of_z at c.in_err-n.ensures.answer.0 in
    let long : c.args.limit ≤ length l.table = omega arith in
    let p = err_from_is_err_and c.from_residual.result c.from_residual.ensures.1 in
    rw (p.1, p.2) record {
      answer = λ all a.
          let left = yields_on g.I.Iterator.next_gives (counted o.value) all _ l.time-iterator c.next.new.self l.yielded item (subst (λ s. AlwaysYields g.I.Iterator.next_gives (counted o.value) s all) (sym c.into_iter-time-iterator.ensures.into_iter_gives) a) l.yielded_by c.in-Some.ensures.steps in
          let stop = filled_stop (adding o.below c.args.limit) (counted o.value) start (map (counted o.value) l.yielded) l.n l.table l.invariant.2 long l.invariant.3 (counted o.value item) (number_of c.in_err-n.field-0.0) told left.0 (length c.args.table.now) c.args.len c.if-len-limit.false c.if-table-limit.false in
          (ap (λ ys. first_no (table_asks c.args.limit 11 (length c.args.table.now) c.args.len (room o.below c.args.limit start ys))) left.1 ∙ stop, tt);
      rest = c.in_err-n.ensures.rest ∙ l.invariant.4;
    }

pub loop-time-preserved : goal.loop-time-preserved
loop-time-preserved g c =
    let o = g.T.PartialOrder in
    let l = c.loop-time in
    let item : g.row.T.Denot × ℤ = (c.in-Some.time, c.in-Some.amount) in
    let fits : SFits w64 c.in-Some.amount = search rules in
    let told = simp to_z-of_z at c.in_ok-n.ensures.answer in
    let long : c.args.limit ≤ length l.table = omega arith in
    let next = on item c.in-Some.is c.next.ensures.goes l.invariant.1 in
    let more = filled_more (adding o.below c.args.limit) (counted o.value) (in_use (counted o.value) c.args.len c.args.table.now) (map (counted o.value) l.yielded) l.n l.table l.invariant.2 long l.invariant.3 (counted o.value item) c.in_ok-n.n c.update.new.table told.0 told.1 in
    rw (map_push (counted o.value) l.yielded item) (next.0, next.1, more.0, more.1, c.in_ok-n.ensures.rest ∙ l.invariant.4)

pub returns : goal.returns
returns g c =
    let o = g.T.PartialOrder in
    let l = c.loop-time in
    let long : l.n ≤ length l.table = omega arith in
    record {
      answer = λ all a.
          let end = yields_end g.I.Iterator.next_gives (counted o.value) all _ l.time-iterator c.next.new.self l.yielded (subst (λ s. AlwaysYields g.I.Iterator.next_gives (counted o.value) s all) (sym c.into_iter-time-iterator.ensures.into_iter_gives) a) l.yielded_by c.in-None.ensures.steps in
          rw end (filled_all (adding o.below c.args.limit) (counted o.value) (in_use (counted o.value) c.args.len c.args.table.now) (map (counted o.value) l.yielded) l.n l.table long l.invariant.3 (length c.args.table.now) c.args.len c.if-len-limit.false c.if-table-limit.false);
      rest = l.invariant.4;
    }
