use Rattle.std.proofs.Common.{ℕ, [], ◌∷◌, ◌++◌, refl, ◌∙◌, rules, arith}
use Rattle.lattice.specs.declared.product.Product.{Product}
use Rattle.timetable.specs.declared.week.Week.{Week}
use Rattle.timetable.specs.declared.lesson.Lesson.{Lesson}
use Rattle.timetable.specs.declared.amount.Amount.{Amount}
use Rattle.timetable.specs.Lessons.{lesson_value, amount_value}
use Rattle.capture.specs.Rows.{row}
use Rattle.capture.specs.Views.{change_of}
use Rattle.lines.specs.Format.{in_changes}
use Rattle.lines.specs.Ahead.{HandsOut}
use Rattle.lines.specs.Values.{time_value}
use Rattle.lines.proofs.Reading.{went_on, pushed}
use Rattle.lines.proofs.updates.read_updates.Goals as goal

pub loop-said-preserved : goal.loop-said-preserved
loop-said-preserved c =
    let inv = c.loop-said.invariant in
    let after = c.next_said.new.lines in
    let line : HandsOut c.in-Some.said c.loop-said.lines after = search (rules, c.in-Some.is) in
    let value = change_of lesson_value time_value amount_value in
    let change : Lesson × Product ℕ Week × Amount = (c.in-Update.lesson, c.in-Update.time, c.in-Update.amount) in
    let more = pushed value 64 (row c.loop-said.updates) (row c.push.new.self) inv.0 change c.loop-said.whole c.is_ok-whole.result inv.2 inv.3 (c.is_ok-whole.ensures.value ∙ c.push.ensures.room) c.push.ensures.after in (
      inv.0 ++ value change ∷ [],
      went_on (in_changes []) (in_changes inv.0) (in_changes (inv.0 ++ value change ∷ [])) c.args.lines.now c.loop-said.lines after _ _ inv.1 line c.in-Update.is refl,
      more.0,
      more.1,
      line.few,
      omega (arith, inv.5, line.on),
    )
