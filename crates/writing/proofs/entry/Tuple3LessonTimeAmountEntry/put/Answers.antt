use Rattle.std.proofs.Common.{[], ◌∷◌, ◌++◌, to_z-of_z, w16, SFits, rules}
use Rattle.std.specs.Fmt.{signed_decimal}
use Rattle.timetable.specs.Lessons.{amount_value}
use Rattle.writing.proofs.Putting.{puts_as, puts_stop, puts_then, change_written}
use Rattle.writing.proofs.entry.Tuple3LessonTimeAmountEntry.put.Goals as goal

pub returns-in_err-entries-clause-text : goal.returns-in_err-entries-clause-text
returns-in_err-entries-clause-text c =
    let r = c.from_residual-in_err-entries in
    let amount = (9 ∷ signed_decimal (amount_value c.args.self.2)) ++ 10 ∷ [] in
    let numbers = rw (c.number.ensures.value, c.class.ensures.value, c.room.ensures.value, c.period.ensures.value) at c.in_err-entries.ensures.text in
    puts_as (change_written c.args.mark c.args.self) (puts_then r.result c.in_ok-byte.ensures (puts_stop r.result amount r.ensures.0 numbers))

pub returns-in_err-number-clause-text : goal.returns-in_err-number-clause-text
returns-in_err-number-clause-text c =
    let r = c.from_residual-in_err-number in
    let fits : SFits w16 c.number-2.result = search rules in
    let numbers = rw (c.number.ensures.value, c.class.ensures.value, c.room.ensures.value, c.period.ensures.value) at c.in_ok-entries.ensures.text in
    let amount = rw c.number-2.ensures.value at (simp to_z-of_z at c.in_err-number.ensures) in
    puts_as (change_written c.args.mark c.args.self) (puts_then r.result c.in_ok-byte.ensures (puts_then r.result numbers (puts_stop r.result (10 ∷ []) r.ensures.0 amount)))

pub returns-clause-text : goal.returns-clause-text
returns-clause-text c =
    let r = c.byte-2.result in
    let fits : SFits w16 c.number-2.result = search rules in
    let numbers = rw (c.number.ensures.value, c.class.ensures.value, c.room.ensures.value, c.period.ensures.value) at c.in_ok-entries.ensures.text in
    let amount = rw c.number-2.ensures.value at (simp to_z-of_z at c.in_ok-number.ensures) in
    puts_as (change_written c.args.mark c.args.self) (puts_then r c.in_ok-byte.ensures (puts_then r numbers (puts_then r amount c.byte-2.ensures)))
