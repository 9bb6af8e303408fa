use Rattle.std.proofs.Common.{map, rules}
use Rattle.std.proofs.ByRecursion.{All-map}
use Rattle.std.specs.List.{AllByRecursion}
use Rattle.writing.specs.Puts.{change_value}
use Rattle.writing.specs.Writing.{FormedChange}
use Rattle.writing.proofs.Putting.{puts_as, puts_stop, puts_then, changes_written}
use Rattle.writing.proofs.line_writer.LineWriter.updates.Goals as goal

pub returns-in_err-entries-clause-text : goal.returns-in_err-entries-clause-text
returns-in_err-entries-clause-text c =
    let r = c.from_residual-in_err-entries in
    puts_as (changes_written c.args.entries.now) (puts_then r.result c.in_ok-line.ensures (puts_stop r.result _ r.ensures.0 c.in_err-entries.ensures.text))

pub returns-clause-text : goal.returns-clause-text
returns-clause-text c =
    let r = c.line-2.result in
    puts_as (changes_written c.args.entries.now) (puts_then r c.in_ok-line.ensures (puts_then r c.in_ok-entries.ensures.text c.line-2.ensures))

pub returns-clause-form : goal.returns-clause-form
returns-clause-form c =
    let formed : AllByRecursion FormedChange (map change_value c.args.entries.now) = All-map FormedChange change_value c.args.entries.now c.in_ok-entries.ensures.form in
    search rules
