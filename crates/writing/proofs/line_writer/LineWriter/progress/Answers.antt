use Rattle.std.proofs.Common.{map, rules}
use Rattle.std.proofs.ByRecursion.{All-map}
use Rattle.std.specs.List.{AllByRecursion}
use Rattle.lines.specs.Values.{time_value}
use Rattle.writing.specs.Puts.{count_value}
use Rattle.writing.specs.Writing.{FormedTime, FormedCount}
use Rattle.writing.proofs.Putting.{puts_as, puts_stop, puts_then, statement_written}
use Rattle.writing.proofs.line_writer.LineWriter.progress.Goals as goal

pub returns-in_err-entries-clause-text : goal.returns-in_err-entries-clause-text
returns-in_err-entries-clause-text c =
    let r = c.from_residual-in_err-entries in
    puts_as (statement_written c.args.stated) (puts_then r.result c.in_ok-line.ensures (puts_stop r.result _ r.ensures.0 c.in_err-entries.ensures.text))

pub returns-in_err-entries-2-clause-text : goal.returns-in_err-entries-2-clause-text
returns-in_err-entries-2-clause-text c =
    let r = c.from_residual-in_err-entries-2 in
    puts_as (statement_written c.args.stated) (puts_then r.result c.in_ok-line.ensures (puts_then r.result c.in_ok-entries.ensures.text (puts_stop r.result _ r.ensures.0 c.in_err-entries-2.ensures.text)))

pub returns-in_err-entries-3-clause-text : goal.returns-in_err-entries-3-clause-text
returns-in_err-entries-3-clause-text c =
    let r = c.from_residual-in_err-entries-3 in
    puts_as (statement_written c.args.stated) (puts_then r.result c.in_ok-line.ensures (puts_then r.result c.in_ok-entries.ensures.text (puts_then r.result c.in_ok-entries-2.ensures.text (puts_stop r.result _ r.ensures.0 c.in_err-entries-3.ensures.text))))

pub returns-clause-text : goal.returns-clause-text
returns-clause-text c =
    let r = c.line-2.result in
    puts_as (statement_written c.args.stated) (puts_then r c.in_ok-line.ensures (puts_then r c.in_ok-entries.ensures.text (puts_then r c.in_ok-entries-2.ensures.text (puts_then r c.in_ok-entries-3.ensures.text c.line-2.ensures))))

pub returns-clause-form : goal.returns-clause-form
returns-clause-form c =
    let lower : AllByRecursion FormedTime (map time_value c.args.stated.lower.now) = All-map FormedTime time_value c.args.stated.lower.now c.in_ok-entries.ensures.form in
    let upper : AllByRecursion FormedTime (map time_value c.args.stated.upper.now) = All-map FormedTime time_value c.args.stated.upper.now c.in_ok-entries-2.ensures.form in
    let counts : AllByRecursion FormedCount (map count_value c.args.stated.counts.now) = All-map FormedCount count_value c.args.stated.counts.now c.in_ok-entries-3.ensures.form in
    search rules
