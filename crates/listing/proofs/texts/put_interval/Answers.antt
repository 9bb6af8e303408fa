use Rattle.writing.proofs.Putting.{puts_as, puts_stop, puts_then}
use Rattle.listing.proofs.Listed.{interval_written}
use Rattle.listing.proofs.texts.put_interval.Goals as goal

pub returns-in_err-entries : goal.returns-in_err-entries
returns-in_err-entries c =
    let r = c.from_residual-in_err-entries in
    puts_as (interval_written c.args.changes.now c.args.times.now) (puts_then r.result c.in_ok-line.ensures (puts_stop r.result _ r.ensures.0 c.in_err-entries.ensures.text))

pub returns : goal.returns
returns c =
    let r = c.entries-2.result in
    puts_as (interval_written c.args.changes.now c.args.times.now) (puts_then r c.in_ok-line.ensures (puts_then r c.in_ok-entries.ensures.text c.entries-2.ensures.text))
