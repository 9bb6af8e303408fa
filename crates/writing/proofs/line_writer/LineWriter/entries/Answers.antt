use Rattle.writing.proofs.Putting.{puts_no_more}
use Rattle.writing.proofs.line_writer.LineWriter.entries.Goals as goal

pub returns-in_err-put-clause-text : goal.returns-in_err-put-clause-text
returns-in_err-put-clause-text g c = puts_no_more (g.E.Entry.text c.args.mark) c.args.entries.now c.loop-entry.entry-index c.entry-item.result c.loop-entry-test.true c.from_residual.result c.from_residual.ensures.0 c.loop-entry.invariant.put (rw (← c.entry-item.is) c.in_err-put.ensures.text)
