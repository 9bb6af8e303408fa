use Rattle.writing.proofs.Putting.{puts_then}
use Rattle.writing.proofs.line_writer.LineWriter.number.Goals as goal

pub returns : goal.returns
returns g c = rw (← c.format.ensures.text, ← c.as_bytes.ensures.value) (puts_then c.text.result c.in_ok-byte.ensures c.text.ensures)
