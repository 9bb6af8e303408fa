use Rattle.std.proofs.Common.{take, Ok}
use Rattle.writing.specs.Puts.{Puts}
use Rattle.writing.proofs.line_writer.LineWriter.text.Given as goal

-- the bytes so far are put
abbrev pub invariant-loop-byte : goal.invariant-loop-byte
invariant-loop-byte l = Puts (Ok (tt {0})) l.initial.self l.self (take l.byte-index l.text)
