use Rattle.std.proofs.Common.{take, Ok}
use Rattle.std.specs.List.{flat_map, AllByRecursion}
use Rattle.writing.specs.Puts.{Puts}
use Rattle.writing.proofs.line_writer.LineWriter.entries.Given as goal

-- the entries so far are put, and what they read as has its form
abbrev pub invariant-loop-entry : goal.invariant-loop-entry
invariant-loop-entry g l =
    record {
      put : Puts (Ok (tt {0})) l.initial.self l.self (flat_map (g.E.Entry.text l.mark) (take l.entry-index l.entries));
      formed : AllByRecursion g.E.Entry.Formed (take l.entry-index l.entries);
    }
