use Rattle.std.proofs.Common.{Err, sym, ap, ◌∙◌, arith}
use Rattle.lines.specs.Ahead.{left}
use Rattle.lines.proofs.Cutting.{cut_shorter}
use Rattle.lines.proofs.Reading.{ahead_malformed, ahead_said, no_line, said_some}
use Rattle.lines.proofs.said.next_said.Goals as goal

pub returns-in_default : goal.returns-in_default
returns-in_default c = record { same = c.in_default.ensures.count; said = λ d. no_line d c.args.lines.now.count (left c.args.lines.now) c.in_default.ensures.line }

pub returns-in_default-read_line : goal.returns-in_default-read_line
returns-in_default-read_line c = λ d.
    ahead_malformed d c.args.lines.now c.next_line.new.self c.in-Some.line.now c.in-Some.ensures.line c.in-Some.ensures.count c.in_default-read_line.ensures ∙ ap Err (sym c.count.ensures)

pub returns : goal.returns
returns c = record {
  said = λ d. ahead_said d c.args.lines.now c.next_line.new.self c.in-Some.line.now c.in-Some.ensures.line c.in-Some.ensures.count c.in-Some-read_line.said c.in-Some-read_line.ensures;
  on = cut_shorter (left c.args.lines.now) (c.in-Some.line.now, left c.next_line.new.self) c.in-Some.ensures.line;
  few = omega (arith, c.args.lines.now.small, c.in-Some.ensures.count, c.in-Some.ensures.place, said_some c.in-Some.line.now _ c.in-Some-read_line.ensures);
}
