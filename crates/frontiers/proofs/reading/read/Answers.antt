use Rattle.std.proofs.Common.{[], sym, ◌∙◌, subst, arith}
use Rattle.std.proofs.lemmas.Result.{err_from_is_err_and}
use Rattle.lines.specs.Ahead.{left}
use Rattle.lines.specs.Cuts.{split_from}
use Rattle.lines.proofs.Cutting.{cut_shorter}
use Rattle.frontiers.specs.Reading.{told, Faulty}
use Rattle.frontiers.proofs.Lines.{line_read, line_faulty, lines_done, something_left}
use Rattle.frontiers.proofs.reading.read.Goals as goal

pub returns-in_err-add_line : goal.returns-in_err-add_line
returns-in_err-add_line c =
    let p = err_from_is_err_and c.from_residual.result c.from_residual.ensures.1 in
    let rest = left c.loop-line.lines in
    let behind = left c.next_line.new.self in
    let f = c.in_err-add_line.field-0.0 in
    let fault = line_faulty (told c.loop-line.input) rest c.in-Some.line.now behind c.in-Some.ensures.line f (c.in_err-add_line.ensures.said (split_from [] behind).0) in
    rw (p.1, p.2) (subst (Faulty f) (sym c.loop-line.invariant.0) fault)

pub loop-line-preserved : goal.loop-line-preserved
loop-line-preserved c =
    let behind = left c.next_line.new.self in
    (c.loop-line.invariant.0 ∙ line_read (told c.loop-line.input) (left c.loop-line.lines) c.in-Some.line.now behind c.in-Some.ensures.line (told c.add_line.new.self) (c.in_ok-add_line.ensures.said (split_from [] behind).0), omega (arith, c.in_ok-add_line.ensures.count, c.in-Some.ensures.count, c.loop-line.invariant.1))

pub returns-then-not-is_done : goal.returns-then-not-is_done
returns-then-not-is_done c =
    let l = told c.loop-line.input in
    let rest = left c.loop-line.lines in
    c.loop-line.invariant.0 ∙ lines_done l rest c.in_default.ensures.line ∙ something_left l rest (rw c.in_default.ensures.count at (sym c.if-not-is_done.ensures))

pub loop-line-smaller : goal.loop-line-smaller
loop-line-smaller c = cut_shorter (left c.loop-line.lines) (c.in-Some.line.now, left c.next_line.new.self) c.in-Some.ensures.line
