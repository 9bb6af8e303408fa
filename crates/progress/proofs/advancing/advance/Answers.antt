use Rattle.std.proofs.Common.{◌≡◌, true, sym, ap, ◌∙◌, length}
use Rattle.questions.proofs.Asking.{asked_all, ask_next}
use Rattle.frontier.specs.Tables.{in_use, counted, sized, frontier_size}
use Rattle.capture.specs.Statements.{statement_asks}
use Rattle.capture.specs.Stored.{stored_statement}
use Rattle.capture.specs.Views.{statement_of}
use Rattle.progress.specs.Tables.{time_of, progress_of, progress_sized}
use Rattle.progress.specs.Lent.{progress_in}
use Rattle.progress.proofs.Acting.{same_progress}
use Rattle.progress.proofs.advancing.advance.Goals as goal

pub returns : goal.returns
returns g c =
    let o = g.T.PartialOrder in
    let t = time_of o.below g.T.Lattice.joined g.T.Timestamp.start in
    let n = c.args.lengths in
    let s = statement_of o.value c.args.statement in
    let p = progress_of o.value n c.args.frontier.now c.args.counts.now c.args.waiting.now in
    let tables = progress_sized n c.args.frontier.now c.args.counts.now c.args.waiting.now c.args.scratch.now in
    let yes : tables ≡ true = sym c.are_sized.ensures ∙ c.if-not-are_sized.false in
    let told = c.in_ok-advance.ensures.answer in
    let same = c.in_ok-advance.ensures.tables in
    let new = c.advance.new.self in
    let p' = progress_in o.value new in
    let rest = (asked_all (sized frontier_size 0 (length c.args.scratch.now)) 1 (statement_asks t s p) told.0).1 in
    (ask_next tables 1 (statement_asks t s p) yes ∙ rest, (same_progress {f' = p'.frontier} {c' = p'.counts} {w' = p'.waiting} (ap (in_use o.value new.lengths.frontier) (c.frontier-2-1.given.1.1 (sym same.0))) (ap (in_use (counted o.value) new.lengths.counts) (c.counts-2-1.given.1.1 (sym same.1))) (ap (in_use (stored_statement o.value) new.lengths.waiting) (c.waiting-2-1.given.1.1 (sym same.2))) ∙ told.1, new.sized.0, new.sized.2, new.sized.4))
