use Rattle.std.proofs.Common.{◌≡◌, map, length, ap, ◌∙◌, arith}
use Rattle.std.proofs.lemmas.Result.{err_from_is_err_and}
use Rattle.questions.specs.Questions.{number_of}
use Rattle.frontier.specs.Tables.{counted}
use Rattle.capture.specs.Statements.{advanced}
use Rattle.capture.specs.Stored.{stored_statement}
use Rattle.capture.specs.Views.{statement_of}
use Rattle.progress.specs.Tables.{time_of, progress_of, progress_sized}
use Rattle.progress.proofs.Acting.{same_progress}
use Rattle.iterator.proofs.Weighing.{all_sized, statement_no, statement_yes, edge_no, edge_yes}
use Rattle.iterator.proofs.held.feeding.Feeding.weigh_statement.Goals as goal

pub returns-in_err-n : goal.returns-in_err-n
returns-in_err-n g c =
    let o = g.T.PartialOrder in
    let t = time_of o.below g.T.Lattice.joined g.T.Timestamp.start in
    let n = c.args.self.now.reader.now.progress in
    let s = statement_of o.value c.args.statement in
    let p = progress_of o.value n c.args.self.now.frontier.now c.args.self.now.counts.now c.args.self.now.waiting.now in
    let F = c.copy_entries.new.to in
    let C = c.copy_entries-2.new.to in
    let W = c.copy_entries-3.new.to in
    let same : progress_of o.value n F C W ≡ p = same_progress (ap (map o.value) c.copy_entries.ensures.front) (ap (map (counted o.value)) c.copy_entries-2.ensures.front) (ap (map (stored_statement o.value)) c.copy_entries-3.ensures.front) in
    let yes = all_sized n F C W c.args.edge.now c.requires.reader.0.0 (omega (arith, c.copy_entries.auto.to, c.requires.scratch.0)) c.requires.reader.0.1 (omega (arith, c.copy_entries-2.auto.to, c.requires.scratch.1)) c.requires.reader.0.2 (omega (arith, c.copy_entries-3.auto.to, c.requires.scratch.2)) c.requires.scratch.3 in
    let q = err_from_is_err_and c.from_residual.result c.from_residual.ensures.1 in
    rw (q.1, q.2) (statement_no t s p (progress_of o.value n F C W) same (progress_sized n F C W c.args.edge.now) yes (number_of c.in_err-n.field-0.0) c.in_err-n.ensures.0, tt)

pub returns-in_err-end : goal.returns-in_err-end
returns-in_err-end g c =
    let o = g.T.PartialOrder in
    let t = time_of o.below g.T.Lattice.joined g.T.Timestamp.start in
    let n = c.args.self.now.reader.now.progress in
    let s = statement_of o.value c.args.statement in
    let p = progress_of o.value n c.args.self.now.frontier.now c.args.self.now.counts.now c.args.self.now.waiting.now in
    let F = c.copy_entries.new.to in
    let C = c.copy_entries-2.new.to in
    let W = c.copy_entries-3.new.to in
    let same : progress_of o.value n F C W ≡ p = same_progress (ap (map o.value) c.copy_entries.ensures.front) (ap (map (counted o.value)) c.copy_entries-2.ensures.front) (ap (map (stored_statement o.value)) c.copy_entries-3.ensures.front) in
    let yes = all_sized n F C W c.args.edge.now c.requires.reader.0.0 (omega (arith, c.copy_entries.auto.to, c.requires.scratch.0)) c.requires.reader.0.1 (omega (arith, c.copy_entries-2.auto.to, c.requires.scratch.1)) c.requires.reader.0.2 (omega (arith, c.copy_entries-3.auto.to, c.requires.scratch.2)) c.requires.scratch.3 in
    let told = c.in_ok-n.ensures in
    let first = statement_yes t s p (progress_of o.value n F C W) same (progress_sized n F C W c.args.edge.now) yes told.0 in
    let m = c.in_ok-n.n in
    let F' = c.advance.new.frontier in
    let C' = c.advance.new.counts in
    let W' = c.advance.new.waiting in
    let made : progress_of o.value m F' C' W' ≡ advanced t s p = told.1.0 ∙ ap (advanced t s) same in
    let l = length c.advance.new.scratch in
    let q = err_from_is_err_and c.from_residual-in_err-end.result c.from_residual-in_err-end.ensures.1 in
    rw (q.1, q.2) (first ∙ edge_no t o.value m F' C' W' (advanced t s p) made l told.1.1 (omega (arith, c.advance.auto.scratch, c.requires.scratch.3)) (number_of c.in_err-end.field-0.0) c.in_err-end.ensures.0, tt)

pub returns : goal.returns
returns g c =
    let o = g.T.PartialOrder in
    let t = time_of o.below g.T.Lattice.joined g.T.Timestamp.start in
    let n = c.args.self.now.reader.now.progress in
    let s = statement_of o.value c.args.statement in
    let p = progress_of o.value n c.args.self.now.frontier.now c.args.self.now.counts.now c.args.self.now.waiting.now in
    let F = c.copy_entries.new.to in
    let C = c.copy_entries-2.new.to in
    let W = c.copy_entries-3.new.to in
    let same : progress_of o.value n F C W ≡ p = same_progress (ap (map o.value) c.copy_entries.ensures.front) (ap (map (counted o.value)) c.copy_entries-2.ensures.front) (ap (map (stored_statement o.value)) c.copy_entries-3.ensures.front) in
    let yes = all_sized n F C W c.args.edge.now c.requires.reader.0.0 (omega (arith, c.copy_entries.auto.to, c.requires.scratch.0)) c.requires.reader.0.1 (omega (arith, c.copy_entries-2.auto.to, c.requires.scratch.1)) c.requires.reader.0.2 (omega (arith, c.copy_entries-3.auto.to, c.requires.scratch.2)) c.requires.scratch.3 in
    let told = c.in_ok-n.ensures in
    let first = statement_yes t s p (progress_of o.value n F C W) same (progress_sized n F C W c.args.edge.now) yes told.0 in
    let m = c.in_ok-n.n in
    let F' = c.advance.new.frontier in
    let C' = c.advance.new.counts in
    let W' = c.advance.new.waiting in
    let made : progress_of o.value m F' C' W' ≡ advanced t s p = told.1.0 ∙ ap (advanced t s) same in
    let l = length c.advance.new.scratch in
    let end = c.in_ok-end.ensures in
    let edge = edge_yes t o.value m F' C' W' (advanced t s p) made l c.in_ok-end.end c.lower_edge.new.edge end.0 end.1 in
    (first ∙ edge.0, ((made, told.1.1, told.1.2, told.1.3), edge.1))
