use Rattle.std.proofs.Common.{◌≡◌, true, false, ltb, [], ◌∷◌, map, length, sym, refl, ap, ◌∙◌, arith}
use Rattle.std.proofs.lemmas.Result.{err_from_is_err_and}
use Rattle.questions.specs.Questions.{first_no}
use Rattle.questions.proofs.Asking.{answered_so}
use Rattle.frontier.specs.Frontiers.{leq}
use Rattle.frontier.proofs.Tables.{length_in_use}
use Rattle.capture.specs.Sizes.{reader_statements}
use Rattle.capture.specs.Statements.{act, drained, passed, ready}
use Rattle.capture.specs.Stored.{stored_statement}
use Rattle.capture.specs.Views.{statement_of}
use Rattle.progress.specs.Tables.{time_of, turns_asks, course_asks}
use Rattle.progress.specs.Lent.{progress_in}
use Rattle.progress.proofs.Acting.{same_progress, dropped_asks, dropped, acting_asks, acting, waiting_asks, waits}
use Rattle.progress.proofs.tables.ProgressTables+T+StoredProgress+T.dispatch.Goals as goal

pub returns-then-antichain_less_equal-clause-answer : goal.returns-then-antichain_less_equal-clause-answer
returns-then-antichain_less_equal-clause-answer g c =
    let o = g.T.PartialOrder in
    let t = time_of o.below g.T.Lattice.joined g.T.Timestamp.start in
    let s = statement_of o.value c.args.statement in
    let p = progress_in o.value c.args.self.now in
    let old : passed o.below p.frontier s ≡ true = ap (λ xs. leq o.below s.upper (map o.value xs)) (sym c.frontier.ensures) ∙ sym c.antichain_less_equal.ensures ∙ c.if-antichain_less_equal.true in
    (ap first_no (dropped_asks t s p old), sym (dropped t s p old))

pub returns-then-antichain_less_equal-2-clause-answer : goal.returns-then-antichain_less_equal-2-clause-answer
returns-then-antichain_less_equal-2-clause-answer g c =
    let o = g.T.PartialOrder in
    let t = time_of o.below g.T.Lattice.joined g.T.Timestamp.start in
    let self = c.args.self.now in
    let s = statement_of o.value c.args.statement in
    let p = progress_in o.value self in
    let new : passed o.below p.frontier s ≡ false = ap (λ xs. leq o.below s.upper (map o.value xs)) (sym c.frontier.ensures) ∙ sym c.antichain_less_equal.ensures ∙ c.if-antichain_less_equal.false in
    let can : ready o.below p.frontier s ≡ true = ap (λ xs. leq o.below s.lower (map o.value xs)) (sym c.frontier-2.ensures) ∙ sym c.antichain_less_equal-2.ensures ∙ c.if-antichain_less_equal-2.true in
    let size : length p.waiting ≡ self.lengths.waiting = length_in_use (stored_statement o.value) self.lengths.waiting self.waiting.now (omega (arith, self.sized.4, self.sized.5)) in
    answered_so c.act_in_turn.result (turns_asks t self.lengths.waiting s p) (course_asks t s p) (ap first_no (ap (λ k. turns_asks t k s p) (sym size) ∙ sym (acting_asks t s p new can))) (λ x h. h ∙ ap (λ k. drained t k (act t s p)) (sym size) ∙ sym (acting t s p new can)) (λ u. u) c.act_in_turn.ensures.answer

pub returns-in_err-self-clause-answer : goal.returns-in_err-self-clause-answer
returns-in_err-self-clause-answer g c =
    let o = g.T.PartialOrder in
    let t = time_of o.below g.T.Lattice.joined g.T.Timestamp.start in
    let self = c.args.self.now in
    let s = statement_of o.value c.args.statement in
    let p = progress_in o.value self in
    let new : passed o.below p.frontier s ≡ false = ap (λ xs. leq o.below s.upper (map o.value xs)) (sym c.frontier.ensures) ∙ sym c.antichain_less_equal.ensures ∙ c.if-antichain_less_equal.false in
    let cannot : ready o.below p.frontier s ≡ false = ap (λ xs. leq o.below s.lower (map o.value xs)) (sym c.frontier-2.ensures) ∙ sym c.antichain_less_equal-2.ensures ∙ c.if-antichain_less_equal-2.false in
    let size : length p.waiting ≡ self.lengths.waiting = length_in_use (stored_statement o.value) self.lengths.waiting self.waiting.now (omega (arith, self.sized.4, self.sized.5)) in
    let q = err_from_is_err_and c.from_residual.result c.from_residual.ensures.1 in
    rw (q.1, q.2) (ap first_no (waiting_asks t s p new cannot) ∙ ap (λ k. first_no ((ltb k reader_statements, 10) ∷ [])) size ∙ c.in_err-self.ensures.0, tt)

pub returns-clause-answer : goal.returns-clause-answer
returns-clause-answer g c =
    let o = g.T.PartialOrder in
    let t = time_of o.below g.T.Lattice.joined g.T.Timestamp.start in
    let self = c.args.self.now in
    let s = statement_of o.value c.args.statement in
    let p = progress_in o.value self in
    let new : passed o.below p.frontier s ≡ false = ap (λ xs. leq o.below s.upper (map o.value xs)) (sym c.frontier.ensures) ∙ sym c.antichain_less_equal.ensures ∙ c.if-antichain_less_equal.false in
    let cannot : ready o.below p.frontier s ≡ false = ap (λ xs. leq o.below s.lower (map o.value xs)) (sym c.frontier-2.ensures) ∙ sym c.antichain_less_equal-2.ensures ∙ c.if-antichain_less_equal-2.false in
    let size : length p.waiting ≡ self.lengths.waiting = length_in_use (stored_statement o.value) self.lengths.waiting self.waiting.now (omega (arith, self.sized.4, self.sized.5)) in
    let told = c.in_ok-self.ensures in
    (ap first_no (waiting_asks t s p new cannot) ∙ ap (λ k. first_no ((ltb k reader_statements, 10) ∷ [])) size ∙ told.0, same_progress refl refl told.1.0 ∙ sym (waits t s p new cannot))
