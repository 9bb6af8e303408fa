use Rattle.std.proofs.Common.{◌≡◌, suc, ◌+◌, ◌-◌, ◌<◌, ◌≤◌, map, length, sym, ap, ◌∙◌, arith, rules}
use Rattle.std.proofs.lemmas.Result.{err_from_is_err_and}
use Rattle.std.specs.List.{prefix_len}
use Rattle.questions.specs.Questions.{number_of, first_no}
use Rattle.frontier.proofs.Tables.{length_in_use}
use Rattle.capture.specs.Statements.{act, act_asks, drained, drain_asks}
use Rattle.capture.specs.Stored.{stored_statement}
use Rattle.progress.specs.Tables.{time_of}
use Rattle.progress.specs.Lent.{progress_in}
use Rattle.progress.proofs.Acting.{drained_turn, asked_turn, stopped_turn, drained_none, asked_none}
use Rattle.progress.proofs.Waiting.{unready, chosen_at}
use Rattle.progress.proofs.tables.ProgressTables+T+StoredProgress+T.drain.Goals as goal

pub offset_bounds-self-at : goal.offset_bounds-self-at
offset_bounds-self-at g c =
    let h : c.first_ready-at.result < length c.loop.self.waiting.now = omega (arith, c.loop.self.sized.4, c.loop.self.sized.5) in
    search rules

pub returns-then-at-self : goal.returns-then-at-self
returns-then-at-self g c =
    let o = g.T.PartialOrder in
    let t = time_of o.below g.T.Lattice.joined g.T.Timestamp.start in
    let self = c.loop.self in
    let p = progress_in o.value self in
    let m = c.args.turns - (c.loop.counter + 1) in
    let turn : c.args.turns - c.loop.counter ≡ suc m = omega arith in
    let place : c.first_ready-at.result ≡ prefix_len (unready o.below p.frontier) p.waiting = c.first_ready-at.ensures ∙ ap (λ xs. prefix_len (unready o.below (map o.value xs)) (map (stored_statement o.value) c.waiting.result.now)) c.frontier.ensures ∙ ap (λ ws. prefix_len (unready o.below p.frontier) (map (stored_statement o.value) ws)) c.waiting.ensures in
    let size = length_in_use (stored_statement o.value) self.lengths.waiting self.waiting.now (omega (arith, self.sized.4, self.sized.5)) in
    let none : length p.waiting ≤ prefix_len (unready o.below p.frontier) p.waiting = omega (arith, place, size, c.if-at-self.true) in
    let order = g.met.T.PartialOrder.order in
    let joins = g.met.T.Lattice.joins in
    record {
      answer = (c.loop.invariant.1 ∙ ap (λ k. first_no (drain_asks t k p)) turn ∙ asked_none t order joins p m none, sym (c.loop.invariant.0 ∙ ap (λ k. drained t k p) turn ∙ drained_none t order joins p m none));
      tables = c.loop.invariant.2;
    }

pub returns-in_err-act-clause-answer : goal.returns-in_err-act-clause-answer
returns-in_err-act-clause-answer g c =
    let o = g.T.PartialOrder in
    let t = time_of o.below g.T.Lattice.joined g.T.Timestamp.start in
    let self = c.loop.self in
    let p = progress_in o.value self in
    let m = c.args.turns - (c.loop.counter + 1) in
    let turn : c.args.turns - c.loop.counter ≡ suc m = omega arith in
    let y = c.index-self-at.result in
    let long : self.lengths.waiting ≤ length self.waiting.now = omega (arith, self.sized.4, self.sized.5) in
    let place : c.first_ready-at.result ≡ prefix_len (unready o.below p.frontier) p.waiting = c.first_ready-at.ensures ∙ ap (λ xs. prefix_len (unready o.below (map o.value xs)) (map (stored_statement o.value) c.waiting.result.now)) c.frontier.ensures ∙ ap (λ ws. prefix_len (unready o.below p.frontier) (map (stored_statement o.value) ws)) c.waiting.ensures in
    let size = length_in_use (stored_statement o.value) self.lengths.waiting self.waiting.now long in
    let some : prefix_len (unready o.below p.frontier) p.waiting < length p.waiting = omega (arith, place, size, c.if-at-self.false) in
    let chosen = chosen_at o.below p.frontier (stored_statement o.value) self.waiting.now self.lengths.waiting c.first_ready-at.result place y (stored_statement o.value y) c.index-self-at.is c.if-at-self.false long ∙ ap (stored_statement o.value) c.index-self-at.is ∙ sym c.view.ensures in
    let end = stopped_turn t g.met.T.PartialOrder.order g.met.T.Lattice.joins p m (stored_statement o.value y) some (number_of c.in_err-act.field-0.0) (ap (λ s. first_no (act_asks t s p)) chosen ∙ c.in_err-act.ensures.answer.0) in
    let q = err_from_is_err_and c.from_residual.result c.from_residual.ensures.1 in
    rw (q.1, q.2) (c.loop.invariant.1 ∙ ap (λ k. first_no (drain_asks t k p)) turn ∙ end, tt)

pub loop-preserved : goal.loop-preserved
loop-preserved g c =
    let o = g.T.PartialOrder in
    let t = time_of o.below g.T.Lattice.joined g.T.Timestamp.start in
    let self = c.loop.self in
    let p = progress_in o.value self in
    let m = c.args.turns - (c.loop.counter + 1) in
    let turn : c.args.turns - c.loop.counter ≡ suc m = omega arith in
    let y = c.index-self-at.result in
    let long : self.lengths.waiting ≤ length self.waiting.now = omega (arith, self.sized.4, self.sized.5) in
    let place : c.first_ready-at.result ≡ prefix_len (unready o.below p.frontier) p.waiting = c.first_ready-at.ensures ∙ ap (λ xs. prefix_len (unready o.below (map o.value xs)) (map (stored_statement o.value) c.waiting.result.now)) c.frontier.ensures ∙ ap (λ ws. prefix_len (unready o.below p.frontier) (map (stored_statement o.value) ws)) c.waiting.ensures in
    let size = length_in_use (stored_statement o.value) self.lengths.waiting self.waiting.now long in
    let some : prefix_len (unready o.below p.frontier) p.waiting < length p.waiting = omega (arith, place, size, c.if-at-self.false) in
    let chosen = chosen_at o.below p.frontier (stored_statement o.value) self.waiting.now self.lengths.waiting c.first_ready-at.result place y (stored_statement o.value y) c.index-self-at.is c.if-at-self.false long ∙ ap (stored_statement o.value) c.index-self-at.is ∙ sym c.view.ensures in
    let order = g.met.T.PartialOrder.order in
    let joins = g.met.T.Lattice.joins in
    let told = c.in_ok-act.ensures in
    let acted = ap (λ s. act t s p) chosen ∙ sym told.answer.1 in
    let asked = asked_turn t order joins p m (stored_statement o.value y) some (ap (λ s. first_no (act_asks t s p)) chosen ∙ told.answer.0) in
    let same = c.loop.invariant.2 in (
      c.loop.invariant.0 ∙ ap (λ k. drained t k p) turn ∙ drained_turn t order joins p m (stored_statement o.value y) some ∙ ap (drained t m) acted,
      c.loop.invariant.1 ∙ ap (λ k. first_no (drain_asks t k p)) turn ∙ asked ∙ ap (λ q. first_no (drain_asks t m q)) acted,
      (told.tables.0 ∙ same.0, told.tables.1 ∙ same.1, told.tables.2 ∙ same.2),
    )

pub returns-clause-answer : goal.returns-clause-answer
returns-clause-answer g c =
    let o = g.T.PartialOrder in
    let t = time_of o.below g.T.Lattice.joined g.T.Timestamp.start in
    let p = progress_in o.value c.loop.self in
    let over : c.args.turns - c.loop.counter ≡ 0 = omega arith in
    (c.loop.invariant.1 ∙ ap (λ k. first_no (drain_asks t k p)) over, sym (c.loop.invariant.0 ∙ ap (λ k. drained t k p) over))
