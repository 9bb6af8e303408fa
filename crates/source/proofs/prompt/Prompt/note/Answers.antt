use Rattle.std.proofs.Common.{sym, ap, ◌∙◌, subst}
use Rattle.std.proofs.lemmas.Result.{err_from_is_err_and}
use Rattle.capture.specs.Statements.{advanced}
use Rattle.capture.specs.Views.{statement_of}
use Rattle.progress.specs.Tables.{progress_of, ProgressSized}
use Rattle.source.specs.Calls.{timed, bare}
use Rattle.source.proofs.Sizes.{note_told}
use Rattle.source.proofs.Noting.{progress_fits, progress_copied, asked_alike, note_short, note_refused, note_done}
use Rattle.source.proofs.prompt.Prompt.note.Goals as goal

pub returns-then-not-are_note_sized : goal.returns-then-not-are_note_sized
returns-then-not-are_note_sized g c =
    let o = g.T.PartialOrder in
    let k = timed o.below g.T.Lattice.joined g.T.Timestamp.start in
    note_short k o.value bare (statement_of o.value c.args.statement) c.args.self.now c.args.frontier.now c.args.counts.now c.args.waiting.now c.args.scratch.frontier.now c.args.scratch.counts.now c.args.scratch.waiting.now c.args.scratch.join.now _ (sym c.are_note_sized.ensures ∙ c.if-not-are_note_sized.true)

pub invariant_of-own : goal.invariant_of-own
invariant_of-own g c = record { sized = (note_told c.args.self.now c.args.frontier.now c.args.counts.now c.args.waiting.now c.args.scratch.frontier.now c.args.scratch.counts.now c.args.scratch.waiting.now c.args.scratch.join.now (sym c.are_note_sized.ensures ∙ c.if-not-are_note_sized.false)).0 }

pub invariant_of-made : goal.invariant_of-made
invariant_of-made g c = record { sized = (note_told c.args.self.now c.args.frontier.now c.args.counts.now c.args.waiting.now c.args.scratch.frontier.now c.args.scratch.counts.now c.args.scratch.waiting.now c.args.scratch.join.now (sym c.are_note_sized.ensures ∙ c.if-not-are_note_sized.false)).1 }

pub returns-in_err-advance : goal.returns-in_err-advance
returns-in_err-advance g c =
    let o = g.T.PartialOrder in
    let k = timed o.below g.T.Lattice.joined g.T.Timestamp.start in
    let s = statement_of o.value c.args.statement in
    let n₀ = c.args.self.now.progress in
    let fit = sym c.are_note_sized.ensures ∙ c.if-not-are_note_sized.false in
    let spare = (note_told c.args.self.now c.args.frontier.now c.args.counts.now c.args.waiting.now c.args.scratch.frontier.now c.args.scratch.counts.now c.args.scratch.waiting.now c.args.scratch.join.now fit).2 in
    let made = c.copy_to.new.other in
    let held = c.copy_to.ensures.entries in
    let F = made.frontier.now in
    let C = made.counts.now in
    let W = made.waiting.now in
    let roomy = progress_fits n₀ F C W c.args.scratch.join.now (subst (λ n. ProgressSized n F C W) held.0 made.sized) spare in
    let same = progress_copied o.value n₀ c.args.frontier.now F c.args.counts.now C c.args.waiting.now W held.1 held.2 held.3 in
    let q = err_from_is_err_and c.from_residual.result c.from_residual.ensures.1 in
    let asked = asked_alike k s o.value F C W c.args.scratch.join.now held.0 spare roomy in
    rw (q.1, q.2) (note_refused k o.value bare s c.args.self.now c.args.frontier.now c.args.counts.now c.args.waiting.now c.args.scratch.frontier.now c.args.scratch.counts.now c.args.scratch.waiting.now c.args.scratch.join.now fit F C W roomy same _ c.in_err-advance.field-0.0 (asked ∙ c.in_err-advance.ensures.answer.0))

pub returns : goal.returns
returns g c =
    let o = g.T.PartialOrder in
    let k = timed o.below g.T.Lattice.joined g.T.Timestamp.start in
    let s = statement_of o.value c.args.statement in
    let n₀ = c.args.self.now.progress in
    let fit = sym c.are_note_sized.ensures ∙ c.if-not-are_note_sized.false in
    let spare = (note_told c.args.self.now c.args.frontier.now c.args.counts.now c.args.waiting.now c.args.scratch.frontier.now c.args.scratch.counts.now c.args.scratch.waiting.now c.args.scratch.join.now fit).2 in
    let made = c.copy_to.new.other in
    let held = c.copy_to.ensures.entries in
    let F = made.frontier.now in
    let C = made.counts.now in
    let W = made.waiting.now in
    let roomy = progress_fits n₀ F C W c.args.scratch.join.now (subst (λ n. ProgressSized n F C W) held.0 made.sized) spare in
    let same = progress_copied o.value n₀ c.args.frontier.now F c.args.counts.now C c.args.waiting.now W held.1 held.2 held.3 in
    let asked = asked_alike k s o.value F C W c.args.scratch.join.now held.0 spare roomy in
    let told = c.in_ok-advance.ensures.answer in
    let moved = c.advance.new.self in
    let F₂ = moved.frontier.now in
    let C₂ = moved.counts.now in
    let W₂ = moved.waiting.now in
    let own = c.copy_to-2.new.other in
    let back = c.copy_to-2.ensures.entries in
    let kept = c.copy_to-2.ensures.tables in
    let n = own.lengths in
    let came = ap (λ m. progress_of o.value m F₂ C₂ W₂) back.0 ∙ told.1 ∙ ap (λ m. advanced k.time s (progress_of o.value m F C W)) held.0 in
    let copied = ap (λ m. progress_of o.value m own.frontier.now own.counts.now own.waiting.now) back.0 ∙ progress_copied o.value moved.lengths F₂ own.frontier.now C₂ own.counts.now W₂ own.waiting.now back.1 back.2 back.3 ∙ ap (λ m. progress_of o.value m F₂ C₂ W₂) (sym back.0) in
    rw (c.frontier-2-1.given.1.1 (sym kept.0), c.counts-2-1.given.1.1 (sym kept.1), c.waiting-2-1.given.1.1 (sym kept.2))
    (note_done k o.value bare s c.args.self.now c.args.frontier.now c.args.counts.now c.args.waiting.now c.args.scratch.frontier.now c.args.scratch.counts.now c.args.scratch.waiting.now c.args.scratch.join.now fit F C W roomy same tt (asked ∙ told.0) n F₂ C₂ W₂ came own.frontier.now own.counts.now own.waiting.now own.sized copied)
