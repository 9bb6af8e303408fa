use Rattle.std.proofs.Common.{◌≤◌, [], ◌∷◌, ◌++◌, length, take, ap, sym, ◌∙◌, refl, arith}
use Rattle.std.proofs.lemmas.List.{length-map, length-take}
use Rattle.std.proofs.lemmas.Result.{err_from_is_err_and}
use Rattle.questions.proofs.Asking.{answered_so}
use Rattle.frontier.specs.Tables.{in_use, counted}
use Rattle.capture.specs.Messages.{statement}
use Rattle.capture.specs.Stored.{queued}
use Rattle.capture.proofs.MadeWell.{announced_few}
use Rattle.sink.proofs.Asking.{yes, no_here, no_by_call, yes_by_call, by_push}
use Rattle.sink.proofs.Sizes.{all_sized, not_sized}
use Rattle.sink.proofs.Pumping.{same_sender}
use Rattle.sink.proofs.Closing.{short_stated}
use Rattle.sink.proofs.sender.OpenSender.state_rest.Goals as goal

pub returns-then-not-are_sized-clause-answer : goal.returns-then-not-are_sized-clause-answer
returns-then-not-are_sized-clause-answer g c = (no_here _ (not_sized c.are_sized.result 256 (length c.args.announced.now) c.are_sized.ensures.value c.then-not-are_sized.either) refl, (refl, refl))

pub returns-in_err-n-clause-answer : goal.returns-in_err-n-clause-answer
returns-in_err-n-clause-answer g c =
    let long = all_sized c.are_sized.result 256 (length c.args.announced.now) c.are_sized.ensures.value c.if-not-are_sized.false c.if-announced-lt-STATEMENT_COUNTS.false in
    let told = c.in_err-n.ensures {u = tt} in
    let p = err_from_is_err_and c.from_residual.result c.from_residual.ensures.1 in
    rw (p.1, p.2) (yes _ long (no_by_call _ _ 5 _ told.0), (refl, refl))

pub push-requires : goal.push-requires
push-requires g c = let long = c.if-not-are_sized.ensures.long in (omega arith, omega arith)

pub returns-clause-answer : goal.returns-clause-answer
returns-clause-answer g c =
    let o = g.T.PartialOrder in
    let long = all_sized c.are_sized.result 256 (length c.args.announced.now) c.are_sized.ensures.value c.if-not-are_sized.false c.if-announced-lt-STATEMENT_COUNTS.false in
    let told = c.in_ok-n.ensures {u = tt} in
    let small = yes_by_call _ 5 told.0 in
    let few : c.in_ok-n.n ≤ 256 = omega (arith, told.1.1, announced_few o.below [] (in_use (counted o.value) c.args.self.now.counts c.args.counts.now), length-map (take c.args.self.now.counts c.args.counts.now) (counted o.value), length-take c.args.self.now.counts c.args.counts.now, c.args.self.now.few_counts) in
    let brief = short_stated o.value c.args.frontier.now [] c.announce.new.table c.args.self.now.frontier 0 c.in_ok-n.n c.args.self.now.few_times (omega arith) few in
    answered_so c.push.result _ _ (sym (yes _ long (yes _ small (by_push _ brief refl))))
    (λ u h. h ∙ ap (λ ts. queued g.D.Same.value o.value g.R.Same.value c.args.self.now.progress.len c.args.queue.now ++ statement (record { lower = in_use o.value c.args.self.now.frontier c.args.frontier.now; upper = []; counts = ts }) ∷ []) told.1.0)
    (λ h. (same_sender _ _ _ _ _ _ _ _ _ _ refl h.0, h.1)) c.push.ensures
