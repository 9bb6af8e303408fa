use Rattle.std.proofs.Common.{◌≤◌, ◌&&◌, cond, leb, map, length, take, Some, None, ap, sym, ◌∙◌, refl, ⊎_elim, arith}
use Rattle.std.proofs.lemmas.Bool.{and_from, and_left, and_right, le-leb, lt-leb}
use Rattle.std.proofs.lemmas.List.{length-map, length-take}
use Rattle.std.proofs.lemmas.Result.{err_from_is_err_and}
use Rattle.questions.specs.Questions.{number_of}
use Rattle.frontier.specs.Tables.{in_use, counted, frontier_size}
use Rattle.frontier.proofs.Tables.{accepted, refused_full}
use Rattle.frontier.proofs.Filling.{made_few}
use Rattle.capture.specs.Kinds.{kinds}
use Rattle.capture.specs.Statements.{small as is_small}
use Rattle.capture.proofs.MadeWell.{announced_few}
use Rattle.sink.specs.Senders.{sender_of, close_tables}
use Rattle.sink.proofs.Asking.{yes, no_here, no_by_call, yes_by_call, by_push}
use Rattle.sink.proofs.Pumping.{same_sender}
use Rattle.sink.proofs.Closing.{announced_reduced, short_stated, closed}
use Rattle.sink.proofs.sender.OpenSender.close.Goals as goal

pub returns-then-not-are_sized : goal.returns-then-not-are_sized
returns-then-not-are_sized g c =
    let upper = leb 32 (length c.args.upper.now) in
    let announced = leb 256 (length c.args.announced.now) in
    let short = ⊎_elim (λ h. and_left _ (upper && announced) (sym c.are_sized.ensures.value ∙ h)) (⊎_elim (λ h. and_right _ (upper && announced) (and_left upper announced (lt-leb 32 (length c.args.upper.now) h.1))) (λ h. and_right _ (upper && announced) (and_right upper announced (lt-leb 256 (length c.args.announced.now) h.2)))) c.then-not-are_sized.either in
    λ t. (no_here _ short refl, (refl, refl, refl, refl))

pub returns-then-not-advances : goal.returns-then-not-advances
returns-then-not-advances g c =
    let long = and_from _ _ (sym c.are_sized.ensures.value ∙ c.if-not-are_sized.false) (and_from _ _ (le-leb 32 (length c.args.upper.now) c.if-upper-lt-FRONTIER_SIZE.false) (le-leb 256 (length c.args.announced.now) c.if-announced-lt-STATEMENT_COUNTS.false)) in
    λ t. (yes _ long (no_here _ (sym c.advances.ensures ∙ c.if-not-advances.true) refl), (refl, refl, refl, refl))

pub returns-in_err-m : goal.returns-in_err-m
returns-in_err-m g c =
    let o = g.T.PartialOrder in
    let l = map o.value c.args.list.now in
    let long = and_from _ _ (sym c.are_sized.ensures.value ∙ c.if-not-are_sized.false) (and_from _ _ (le-leb 32 (length c.args.upper.now) c.if-upper-lt-FRONTIER_SIZE.false) (le-leb 256 (length c.args.announced.now) c.if-announced-lt-STATEMENT_COUNTS.false)) in
    let on = sym c.advances.ensures ∙ c.if-not-advances.false in
    let same = announced_reduced g.met.T.PartialOrder.order l (in_use (counted o.value) c.args.self.now.counts c.args.counts.now) in
    let p = err_from_is_err_and c.from_residual.result c.from_residual.ensures.1 in
    rw (p.1, p.2) (λ t. (yes _ long (yes _ on (no_by_call _ _ 5 _ (ap (λ es. cond (is_small es) None (Some 5)) (sym same) ∙ c.in_err-m.ensures.0))), (refl, refl, refl, refl)))

pub returns-in_err-n : goal.returns-in_err-n
returns-in_err-n g c =
    let o = g.T.PartialOrder in
    let l = map o.value c.args.list.now in
    let long = and_from _ _ (sym c.are_sized.ensures.value ∙ c.if-not-are_sized.false) (and_from _ _ (le-leb 32 (length c.args.upper.now) c.if-upper-lt-FRONTIER_SIZE.false) (le-leb 256 (length c.args.announced.now) c.if-announced-lt-STATEMENT_COUNTS.false)) in
    let on = sym c.advances.ensures ∙ c.if-not-advances.false in
    let same = announced_reduced g.met.T.PartialOrder.order l (in_use (counted o.value) c.args.self.now.counts c.args.counts.now) in
    let small = yes_by_call _ 5 (ap (λ es. cond (is_small es) None (Some 5)) (sym same) ∙ c.in_ok-m.ensures.0) in
    let many = refused_full frontier_size 12 (length c.args.upper.now) 0 _ (omega arith) c.if-upper-lt-FRONTIER_SIZE.false (number_of c.in_err-n.field-0.0) c.in_err-n.ensures.answer.0 in
    let p = err_from_is_err_and c.from_residual-in_err-n.result c.from_residual-in_err-n.ensures.1 in
    rw (p.1, p.2) (λ t. (yes _ long (yes _ on (yes _ small (no_here _ many.0 (ap Some (sym many.1))))), (refl, refl, refl, refl)))

pub slice_bounds-statement-end-3 : goal.slice_bounds-statement-end-3
slice_bounds-statement-end-3 g c =
    let o = g.T.PartialOrder in
    let told = c.in_ok-n.ensures.answer in
    let few_times : c.in_ok-n.n ≤ 32 = made_few o.below o.value (map o.value c.args.list.now) c.in_ok-n.n _ told.1 (length c.args.upper.now) told.0 in
    omega arith

pub slice_bounds-statement-end-5 : goal.slice_bounds-statement-end-5
slice_bounds-statement-end-5 g c =
    let o = g.T.PartialOrder in
    let few_counts : c.in_ok-m.m ≤ 256 = omega (arith, c.in_ok-m.ensures.1.1, announced_few o.below (map o.value c.args.list.now) (in_use (counted o.value) c.args.self.now.counts c.args.counts.now), length-map (take c.args.self.now.counts c.args.counts.now) (counted o.value), length-take c.args.self.now.counts c.args.counts.now, c.args.self.now.few_counts) in
    omega arith

pub slice_bounds-keep_beyond-end : goal.slice_bounds-keep_beyond-end
slice_bounds-keep_beyond-end g c =
    let o = g.T.PartialOrder in
    let told = c.in_ok-n.ensures.answer in
    let few_times : c.in_ok-n.n ≤ 32 = made_few o.below o.value (map o.value c.args.list.now) c.in_ok-n.n _ told.1 (length c.args.upper.now) told.0 in
    omega arith

pub push-requires : goal.push-requires
push-requires g c = let long = c.if-not-are_sized.ensures.long in (omega arith, omega arith)

pub returns-in_err-push : goal.returns-in_err-push
returns-in_err-push g c =
    let o = g.T.PartialOrder in
    let l = map o.value c.args.list.now in
    let long = and_from _ _ (sym c.are_sized.ensures.value ∙ c.if-not-are_sized.false) (and_from _ _ (le-leb 32 (length c.args.upper.now) c.if-upper-lt-FRONTIER_SIZE.false) (le-leb 256 (length c.args.announced.now) c.if-announced-lt-STATEMENT_COUNTS.false)) in
    let on = sym c.advances.ensures ∙ c.if-not-advances.false in
    let same = announced_reduced g.met.T.PartialOrder.order l (in_use (counted o.value) c.args.self.now.counts c.args.counts.now) in
    let small = yes_by_call _ 5 (ap (λ es. cond (is_small es) None (Some 5)) (sym same) ∙ c.in_ok-m.ensures.0) in
    let fit = (accepted frontier_size 12 (length c.args.upper.now) 0 _ c.in_ok-n.ensures.answer.0).2 in
    let made = c.in_ok-n.ensures.answer.1 in
    let few_times : c.in_ok-n.n ≤ 32 = made_few o.below o.value l c.in_ok-n.n _ made (length c.args.upper.now) c.in_ok-n.ensures.answer.0 in
    let few_counts : c.in_ok-m.m ≤ 256 = omega (arith, c.in_ok-m.ensures.1.1, announced_few o.below l (in_use (counted o.value) c.args.self.now.counts c.args.counts.now), length-map (take c.args.self.now.counts c.args.counts.now) (counted o.value), length-take c.args.self.now.counts c.args.counts.now, c.args.self.now.few_counts) in
    let brief = short_stated o.value c.args.frontier.now _ _ c.args.self.now.frontier c.in_ok-n.n c.in_ok-m.m c.args.self.now.few_times few_times few_counts in
    let told = c.in_err-push.ensures {u = tt} in
    let p = err_from_is_err_and c.from_residual-in_err-push.result c.from_residual-in_err-push.ensures.1 in
    rw (p.1, p.2) (λ t. (yes _ long (yes _ on (yes _ small (yes _ fit (by_push _ brief told.0)))), (same_sender _ _ _ _ _ _ _ _ _ _ refl told.1.0, refl, refl, told.1.1)))

pub copy_entries-requires : goal.copy_entries-requires
copy_entries-requires g c =
    let o = g.T.PartialOrder in
    let long = c.if-not-are_sized.ensures.long in
    let told = c.in_ok-n.ensures.answer in
    let few_times : c.in_ok-n.n ≤ 32 = made_few o.below o.value (map o.value c.args.list.now) c.in_ok-n.n _ told.1 (length c.args.upper.now) told.0 in
    (omega arith, omega arith)

pub invariant_of-self-2 : goal.invariant_of-self-2
invariant_of-self-2 g c =
    let o = g.T.PartialOrder in
    let told = c.in_ok-n.ensures.answer in
    record { few_times = made_few o.below o.value (map o.value c.args.list.now) c.in_ok-n.n _ told.1 (length c.args.upper.now) told.0; few_counts = omega (arith, c.keep_beyond-self.ensures.within, c.args.self.now.few_counts) }

pub returns : goal.returns
returns g c =
    let o = g.T.PartialOrder in
    let l = map o.value c.args.list.now in
    let long = and_from _ _ (sym c.are_sized.ensures.value ∙ c.if-not-are_sized.false) (and_from _ _ (le-leb 32 (length c.args.upper.now) c.if-upper-lt-FRONTIER_SIZE.false) (le-leb 256 (length c.args.announced.now) c.if-announced-lt-STATEMENT_COUNTS.false)) in
    let on = sym c.advances.ensures ∙ c.if-not-advances.false in
    let same = announced_reduced g.met.T.PartialOrder.order l (in_use (counted o.value) c.args.self.now.counts c.args.counts.now) in
    let small = yes_by_call _ 5 (ap (λ es. cond (is_small es) None (Some 5)) (sym same) ∙ c.in_ok-m.ensures.0) in
    let fit = (accepted frontier_size 12 (length c.args.upper.now) 0 _ c.in_ok-n.ensures.answer.0).2 in
    let made = c.in_ok-n.ensures.answer.1 in
    let few_times : c.in_ok-n.n ≤ 32 = made_few o.below o.value l c.in_ok-n.n _ made (length c.args.upper.now) c.in_ok-n.ensures.answer.0 in
    let few_counts : c.in_ok-m.m ≤ 256 = omega (arith, c.in_ok-m.ensures.1.1, announced_few o.below l (in_use (counted o.value) c.args.self.now.counts c.args.counts.now), length-map (take c.args.self.now.counts c.args.counts.now) (counted o.value), length-take c.args.self.now.counts c.args.counts.now, c.args.self.now.few_counts) in
    let brief = short_stated o.value c.args.frontier.now _ _ c.args.self.now.frontier c.in_ok-n.n c.in_ok-m.m c.args.self.now.few_times few_times few_counts in
    let told = c.in_ok-push.ensures {u = tt} in
    let k = kinds g.D.Same.alike o.below g.T.Lattice.joined g.T.Timestamp.start g.R.Same.alike in
    let tables = close_tables (length c.args.frontier.now) (length c.args.counts.now) (length c.args.queue.now) (length c.args.upper.now) (length c.args.announced.now) in
    let frontier = ap (map o.value) c.copy_entries.ensures.front ∙ made.0 in
    λ t.
    let s = sender_of g.D.Same.value o.value g.R.Same.value c.args.self.now c.args.frontier.now c.args.counts.now t c.args.queue.now in
    let asked = yes _ long (yes _ on (yes _ small (yes _ fit (by_push _ brief told.0)))) in
    (asked, closed k tables s l _ _ _ _ _ asked frontier made.0 c.keep_beyond-self.ensures.after.0 (c.in_ok-m.ensures.1.0 ∙ same) told.1)
