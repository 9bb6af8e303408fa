use Rattle.std.proofs.Common.{map, length, ap, sym, ◌∙◌, refl, arith}
use Rattle.std.proofs.lemmas.Bool.{le-leb, lt-leb, leb-true}
use Rattle.std.proofs.lemmas.Result.{err_from_is_err_and}
use Rattle.frontier.specs.Tables.{counted}
use Rattle.capture.specs.Kinds.{kinds}
use Rattle.capture.specs.Views.{change_of}
use Rattle.std.proofs.lemmas.List.{length-map}
use Rattle.sink.specs.Senders.{sender_of, record_tables}
use Rattle.sink.proofs.Asking.{yes, no_here, by_push}
use Rattle.sink.proofs.Pumping.{same_sender}
use Rattle.sink.proofs.Sizes.{all_sized, not_sized}
use Rattle.sink.proofs.Recording.{all_small, recorded}
use Rattle.sink.proofs.sender.OpenSender.record.Goals as goal

pub returns-then-not-are_sized : goal.returns-then-not-are_sized
returns-then-not-are_sized g c = λ t. (no_here _ (not_sized c.are_sized.result 1024 (length c.args.scratch.now) c.are_sized.ensures.value c.then-not-are_sized.either) refl, (refl, refl, refl))

pub returns-then-not-is_short : goal.returns-then-not-is_short
returns-then-not-is_short g c =
    let long = all_sized c.are_sized.result 1024 (length c.args.scratch.now) c.are_sized.ensures.value c.if-not-are_sized.false c.if-scratch-lt-SCRATCH_COUNTS.false in
    λ t. (yes _ long (no_here _ (sym c.is_short.ensures ∙ c.if-not-is_short.true) refl), (refl, refl, refl))

pub returns-then-not-all_beyond : goal.returns-then-not-all_beyond
returns-then-not-all_beyond g c =
    let long = all_sized c.are_sized.result 1024 (length c.args.scratch.now) c.are_sized.ensures.value c.if-not-are_sized.false c.if-scratch-lt-SCRATCH_COUNTS.false in
    λ t. (yes _ long (yes _ (sym c.is_short.ensures ∙ c.if-not-is_short.false) (no_here _ (sym c.all_beyond.ensures ∙ c.if-not-all_beyond.true) refl)), (refl, refl, refl))

pub count_changes-n-requires-clause-changes : goal.count_changes-n-requires-clause-changes
count_changes-n-requires-clause-changes g c =
    let reads = change_of g.D.Same.value g.T.PartialOrder.value g.R.Same.value in
    omega (arith, leb-true (length (map reads c.args.changes.now)) 64 (sym c.is_short.ensures ∙ c.if-not-is_short.false), length-map c.args.changes.now reads)

pub returns-then-not-all_small : goal.returns-then-not-all_small
returns-then-not-all_small g c =
    let o = g.T.PartialOrder in
    let cs = map (change_of g.D.Same.value o.value g.R.Same.value) c.args.changes.now in
    let long = all_sized c.are_sized.result 1024 (length c.args.scratch.now) c.are_sized.ensures.value c.if-not-are_sized.false c.if-scratch-lt-SCRATCH_COUNTS.false in
    let brief = sym c.is_short.ensures ∙ c.if-not-is_short.false in
    let beyond = sym c.all_beyond.ensures ∙ c.if-not-all_beyond.false in
    let small = ap (all_small o.below cs) (sym c.count_changes-n.ensures.after.0) ∙ sym c.all_small.ensures ∙ c.if-not-all_small.true in
    λ t. (yes _ long (yes _ brief (yes _ beyond (no_here _ small refl))), (refl, refl, refl))

pub returns-then-most-gt-SENDER_COUNTS : goal.returns-then-most-gt-SENDER_COUNTS
returns-then-most-gt-SENDER_COUNTS g c =
    let o = g.T.PartialOrder in
    let cs = map (change_of g.D.Same.value o.value g.R.Same.value) c.args.changes.now in
    let long = all_sized c.are_sized.result 1024 (length c.args.scratch.now) c.are_sized.ensures.value c.if-not-are_sized.false c.if-scratch-lt-SCRATCH_COUNTS.false in
    let brief = sym c.is_short.ensures ∙ c.if-not-is_short.false in
    let beyond = sym c.all_beyond.ensures ∙ c.if-not-all_beyond.false in
    let small = ap (all_small o.below cs) (sym c.count_changes-n.ensures.after.0) ∙ sym c.all_small.ensures ∙ c.if-not-all_small.false in
    let fit = sym c.count_changes-n.ensures.room ∙ lt-leb c.count_changes-n.result.1 256 c.if-most-gt-SENDER_COUNTS.true in
    λ t. (yes _ long (yes _ brief (yes _ beyond (yes _ small (no_here _ fit refl)))), (refl, refl, refl))

pub push-requires : goal.push-requires
push-requires g c = let long = c.if-not-are_sized.ensures.long in (omega arith, omega arith)

pub returns-in_err-push : goal.returns-in_err-push
returns-in_err-push g c =
    let o = g.T.PartialOrder in
    let cs = map (change_of g.D.Same.value o.value g.R.Same.value) c.args.changes.now in
    let long = all_sized c.are_sized.result 1024 (length c.args.scratch.now) c.are_sized.ensures.value c.if-not-are_sized.false c.if-scratch-lt-SCRATCH_COUNTS.false in
    let brief = sym c.is_short.ensures ∙ c.if-not-is_short.false in
    let beyond = sym c.all_beyond.ensures ∙ c.if-not-all_beyond.false in
    let small = ap (all_small o.below cs) (sym c.count_changes-n.ensures.after.0) ∙ sym c.all_small.ensures ∙ c.if-not-all_small.false in
    let fit = sym c.count_changes-n.ensures.room ∙ le-leb c.count_changes-n.result.1 256 c.if-most-gt-SENDER_COUNTS.false in
    let told = c.in_err-push.ensures {u = tt} in
    let p = err_from_is_err_and c.from_residual.result c.from_residual.ensures.1 in
    rw (p.1, p.2) (λ t. (yes _ long (yes _ brief (yes _ beyond (yes _ small (yes _ fit (by_push _ brief told.0))))), (same_sender _ _ _ _ _ _ _ _ _ _ told.1.0 refl, refl, told.1.1)))

pub returns : goal.returns
returns g c =
    let o = g.T.PartialOrder in
    let cs = map (change_of g.D.Same.value o.value g.R.Same.value) c.args.changes.now in
    let long = all_sized c.are_sized.result 1024 (length c.args.scratch.now) c.are_sized.ensures.value c.if-not-are_sized.false c.if-scratch-lt-SCRATCH_COUNTS.false in
    let brief = sym c.is_short.ensures ∙ c.if-not-is_short.false in
    let beyond = sym c.all_beyond.ensures ∙ c.if-not-all_beyond.false in
    let small = ap (all_small o.below cs) (sym c.count_changes-n.ensures.after.0) ∙ sym c.all_small.ensures ∙ c.if-not-all_small.false in
    let fit = sym c.count_changes-n.ensures.room ∙ le-leb c.count_changes-n.result.1 256 c.if-most-gt-SENDER_COUNTS.false in
    let told = c.in_ok-push.ensures {u = tt} in
    let counts = ap (map (counted o.value)) c.copy_entries.ensures.front ∙ c.count_changes-n.ensures.after.0 in
    let k = kinds g.D.Same.alike o.below g.T.Lattice.joined g.T.Timestamp.start g.R.Same.alike in
    let tables = record_tables (length c.args.frontier.now) (length c.args.counts.now) (length c.args.queue.now) (length c.args.scratch.now) in
    λ t.
    let s = sender_of g.D.Same.value o.value g.R.Same.value c.args.self.now c.args.frontier.now c.args.counts.now c.args.queue.now t in
    let asked = yes _ long (yes _ brief (yes _ beyond (yes _ small (yes _ fit (by_push _ brief told.0))))) in
    (asked, recorded k tables cs s asked _ _ counts told.1)
