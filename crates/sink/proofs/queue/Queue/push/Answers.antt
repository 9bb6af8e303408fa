use borrow.Author.Rules.{scaled_Fits}
use Rattle.std.proofs.Common.{◌≡◌, ◌<◌, true, [], ◌∷◌, length, set, refl, ap, ◌∙◌, arith, ltb}
use Rattle.std.proofs.lemmas.Result.{err_from_is_err_and}
use Rattle.std.proofs.lemmas.Bool.{lt-ltb, le-ltb}
use Rattle.std.proofs.lemmas.List.{set-get_or}
use Rattle.questions.proofs.Asking.{ask_next}
use Rattle.frontier.proofs.Tables.{length_in_use}
use Rattle.capture.specs.Messages.{short}
use Rattle.capture.specs.Views.{message_of}
use Rattle.capture.specs.Stored.{stored_message, queued}
use Rattle.capture.proofs.Queues.{pushed}
use Rattle.frontier.specs.Tables.{in_use}
use Rattle.sink.proofs.Asking.{no_here}
use Rattle.sink.proofs.queue.Queue.push.Goals as goal

pub offset_bounds-table-self : goal.offset_bounds-table-self
offset_bounds-table-self g c = let h : c.args.self.now.len < length c.args.table.now = omega (arith, c.requires) in search scaled_Fits

pub returns-then-self-ge-QUEUE_MESSAGES : goal.returns-then-self-ge-QUEUE_MESSAGES
returns-then-self-ge-QUEUE_MESSAGES g c =
    let n = c.args.self.now.len in
    let xs = c.args.table.now in
    let reads = stored_message g.D.Same.value g.T.PartialOrder.value g.R.Same.value in
    (no_here _ (le-ltb (length (in_use reads n xs)) 16 (omega (arith, c.requires, length_in_use reads n xs (omega (arith, c.args.self.now.few, c.requires))))) refl, (refl, refl))

pub returns-in_err-store : goal.returns-in_err-store
returns-in_err-store g c =
    let n = c.args.self.now.len in
    let xs = c.args.table.now in
    let brief = short (message_of g.D.Same.value g.T.PartialOrder.value g.R.Same.value c.args.item) in
    let messages = queued g.D.Same.value g.T.PartialOrder.value g.R.Same.value n xs in
    let free : ltb (length messages) 16 ≡ true = lt-ltb (length messages) 16 (omega (arith, c.requires, length_in_use (stored_message g.D.Same.value g.T.PartialOrder.value g.R.Same.value) n xs (omega (arith, c.requires)))) in
    let told = c.in_err-store.ensures {u = tt} in
    let p = err_from_is_err_and c.from_residual.result c.from_residual.ensures.1 in
    rw (p.1, p.2) (ask_next (ltb (length messages) 16) 13 ((brief, 2) ∷ []) free ∙ told.0, (refl, ap (set xs n) told.1 ∙ set-get_or xs n c.index-table-self.result))

pub returns : goal.returns
returns g c =
    let n = c.args.self.now.len in
    let xs = c.args.table.now in
    let reads = stored_message g.D.Same.value g.T.PartialOrder.value g.R.Same.value in
    let brief = short (message_of g.D.Same.value g.T.PartialOrder.value g.R.Same.value c.args.item) in
    let messages = queued g.D.Same.value g.T.PartialOrder.value g.R.Same.value n xs in
    let free : ltb (length messages) 16 ≡ true = lt-ltb (length messages) 16 (omega (arith, c.requires, length_in_use reads n xs (omega (arith, c.requires)))) in
    let told = c.in_ok-store.ensures {u = tt} in
    (ask_next (ltb (length messages) 16) 13 ((brief, 2) ∷ []) free ∙ told.0, pushed reads xs n c.store.new.self _ (omega (arith, c.requires)) told.1)
