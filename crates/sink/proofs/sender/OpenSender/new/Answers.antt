use Rattle.std.proofs.Common.{ℕ, List, [], ◌∷◌, length, ap, ◌∙◌, refl, arith}
use Rattle.capture.specs.Sender.{Sender}
use Rattle.capture.specs.Stored.{queued}
use Rattle.capture.proofs.Queues.{pushed}
use Rattle.sink.proofs.Asking.{yes, no_here}
use Rattle.sink.proofs.Sizes.{all_sized, not_sized}
use Rattle.sink.proofs.sender.OpenSender.new.Goals as goal

pub returns-then-not-are_sized : goal.returns-then-not-are_sized
returns-then-not-are_sized g c = (no_here _ (not_sized c.are_sized.result 16 (length c.args.progress.now) c.are_sized.ensures.value c.then-not-are_sized.either) refl, refl)

pub returns : goal.returns
returns g c =
    let o = g.T.PartialOrder in
    let long = all_sized c.are_sized.result 16 (length c.args.progress.now) c.are_sized.ensures.value c.if-not-are_sized.false c.if-progress-lt-QUEUE_MESSAGES.false in
    let enough = c.if-not-are_sized.ensures.long in
    let state : List g.row.T-Value.Denot → ℕ → ℕ → Sender g.row.D-Value.Denot g.row.T-Value.Denot g.row.R-Value.Denot =
    λ f m n. record { frontier = f; counts = []; queued_changes = queued g.D.Same.value o.value g.R.Same.value m c.args.updates.now; queued_statements = queued g.D.Same.value o.value g.R.Same.value n c.args.progress.now } in
    let first = pushed o.value c.args.frontier.now 0 c.minimum.result g.T.Timestamp.start (omega arith) c.minimum.ensures in
    (yes _ long refl, ap (λ f. state f c.new.result.len c.new-2.result.len) first ∙ ap (λ m. state (g.T.Timestamp.start ∷ []) m c.new-2.result.len) c.new.ensures ∙ ap (state (g.T.Timestamp.start ∷ []) 0) c.new-2.ensures)
