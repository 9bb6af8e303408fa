use Rattle.std.proofs.Common.{◌-◌, not, length, ap, ◌∙◌, subst, arith}
use Rattle.std.proofs.lemmas.List.{length-take-le}
use Rattle.std.proofs.lemmas.Bool.{lt-ltb}
use Rattle.capture.specs.Posts.{post}
use Rattle.capture.specs.Stored.{stored_message}
use Rattle.sink.specs.Pumps.{Left}
use Rattle.sink.proofs.Pumping.{refused_short, pumped_long, moved_up, works_on, works_until}
use Rattle.sink.proofs.queue.Queue.pump.Goals as goal

pub returns-then-table-lt-QUEUE_MESSAGES-clause-pump : goal.returns-then-table-lt-QUEUE_MESSAGES-clause-pump
returns-then-table-lt-QUEUE_MESSAGES-clause-pump g c = refused_short (post g.W.Writer.taken g.W.Writer.ready g.W.Writer.committed) (length c.args.table.now) _ _ c.if-table-lt-QUEUE_MESSAGES.true

pub returns-then-self-gt0-clause-pump : goal.returns-then-self-gt0-clause-pump
returns-then-self-gt0-clause-pump g c =
    let o = post g.W.Writer.taken g.W.Writer.ready g.W.Writer.committed in
    let reads = stored_message g.D.Same.value g.T.PartialOrder.value g.R.Same.value in
    let xs = c.args.table.now in
    let len = c.args.self.now.len in
    let n = c.offer-taken.result.0 in
    let wait = c.offer-taken.result.1 in
    let left = subst (Left wait n) (length-take-le len xs (omega arith)) c.offer-taken.ensures.left in
    pumped_long o (length xs) _ _ _ _ _ _ c.if-table-lt-QUEUE_MESSAGES.false
    (moved_up o reads xs c.remove_first.new.table len n c.args.post.now c.offer-taken.new.post _ wait (lt-ltb 0 (len - n) c.if-self-gt0.true ∙ works_on wait n len _ left c.if-self-gt0.true) c.remove_first.ensures c.offer-taken.ensures.pumped)

pub returns-else-self-gt0-clause-pump : goal.returns-else-self-gt0-clause-pump
returns-else-self-gt0-clause-pump g c =
    let o = post g.W.Writer.taken g.W.Writer.ready g.W.Writer.committed in
    let reads = stored_message g.D.Same.value g.T.PartialOrder.value g.R.Same.value in
    let xs = c.args.table.now in
    let len = c.args.self.now.len in
    let n = c.offer-taken.result.0 in
    let wait = c.offer-taken.result.1 in
    let left = subst (Left wait n) (length-take-le len xs (omega arith)) c.offer-taken.ensures.left in
    pumped_long o (length xs) _ _ _ _ _ _ c.if-table-lt-QUEUE_MESSAGES.false
    (moved_up o reads xs c.remove_first.new.table len n c.args.post.now c.offer-taken.new.post _ wait (ap not c.done.ensures ∙ works_until wait n len _ left c.if-self-gt0.false) c.remove_first.ensures c.offer-taken.ensures.pumped)
