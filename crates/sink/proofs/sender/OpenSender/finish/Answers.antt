use Rattle.std.proofs.Common.{length, ap, ◌∙◌}
use Rattle.capture.specs.Kinds.{kinds}
use Rattle.sink.specs.Senders.{sender_of, finished_of, finish_tables}
use Rattle.sink.proofs.Closing.{finished}
use Rattle.sink.proofs.sender.OpenSender.finish.Goals as goal

pub returns-in-Ok : goal.returns-in-Ok
returns-in-Ok g c =
    let o = g.T.PartialOrder in
    let k = kinds g.D.Same.alike o.below g.T.Lattice.joined g.T.Timestamp.start g.R.Same.alike in
    let tables = finish_tables (length c.args.frontier.now) (length c.args.counts.now) (length c.args.queue.now) (length c.args.announced.now) in
    let told = c.in-Ok.ensures {u = tt} in
    λ t.
    let s = sender_of g.D.Same.value o.value g.R.Same.value c.args.self c.args.frontier.now c.args.counts.now t c.args.queue.now in
    (told.answer.0, ap (λ u. finished_of g.D.Same.value o.value g.R.Same.value (record { updates = u; progress = c.state_rest.new.self.progress }) t c.state_rest.new.queue) told.others ∙ finished k tables s _ told.answer.0 told.answer.1)
