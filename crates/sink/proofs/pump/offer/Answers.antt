use Rattle.std.proofs.Common.{[], ◌∷◌, ◌++◌, sym, refl, ap, ◌∙◌, arith}
use Rattle.capture.specs.Posts.{post}
use Rattle.capture.specs.Stored.{stored_message}
use Rattle.sink.proofs.Pumping.{taken_on, waits_here, all_taken}
use Rattle.sink.proofs.pump.offer.Goals as goal

pub returns-in-Some : goal.returns-in-Some
returns-in-Some g c =
    let o = post g.W.Writer.taken g.W.Writer.ready g.W.Writer.committed in
    let reads = stored_message g.D.Same.value g.T.PartialOrder.value g.R.Same.value in
    let told = c.in-Some.ensures in
    let is = c.view-message.ensures in
    record {
      within = omega arith;
      left = c.loop-i-test.true;
      pumped = waits_here o reads c.args.messages.now c.args.post.now c.loop-i.i c.loop-i.post c.loop-i.invariant c.index-messages-i.result c.loop-i-test.true c.index-messages-i.is c.poll.new.self c.in-Some.wait (ap (o.ready c.loop-i.post) (sym is) ∙ told.0) told.1;
    }

pub loop-i-preserved : goal.loop-i-preserved
loop-i-preserved g c =
    let o = post g.W.Writer.taken g.W.Writer.ready g.W.Writer.committed in
    let reads = stored_message g.D.Same.value g.T.PartialOrder.value g.R.Same.value in
    let told = c.in_default.ensures in
    let is = c.view-message.ensures in
    taken_on o reads c.args.messages.now c.args.post.now c.loop-i.i c.loop-i.post c.loop-i.invariant c.index-messages-i.result c.loop-i-test.true c.index-messages-i.is c.poll.new.self (ap (o.ready c.loop-i.post) (sym is) ∙ told.0) (told.1 ∙ ap (λ m. o.taken c.loop-i.post ++ m ∷ []) is)

pub returns : goal.returns
returns g c =
    let o = post g.W.Writer.taken g.W.Writer.ready g.W.Writer.committed in
    let reads = stored_message g.D.Same.value g.T.PartialOrder.value g.R.Same.value in
    record { within = omega arith; left = refl; pumped = all_taken o reads c.args.messages.now c.args.post.now c.loop-i.i c.loop-i.post c.loop-i.invariant c.loop-i-test.false }
