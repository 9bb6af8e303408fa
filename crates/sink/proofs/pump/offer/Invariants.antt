use Rattle.std.proofs.Common.{drop}
use Rattle.capture.specs.Posts.{post}
use Rattle.capture.specs.Stored.{stored_message}
use Rattle.sink.proofs.Pumping.{Pumping}
use Rattle.sink.proofs.pump.offer.Given as goal

abbrev pub invariant-loop-i : goal.invariant-loop-i
invariant-loop-i g l = Pumping (post g.W.Writer.taken g.W.Writer.ready g.W.Writer.committed) (stored_message g.D.Same.value g.T.PartialOrder.value g.R.Same.value) l.messages l.initial.post (drop l.i l.messages) l.post
