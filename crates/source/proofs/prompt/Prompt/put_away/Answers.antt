use Rattle.std.proofs.Common.{sym, ◌∙◌}
use Rattle.capture.specs.Views.{change_of}
use Rattle.source.proofs.Heeding.{away_short, away_done}
use Rattle.source.proofs.prompt.Prompt.put_away.Goals as goal

pub returns-then-not-is_sized : goal.returns-then-not-is_sized
returns-then-not-is_sized g c = away_short g.T.PartialOrder.value (change_of g.D.Same.value g.T.PartialOrder.value g.R.Same.value) c.args.self c.args.pending.now (sym c.is_sized.ensures ∙ c.if-not-is_sized.true)

pub returns : goal.returns
returns g c = away_done g.T.PartialOrder.value (change_of g.D.Same.value g.T.PartialOrder.value g.R.Same.value) c.args.self c.args.pending.now (sym c.is_sized.ensures ∙ c.if-not-is_sized.false)
