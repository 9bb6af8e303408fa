use Rattle.lines.proofs.Cutting.{cut_here, cut_nowhere}
use Rattle.lines.proofs.cuts.cut.Goals as goal

pub returns-in_err-at : goal.returns-in_err-at
returns-in_err-at c = rw c.from_residual.ensures (cut_nowhere c.args.mark c.args.bytes.now c.in_err-at.ensures.first)

pub returns : goal.returns
returns c = cut_here c.args.mark c.args.bytes.now c.in_ok-at.at c.in_ok-at.ensures.first
