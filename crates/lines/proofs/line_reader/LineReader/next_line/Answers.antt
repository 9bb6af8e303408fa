use Rattle.std.proofs.Common.{Some, refl, ap, ◌∙◌, arith}
use Rattle.lines.proofs.Cutting.{cut_rest, cut_on_at, cut_within}
use Rattle.lines.proofs.line_reader.LineReader.next_line.Goals as goal

pub returns-in_err-line : goal.returns-in_err-line
returns-in_err-line c = rw c.from_residual.ensures record { line = cut_rest 10 c.args.self.now.bytes.now c.args.self.now.at _ c.in_err-line.ensures; count = refl; place = refl }

pub invariant_of-self : goal.invariant_of-self
invariant_of-self c =
    let found = cut_rest 10 c.args.self.now.bytes.now c.args.self.now.at _ c.in_ok-line.ensures in
    record { few = omega (arith, c.args.self.now.few); inside = cut_within 10 _ _ _ _ found; small = c.args.self.now.small }

pub returns : goal.returns
returns c =
    let found = cut_rest 10 c.args.self.now.bytes.now c.args.self.now.at _ c.in_ok-line.ensures in
    record { line = found ∙ ap (λ l. Some (c.in_ok-line.line.now, l)) (cut_on_at 10 _ _ _ _ found); count = refl; place = refl }
