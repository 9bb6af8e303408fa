use Rattle.std.proofs.Common.{[], ◌∷◌, ◌++◌, ap, ◌∙◌, subst}
use Rattle.lines.specs.Format.{outside}
use Rattle.lines.specs.Ahead.{ahead}
use Rattle.lines.specs.Blocks.{Got}
use Rattle.lines.proofs.Opening.{with_messages, with_one_more, with_all, with_error}
use Rattle.lines.proofs.file.check_lines.Goals as goal

pub loop-malformed-preserved : goal.loop-malformed-preserved
loop-malformed-preserved c =
    let got = subst (λ b. Got b c.loop-malformed.lines c.read.new.lines c.read.new.self) c.in-Ok-true.field-0-test c.in-Ok-true.ensures in
    let ms = c.loop-malformed.invariant.0 in
    (ms ++ got.0 ∷ [], c.loop-malformed.invariant.1 ∙ ap (with_messages ms) got.1.said ∙ with_one_more ms got.0 (ahead outside c.read.new.lines))

pub returns-in-Ok-false : goal.returns-in-Ok-false
returns-in-Ok-false c =
    let got = subst (λ b. Got b c.loop-malformed.lines c.read.new.lines c.read.new.self) c.in-Ok-false.field-0-test c.in-Ok-false.ensures in
    let ms = c.loop-malformed.invariant.0 in
    (ms, c.loop-malformed.invariant.1 ∙ ap (with_messages ms) got ∙ with_all ms)

pub returns-in-Err : goal.returns-in-Err
returns-in-Err c = c.loop-malformed.invariant.1 ∙ ap (with_messages c.loop-malformed.invariant.0) c.in-Err.ensures ∙ with_error c.loop-malformed.invariant.0 c.in-Err.malformed.line
