use Rattle.std.proofs.Common.{◌+◌, drop, sym, ap, ◌∙◌}
use Rattle.lines.specs.Numbers.{digits_from}
use Rattle.lines.proofs.Digits.{within, past, digit_on, digit_none, digit_end}
use Rattle.lines.proofs.numbers.digits.Goals as goal

pub returns-in_err-n : goal.returns-in_err-n
returns-in_err-n c = c.from_residual.ensures ∙ sym (digit_none c.args.field.now c.loop-byte.byte-index c.loop-byte.n c.loop-byte.invariant c.loop-byte-test.true (past _ _ c.in_err-n.ensures))

pub loop-byte-preserved : goal.loop-byte-preserved
loop-byte-preserved c =
    let more = within _ _ _ c.in_ok-n.ensures in
    digit_on c.args.field.now c.loop-byte.byte-index c.loop-byte.n c.loop-byte.invariant c.loop-byte-test.true more.0 ∙ ap (λ n. digits_from n (drop (c.loop-byte.byte-index + 1) c.args.field.now)) (sym more.1)

pub returns : goal.returns
returns c = sym (digit_end c.args.field.now c.loop-byte.byte-index c.loop-byte.n c.loop-byte.invariant c.loop-byte-test.false)
