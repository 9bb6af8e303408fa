use Rattle.std.proofs.Common.{sym, refl, ap, ◌∙◌, rules, arith}
use Rattle.lines.specs.Format.{in_statement, no_statement}
use Rattle.lines.specs.Ahead.{HandsOut}
use Rattle.lines.specs.declared.part.Part.TheVariants.{Lower, Upper, Counts}
use Rattle.lines.proofs.Reading.{went_on}
use Rattle.lines.proofs.Adding.{lower_more, upper_more, count_more}
use Rattle.lines.proofs.statement.read_progress.Goals as goal

pub loop-said-init : goal.loop-said-init
loop-said-init c = (no_statement, refl, record { lower = ap (λ s. s.lower) c.clear.ensures; upper = ap (λ s. s.upper) c.clear.ensures; counts = ap (λ s. s.counts) c.clear.ensures; fits = refl }, c.requires, omega arith)

pub loop-said-preserved-then-until_lower : goal.loop-said-preserved-then-until_lower
loop-said-preserved-then-until_lower c =
    let inv = c.loop-said.invariant in
    let after = c.next_said.new.lines in
    let line : HandsOut c.in-Some.said c.loop-said.lines after = search (rules, c.in-Some.is) in
    let more = lower_more c.loop-said.rows c.loop-said.whole inv.0 inv.2 c.is_ok-whole.result c.loop-said.part c.in-Lower.time c.push.new.self (sym c.until_lower.ensures ∙ c.if-until_lower.true) (c.is_ok-whole.ensures.value ∙ c.push.ensures.room) c.push.ensures.after in (
      more.0,
      went_on (in_statement Lower no_statement) (in_statement c.loop-said.part inv.0) (in_statement c.loop-said.part more.0) c.args.lines.now c.loop-said.lines after _ _ inv.1 line c.in-Lower.is more.1,
      more.2,
      line.few,
      omega (arith, inv.4, line.on),
    )

pub loop-said-preserved-then-until_upper : goal.loop-said-preserved-then-until_upper
loop-said-preserved-then-until_upper c =
    let inv = c.loop-said.invariant in
    let after = c.next_said.new.lines in
    let line : HandsOut c.in-Some.said c.loop-said.lines after = search (rules, c.in-Some.is) in
    let more = upper_more c.loop-said.rows c.loop-said.whole inv.0 inv.2 c.is_ok-whole-in-Upper.result c.loop-said.part c.in-Upper.time c.push-in-Upper.new.self (sym c.until_upper.ensures ∙ c.if-until_upper.true) (c.is_ok-whole-in-Upper.ensures.value ∙ c.push-in-Upper.ensures.room) c.push-in-Upper.ensures.after in (
      more.0,
      went_on (in_statement Lower no_statement) (in_statement c.loop-said.part inv.0) (in_statement Upper more.0) c.args.lines.now c.loop-said.lines after _ _ inv.1 line c.in-Upper.is more.1,
      more.2,
      line.few,
      omega (arith, inv.4, line.on),
    )

pub loop-said-preserved : goal.loop-said-preserved
loop-said-preserved c =
    let inv = c.loop-said.invariant in
    let after = c.next_said.new.lines in
    let line : HandsOut c.in-Some.said c.loop-said.lines after = search (rules, c.in-Some.is) in
    let more = count_more c.loop-said.rows c.loop-said.whole inv.0 inv.2 c.is_ok-whole-in-Count.result c.loop-said.part (c.in-Count.time, c.in-Count.n) c.push-in-Count.new.self (c.is_ok-whole-in-Count.ensures.value ∙ c.push-in-Count.ensures.room) c.push-in-Count.ensures.after in (
      more.0,
      went_on (in_statement Lower no_statement) (in_statement c.loop-said.part inv.0) (in_statement Counts more.0) c.args.lines.now c.loop-said.lines after _ _ inv.1 line c.in-Count.is more.1,
      more.2,
      line.few,
      omega (arith, inv.4, line.on),
    )
