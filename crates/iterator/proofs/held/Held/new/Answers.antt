use Rattle.std.proofs.Common.{◌≡◌, ◌<◌, true, List, [], ◌∷◌, length, set, sym, ap, ◌∙◌, arith, rules}
use Rattle.questions.proofs.Asking.{ask_next}
use Rattle.frontier.specs.Tables.{in_use}
use Rattle.capture.specs.Held.{Held}
use Rattle.iterator.specs.Readers.{tables, own_sized}
use Rattle.iterator.proofs.Feeding.{first_in_use}
use Rattle.iterator.proofs.Sizes.{own_tells}
use Rattle.iterator.proofs.held.Held.new.Goals as goal

pub bounds-reported-0 : goal.bounds-reported-0
bounds-reported-0 g c =
    let t = tables c.args.frontier.now c.args.reported.now c.args.counts.now c.args.held.now c.args.waiting.now in
    let long = own_tells t (sym c.are_own_sized.ensures ∙ c.if-not-are_own_sized.false) in
    let h : 0 < length c.args.reported.now = omega (arith, long.1) in
    search rules

pub returns : goal.returns
returns g c =
    let o = g.T.PartialOrder in
    let t = tables c.args.frontier.now c.args.reported.now c.args.counts.now c.args.held.now c.args.waiting.now in
    let yes : own_sized t ≡ true = sym c.are_own_sized.ensures ∙ c.if-not-are_own_sized.false in
    let long = own_tells t yes in
    let made : List g.row.T-Value.Denot → List g.row.T-Value.Denot → Held g.row.D-Value.Denot g.row.T-Value.Denot g.row.R-Value.Denot = λ f r. record { progress = record { frontier = f; counts = []; waiting = [] }; reported = r; updates = []; drops = 0 } in
    let start = g.T.Timestamp.start in
    let f = first_in_use o.value c.args.frontier.now c.minimum.result start (omega (arith, long.0)) c.minimum.ensures in
    let r = first_in_use o.value c.args.reported.now c.minimum-2.result start (omega (arith, long.1)) c.minimum-2.ensures in
    (ask_next (own_sized t) 1 [] yes, (ap (λ x. made x (in_use o.value 1 (set c.args.reported.now 0 c.minimum-2.result))) f ∙ ap (made (start ∷ [])) r, (omega arith, omega arith, omega arith, omega arith, omega arith)))
