use Rattle.std.proofs.Common.{◌∙◌, rules, tests}
use Rattle.std.proofs.lemmas.Iterator.{YieldsList-from_slice}
use Rattle.std.proofs.lemmas.Iterator.Consumers.{YieldsList-from_filter, YieldsList-at, count_from_yields_List}
use Rattle.frontier.proofs.Inserting.{stays, length_without}
use Rattle.frontier.proofs.antichain.count_without.Goals as goal

pub returns : goal.returns
returns g c =
    let o = g.T.PartialOrder in
    let t = o.value c.args.time.now in
    count_from_yields_List c.filter.result _ c.count.ensures.ran (YieldsList-from_filter _ (stays o.below o.value t) (YieldsList-at c.filter.ensures.source (YieldsList-from_slice c.args.list.now cc)) c.filter.ensures.closure (λ x b q k. search (rules, tests)))
    ∙ length_without o.below o.value t c.args.list.now
