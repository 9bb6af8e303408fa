use Rattle.std.proofs.Common.{map, refl, ◌∙◌, rules, tests}
use Rattle.std.proofs.lemmas.Iterator.{YieldsList-from_slice}
use Rattle.std.proofs.lemmas.Iterator.Search.{all_from_yields_List}
use Rattle.frontier.specs.Frontiers.{beyond, leq}
use Rattle.frontier.proofs.Tests.{all_reads}
use Rattle.frontier.proofs.lists.antichain_less_equal.Goals as goal

pub returns : goal.returns
returns g c =
    let o = g.T.PartialOrder in
    let one = map o.value c.args.one.now in
    all_from_yields_List (λ t. beyond o.below one (o.value t)) _ _ _ c.all.ensures.ran (YieldsList-from_slice c.args.other.now cc) (λ x b q k. search (rules, tests))
    ∙ all_reads o.value (leq o.below one) (beyond o.below one) refl (λ _ _. refl) c.args.other.now
