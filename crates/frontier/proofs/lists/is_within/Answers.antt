use Rattle.std.proofs.Common.{map, refl, ◌∙◌, rules, tests}
use Rattle.std.proofs.lemmas.Iterator.{YieldsList-from_slice}
use Rattle.std.proofs.lemmas.Iterator.Search.{all_from_yields_List}
use Rattle.frontier.specs.Frontiers.{holds, within}
use Rattle.frontier.proofs.Tests.{all_reads}
use Rattle.frontier.proofs.lists.is_within.Goals as goal

pub returns : goal.returns
returns g c =
    let o = g.T.PartialOrder in
    let other = map o.value c.args.other.now in
    all_from_yields_List (λ t. holds o.below other (o.value t)) _ _ _ c.all.ensures.ran (YieldsList-from_slice c.args.one.now cc) (λ x b q k. search (rules, tests))
    ∙ all_reads o.value (λ ys. within o.below ys other) (holds o.below other) refl (λ _ _. refl) c.args.one.now
