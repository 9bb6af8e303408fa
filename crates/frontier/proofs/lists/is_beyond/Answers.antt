use Rattle.std.proofs.Common.{refl, ◌∙◌, rules, tests}
use Rattle.std.proofs.lemmas.Iterator.{YieldsList-from_slice}
use Rattle.std.proofs.lemmas.Iterator.Search.{any_from_yields_List}
use Rattle.frontier.specs.Frontiers.{beyond}
use Rattle.frontier.proofs.Tests.{any_reads}
use Rattle.frontier.proofs.lists.is_beyond.Goals as goal

pub returns : goal.returns
returns g c =
    let o = g.T.PartialOrder in
    let t = o.value c.args.time.now in
    any_from_yields_List (λ e. o.below (o.value e) t) _ _ _ c.any.ensures.ran (YieldsList-from_slice c.args.list.now cc) (λ x b q k. search (rules, tests))
    ∙ any_reads o.value (λ ys. beyond o.below ys t) (λ e. o.below e t) refl (λ _ _. refl) c.args.list.now
