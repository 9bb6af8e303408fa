use Rattle.std.proofs.Common.{not, ◌&&◌, map, refl, ◌∙◌, rules, tests}
use Rattle.std.proofs.lemmas.Iterator.{YieldsList-from_slice}
use Rattle.std.proofs.lemmas.Iterator.Search.{all_from_yields_List}
use Rattle.frontier.specs.Frontiers.{beyond}
use Rattle.frontier.proofs.Tests.{all_reads}
use Rattle.capture.specs.Statements.{inside}
use Rattle.capture.specs.Views.{count_of}
use Rattle.progress.proofs.statements.is_inside.Goals as goal

pub returns : goal.returns
returns g c =
    let o = g.T.PartialOrder in
    let lower = map o.value c.args.lower.now in
    let upper = map o.value c.args.upper.now in
    all_from_yields_List (λ e. beyond o.below lower (o.value e.0) && not (beyond o.below upper (o.value e.0))) _ _ _ c.all.ensures.ran (YieldsList-from_slice c.args.counts.now cc) (λ x b q k. search (rules, tests))
    ∙ all_reads (count_of o.value) (inside o.below lower upper) (λ e. beyond o.below lower e.0 && not (beyond o.below upper e.0)) refl (λ _ _. refl) c.args.counts.now
