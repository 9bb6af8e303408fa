use Rattle.std.proofs.Common.{not, refl, ◌∙◌, rules, tests}
use Rattle.std.specs.List.{list_all}
use Rattle.std.proofs.lemmas.Iterator.{YieldsList-from_slice}
use Rattle.std.proofs.lemmas.Iterator.Search.{all_from_yields_List}
use Rattle.lattice.specs.Orders.{at_once}
use Rattle.frontier.proofs.Tests.{all_reads}
use Rattle.capture.specs.Views.{count_of}
use Rattle.progress.proofs.statements.is_uncounted.Goals as goal

pub returns : goal.returns
returns g c =
    let o = g.T.PartialOrder in
    let t = o.value c.args.time.now in
    all_from_yields_List (λ e. not (at_once o.below t (o.value e.0))) _ _ _ c.all.ensures.ran (YieldsList-from_slice c.args.counts.now cc) (λ x b q k. search (rules, tests))
    ∙ all_reads (count_of o.value) (list_all (λ e. not (at_once o.below t e.0))) (λ e. not (at_once o.below t e.0)) refl (λ _ _. refl) c.args.counts.now
