use Rattle.std.proofs.Common.{leb, refl, ◌∙◌, rules, tests}
use Rattle.std.proofs.lemmas.Iterator.{YieldsList-from_slice}
use Rattle.std.proofs.lemmas.Iterator.Search.{all_from_yields_List}
use Rattle.frontier.proofs.Tests.{all_reads}
use Rattle.capture.specs.Sizes.{largest_count}
use Rattle.capture.specs.Statements.{small}
use Rattle.capture.specs.Views.{count_of}
use Rattle.progress.proofs.statements.is_small.Goals as goal

pub returns : goal.returns
returns g c =
    all_from_yields_List (λ e. leb e.1 largest_count) _ _ _ c.all.ensures.ran (YieldsList-from_slice c.args.counts.now cc) (λ x b q k. search (rules, tests))
    ∙ all_reads (count_of g.T.PartialOrder.value) small (λ e. leb e.1 largest_count) refl (λ _ _. refl) c.args.counts.now
