use Rattle.std.proofs.Common.{length, map, not, ap, ◌∙◌, rules, tests}
use Rattle.std.proofs.lemmas.Iterator.{YieldsList-from_slice}
use Rattle.std.proofs.lemmas.Iterator.Search.{position_from_yields_List}
use Rattle.std.specs.Option.{unwrap_or}
use Rattle.frontier.proofs.Tests.{place_of, prefix_reads}
use Rattle.capture.specs.Statements.{ready}
use Rattle.capture.specs.Stored.{stored_statement}
use Rattle.progress.proofs.statements.first_ready.Goals as goal

pub returns : goal.returns
returns g c =
    let o = g.T.PartialOrder in
    let f = map o.value c.args.frontier.now in
    let xs = c.args.waiting.now in
    c.unwrap_or.ensures
    ∙ ap (λ r. unwrap_or r (length xs)) (position_from_yields_List (λ e. ready o.below f (stored_statement o.value e)) _ _ c.position.result c.position.ensures.ran (YieldsList-from_slice xs cc) (λ x b q k. search (rules, tests)))
    ∙ place_of (λ e. ready o.below f (stored_statement o.value e)) xs
    ∙ prefix_reads (stored_statement o.value) (λ s. not (ready o.below f s)) xs
