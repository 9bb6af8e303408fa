use Rattle.std.proofs.Common.{length, ap, ◌∙◌, rules, tests}
use Rattle.std.proofs.lemmas.Iterator.{YieldsList-from_slice}
use Rattle.std.proofs.lemmas.Iterator.Search.{position_from_yields_List}
use Rattle.std.specs.Option.{unwrap_or}
use Rattle.lattice.specs.Orders.{at_once}
use Rattle.frontier.specs.Counts.{other}
use Rattle.frontier.specs.Tables.{counted}
use Rattle.frontier.proofs.Tests.{place_of, prefix_reads}
use Rattle.frontier.proofs.counts.find.Goals as goal

pub returns : goal.returns
returns g c =
    let o = g.T.PartialOrder in
    let t = o.value c.args.time.now in
    let xs = c.args.table.now in
    c.unwrap_or.ensures
    ∙ ap (λ r. unwrap_or r (length xs)) (position_from_yields_List (λ e. at_once o.below (o.value e.0) t) _ _ c.position.result c.position.ensures.ran (YieldsList-from_slice xs cc) (λ x b q k. search (rules, tests)))
    ∙ place_of (λ e. at_once o.below (o.value e.0) t) xs
    ∙ prefix_reads (counted o.value) (other o.below t) xs
