use Rattle.std.proofs.Common.{map, pos, rules, tests}
use Rattle.std.proofs.lemmas.Iterator.{YieldsList-from_slice, YieldsList-from_map_by}
use Rattle.std.proofs.lemmas.Iterator.Consumers.{YieldsList-at, YieldsList-from_filter}
use Rattle.frontier.specs.Frontiers.{beyond}
use Rattle.frontier.specs.Tables.{counted}
use Rattle.progress.proofs.Counts.{beyond_read}
use Rattle.progress.proofs.statements.add_counts.Goals as goal

pub returns : goal.returns
returns g c =
    let o = g.T.PartialOrder in
    let f = map o.value c.args.frontier.now in
    let xs = c.args.counts.now in
    rw (← beyond_read o.value o.below f xs)
    (c.update_all.ensures.answer _
    (YieldsList-from_map_by _ (counted o.value) (λ e. (o.value e.0, pos e.1))
    (YieldsList-at c.map-amounts.ensures.source (YieldsList-from_filter _ (λ e. beyond o.below f (o.value e.0)) (YieldsList-at c.filter-beyond.ensures.source (YieldsList-from_slice xs cc)) c.filter-beyond.ensures.closure (λ x b q k. search (rules, tests))))
    c.map-amounts.ensures.closure (λ x r q k. search (rules, tests))).runs)
