use Rattle.std.proofs.Common.{pos, rules, tests}
use lib.Signed.{lt_z}
use Rattle.std.proofs.lemmas.Iterator.{YieldsList-from_slice, YieldsList-from_map_by}
use Rattle.std.proofs.lemmas.Iterator.Consumers.{YieldsList-at, YieldsList-from_filter}
use Rattle.progress.proofs.Counts.{positives_read}
use Rattle.progress.proofs.edges.extend_by_missing.Goals as goal

pub returns : goal.returns
returns g c =
    let o = g.T.PartialOrder in
    let xs = c.args.counts.now in
    rw (← positives_read o.value xs)
    (c.insert_all.ensures.answer _
    (YieldsList-from_map_by _ o.value (λ e. o.value e.0)
    (YieldsList-at c.map-missing.ensures.source (YieldsList-from_filter _ (λ e. lt_z (pos 0) e.1) (YieldsList-at c.filter.ensures.source (YieldsList-from_slice xs cc)) c.filter.ensures.closure (λ x b q k. search (rules, tests))))
    c.map-missing.ensures.closure (λ x r q k. search (rules, tests))).runs)
