use Rattle.std.proofs.Common.{negsuc, rules, tests}
use Rattle.std.proofs.lemmas.Iterator.{YieldsList-from_slice, YieldsList-from_map_by}
use Rattle.std.proofs.lemmas.Iterator.Consumers.{YieldsList-at}
use Rattle.frontier.specs.Tables.{counted}
use Rattle.progress.proofs.Counts.{lowered_read}
use Rattle.progress.proofs.changes.lower_counts.Goals as goal

pub returns : goal.returns
returns g c =
    let o = g.T.PartialOrder in
    let xs = c.args.changes.now in
    rw (← lowered_read g.D.Same.value o.value g.R.Same.value xs) (c.update_all.ensures.answer _ (YieldsList-from_map_by _ (counted o.value) (λ e. (o.value e.1, negsuc 0)) (YieldsList-at c.map.ensures.source (YieldsList-from_slice xs cc)) c.map.ensures.closure (λ x r q k. search (rules, tests))).runs)
