use Rattle.std.proofs.Common.{map, rules}
use Rattle.std.proofs.lemmas.Iterator.{YieldsList-from_slice, YieldsList-from_map_by}
use Rattle.std.proofs.lemmas.Iterator.Consumers.{YieldsList-at}
use Rattle.std.proofs.lemmas.Iterator.Adapters.{YieldsList-from_flat_map}
use Rattle.frontier.proofs.Yielding.{pairwise_read}
use Rattle.frontier.proofs.steps.join_into.Goals as goal

pub returns-clause-answer : goal.returns-clause-answer
returns-clause-answer g c =
    let o = g.T.PartialOrder in
    let joins = g.T.Lattice.joined in
    let one = c.args.one.now in
    let other = c.args.other.now in
    rw (← pairwise_read joins o.value one other)
    (c.insert_all.ensures.answer _
    (YieldsList-from_flat_map {v = λ t. t.now} _ _ _ o.value (λ t. map (λ u. joins (o.value t) (o.value u)) other) _
    (λ x u q k. (search rules, λ j b. YieldsList-from_map_by _ o.value (λ u. joins (o.value x.now) (o.value u)) {f = record { 0 = x }} (YieldsList-from_slice other (search rules)) (search rules) (λ y r p d. search rules)))
    (YieldsList-at c.flat_map-joins.ensures.source (YieldsList-from_slice one cc)) c.flat_map-joins.ensures.closure c.flat_map-joins.ensures.front c.flat_map-joins.ensures.back c.flat_map-joins.ensures.done).runs)
