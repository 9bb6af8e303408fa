use Rattle.std.proofs.Common.{not, rules}
use Rattle.std.proofs.lemmas.Fn.{filter_same}
use Rattle.frontier.proofs.Retaining.{kept_reads}
use Rattle.frontier.proofs.antichain.keep_without.Goals as goal

pub returns : goal.returns
returns g c =
    let o = g.T.PartialOrder in
    let t = o.value c.args.time.now in
    let told = c.retain.ensures in
    let kept = filter_same _ (λ e. not (o.below t (o.value e))) _ (λ e b f k. search rules) _ _ told.kept in
    record { within = told.within; after = kept_reads (λ e. not (o.below t e)) o.value c.args.table.now c.retain.new.table c.retain.result c.args.len told.within c.requires c.retain.auto.table kept; rest = told.rest }
