use Rattle.std.proofs.Common.{map, not, rules}
use Rattle.std.proofs.lemmas.Fn.{filter_same}
use Rattle.frontier.proofs.Retaining.{kept_reads}
use Rattle.capture.specs.Statements.{passed}
use Rattle.capture.specs.Stored.{stored_statement}
use Rattle.progress.proofs.statements.drop_passed.Goals as goal

pub returns : goal.returns
returns g c =
    let o = g.T.PartialOrder in
    let f = map o.value c.args.frontier.now in
    let told = c.retain.ensures in
    let kept = filter_same _ (λ e. not (passed o.below f (stored_statement o.value e))) _ (λ e b q k. search rules) _ _ told.kept in
    record { within = told.within; after = kept_reads (λ s. not (passed o.below f s)) (stored_statement o.value) c.args.waiting.now c.retain.new.table c.retain.result c.args.len told.within c.requires c.retain.auto.table kept }
