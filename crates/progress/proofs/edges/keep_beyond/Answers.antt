use Rattle.std.proofs.Common.{map, rules}
use Rattle.std.proofs.lemmas.Fn.{filter_same}
use Rattle.frontier.specs.Frontiers.{beyond}
use Rattle.frontier.proofs.Retaining.{kept_reads}
use Rattle.capture.specs.Views.{change_of}
use Rattle.progress.proofs.edges.keep_beyond.Goals as goal

pub returns : goal.returns
returns g c =
    let o = g.T.PartialOrder in
    let f = map o.value c.args.frontier.now in
    let told = c.retain.ensures in
    let kept = filter_same _ (λ e. beyond o.below f (o.value e.1)) _ (λ e b q k. search rules) _ _ told.kept in
    record { within = told.within; after = kept_reads (λ e. beyond o.below f e.time) (change_of g.D.Same.value o.value g.R.Same.value) c.args.changes.now c.retain.new.table c.retain.result c.args.len told.within c.requires c.retain.auto.table kept }
