use Rattle.std.proofs.Common.{map, sym, ◌∙◌, rules, tests}
use Rattle.std.proofs.lemmas.List.Folds.{list_all-map}
use Rattle.std.proofs.lemmas.Iterator.{YieldsList-from_slice}
use Rattle.std.proofs.lemmas.Iterator.Search.{all_from_yields_List}
use Rattle.frontier.specs.Frontiers.{beyond}
use Rattle.capture.specs.Views.{change_of}
use Rattle.sink.proofs.counting.all_beyond.Goals as goal

pub returns : goal.returns
returns g c =
    let o = g.T.PartialOrder in
    let f = map o.value c.args.list.now in
    all_from_yields_List (λ x. beyond o.below f (o.value x.1)) _ _ _ c.all.ensures.ran (YieldsList-from_slice c.args.changes.now cc) (λ x b q k. search (rules, tests))
    ∙ sym (list_all-map (λ e. beyond o.below f e.time) (change_of g.D.Same.value o.value g.R.Same.value) c.args.changes.now)
