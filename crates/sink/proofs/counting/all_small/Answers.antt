use Rattle.std.proofs.Common.{leb, map, sym, ◌∙◌, rules, tests}
use Rattle.std.proofs.lemmas.List.Folds.{list_all-map}
use Rattle.std.proofs.lemmas.Iterator.{YieldsList-from_slice}
use Rattle.std.proofs.lemmas.Iterator.Search.{all_from_yields_List}
use Rattle.frontier.specs.Tables.{counted}
use Rattle.capture.specs.Sizes.{largest_count}
use Rattle.capture.specs.Sender.{told, count_at}
use Rattle.capture.specs.Views.{change_of}
use Rattle.sink.proofs.counting.all_small.Goals as goal

pub returns : goal.returns
returns g c =
    let o = g.T.PartialOrder in
    let counts = map (counted o.value) c.args.table.now in
    all_from_yields_List (λ x. leb (told (count_at o.below counts (o.value x.1))) largest_count) _ _ _ c.all.ensures.ran (YieldsList-from_slice c.args.changes.now cc) (λ x b q k. search (rules, tests))
    ∙ sym (list_all-map (λ e. leb (told (count_at o.below counts e.time)) largest_count) (change_of g.D.Same.value o.value g.R.Same.value) c.args.changes.now)
