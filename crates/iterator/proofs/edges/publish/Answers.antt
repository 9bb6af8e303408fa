use Rattle.std.proofs.Common.{◌≡◌, ◌-◌, false, not, map, length, sym, refl, ap, ◌∙◌, arith}
use Rattle.std.proofs.lemmas.List.Filters.{length-filter_both}
use Rattle.std.proofs.lemmas.List.{length-map, take_all}
use Rattle.frontier.specs.Frontiers.{beyond, equal}
use Rattle.frontier.specs.Tables.{in_use}
use Rattle.frontier.proofs.Tables.{sub_zero, length_in_use}
use Rattle.capture.specs.Messages.{those_behind}
use Rattle.capture.specs.Views.{change_of}
use Rattle.iterator.proofs.edges.publish.Goals as goal

pub returns : goal.returns
returns g c =
    let o = g.T.PartialOrder in
    let reads = change_of g.D.Same.value o.value g.R.Same.value in
    let E = c.args.edge.now in
    let edge = map o.value E in
    let len = c.args.len in
    let L = in_use reads len c.args.held.now in
    let n = c.copy_behind-n.result in
    let behind = c.copy_behind-n.ensures.after in
    let kept = c.keep_beyond.ensures.after in
    let moved : equal o.below edge (in_use o.value c.args.times c.args.reported.now) ≡ false = sym (ap (λ k. equal o.below edge (in_use o.value k c.args.reported.now)) (sub_zero c.args.times)) ∙ sym c.antichain_equal.ensures.value ∙ c.if-antichain_equal.false in
    let size : length L ≡ len = length_in_use reads len c.args.held.now (omega (arith, c.requires.3, c.requires.4)) in
    let gone : length (those_behind o.below edge L) ≡ n = sym (ap (λ k. length (those_behind o.below edge (in_use reads k c.args.held.now))) (sub_zero len)) ∙ behind.1 in
    let both = length-filter_both (λ x. beyond o.below edge x.time) (λ x. not (beyond o.below edge x.time)) (λ _. refl) L in
    let left : len - n ≡ c.keep_beyond.result = omega (arith, both, gone, size, kept.1) in
    let all = take_all (length E) E (omega arith) in
    let told = length-map E o.value in
    (moved, (ap (map o.value) (c.copy_entries.ensures.front ∙ all), told), (ap (λ k. in_use reads k c.keep_beyond.new.changes) left ∙ kept.0, kept.1 ∙ sym left), ((behind.0 ∙ ap (λ k. those_behind o.below edge (in_use reads k c.args.held.now)) (sub_zero len), gone), c.copy_behind-n.ensures.rest), ((ap (map o.value) (c.copy_entries-2.ensures.front ∙ all), told), c.copy_entries-2.ensures.rest))
