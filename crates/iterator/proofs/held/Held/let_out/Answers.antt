use Rattle.std.proofs.Common.{not, map, arith}
use Rattle.std.proofs.lemmas.List.Sums.{length-filter, count_by-le-length}
use Rattle.frontier.specs.Frontiers.{beyond}
use Rattle.frontier.specs.Tables.{in_use}
use Rattle.frontier.proofs.Tables.{length_in_use}
use Rattle.capture.specs.Views.{change_of}
use Rattle.iterator.proofs.held.Held.let_out.Goals as goal

pub overflow_sub-self : goal.overflow_sub-self
overflow_sub-self g c =
    let o = g.T.PartialOrder in
    let reads = change_of g.D.Same.value o.value g.R.Same.value in
    let h = c.args.self.now.held in
    let L = in_use reads h c.args.held.now in
    let f = map o.value c.args.edge.now in
    let told = c.in-Some.ensures in
    omega (arith, told.3.0.1, length-filter (λ x. not (beyond o.below f x.time)) L, count_by-le-length (λ x. not (beyond o.below f x.time)) L, length_in_use reads h c.args.held.now (omega (arith, c.requires.3, c.requires.4)))
