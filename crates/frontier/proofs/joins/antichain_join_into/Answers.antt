use Rattle.std.proofs.Common.{◌<◌, ◌≤◌, min, [], map, length, Some, sym, refl, ap, ◌∙◌, inr, ⊎_elim, arith}
use Rattle.std.proofs.lemmas.Result.{err_from_is_err_and}
use Rattle.questions.specs.Questions.{number_of}
use Rattle.frontier.specs.Frontiers.{fits, pairwise}
use Rattle.frontier.proofs.Antichains.{antichain_join}
use Rattle.frontier.specs.Tables.{frontier_size}
use Rattle.frontier.proofs.Filling.{made_few, made_copied}
use Rattle.frontier.proofs.Tables.{table_short, table_fits, table_full, refused_full, accepted}
use Rattle.frontier.proofs.joins.antichain_join_into.Goals as goal

pub returns-then-upper-lt-FRONTIER_SIZE : goal.returns-then-upper-lt-FRONTIER_SIZE
returns-then-upper-lt-FRONTIER_SIZE g c =
    let o = g.T.PartialOrder in
    let one = map o.value c.args.one.now in
    let other = map o.value c.args.other.now in
    let few = fits o.below frontier_size [] (pairwise g.T.Lattice.joined one other) in
    let n = length c.args.upper.now in
    let m = length c.args.scratch.now in
    let short : min n m < frontier_size = ⊎_elim (λ h. omega (arith, h)) (λ h. omega (arith, h.1)) c.then-upper-lt-FRONTIER_SIZE.either in
    record { answer = (table_short frontier_size 12 (min n m) 0 few (inr (omega arith, short)), refl); scratch = refl; law = antichain_join g.met.T.PartialOrder.order g.T.Lattice.joined }

pub returns-in_err-n : goal.returns-in_err-n
returns-in_err-n g c =
    let o = g.T.PartialOrder in
    let one = map o.value c.args.one.now in
    let other = map o.value c.args.other.now in
    let few = fits o.below frontier_size [] (pairwise g.T.Lattice.joined one other) in
    let n = length c.args.upper.now in
    let m = length c.args.scratch.now in
    let told = c.in_err-n.ensures in
    let long : frontier_size ≤ m = omega arith in
    let both : frontier_size ≤ min n m = omega arith in
    let many = refused_full frontier_size 12 m 0 few (omega arith) long (number_of c.in_err-n.field-0.0) told.answer.0 in
    let p = err_from_is_err_and c.from_residual.result c.from_residual.ensures.1 in
    rw (p.1, p.2) record { answer = (table_full frontier_size 12 (min n m) 0 few (omega arith) both many.0 ∙ ap Some (sym many.1), refl); scratch = told.rest; law = antichain_join g.met.T.PartialOrder.order g.T.Lattice.joined }

pub copy_entries-requires : goal.copy_entries-requires
copy_entries-requires g c =
    let o = g.T.PartialOrder in
    let one = map o.value c.args.one.now in
    let other = map o.value c.args.other.now in
    let told = c.in_ok-n.ensures in
    let few = made_few o.below o.value (pairwise g.T.Lattice.joined one other) c.in_ok-n.n c.join_into.new.table told.answer.1 (length c.args.scratch.now) told.answer.0 in
    (omega arith, omega arith)

pub returns : goal.returns
returns g c =
    let o = g.T.PartialOrder in
    let one = map o.value c.args.one.now in
    let other = map o.value c.args.other.now in
    let few = fits o.below frontier_size [] (pairwise g.T.Lattice.joined one other) in
    let n = length c.args.upper.now in
    let m = length c.args.scratch.now in
    let told = c.in_ok-n.ensures in
    let both : frontier_size ≤ min n m = omega arith in
    let made = made_copied o.below o.value (pairwise g.T.Lattice.joined one other) c.in_ok-n.n c.join_into.new.table told.answer.1 c.copy_entries.new.to c.copy_entries.ensures.front in
    record { answer = (table_fits frontier_size 12 (min n m) 0 few (omega arith) both (accepted frontier_size 12 m 0 few told.answer.0).2, (made, c.copy_entries.ensures.rest)); scratch = told.rest; law = antichain_join g.met.T.PartialOrder.order g.T.Lattice.joined }
