use Rattle.std.proofs.Common.{◌≤◌, length, sym, ◌∙◌, arith, rules}
use Rattle.std.proofs.lemmas.List.{length-take}
use Rattle.std.proofs.lemmas.Result.{err_from_is_err_and}
use Rattle.capture.specs.Kinds.{kinds}
use Rattle.capture.specs.Views.{change_of}
use Rattle.source.proofs.Sizes.{sift_told}
use Rattle.source.proofs.Sifting.{weighed_fits, sift_short, sift_refused, sift_done}
use Rattle.source.proofs.prompt.Prompt.sift.Goals as goal

pub returns-then-not-are_sift_sized : goal.returns-then-not-are_sift_sized
returns-then-not-are_sift_sized g c =
    let o = g.T.PartialOrder in
    let k = kinds g.D.Same.alike o.below g.T.Lattice.joined g.T.Timestamp.start g.R.Same.alike in
    let reads = change_of g.D.Same.value o.value g.R.Same.value in
    sift_short k o.value reads c.args.changes.now c.args.self.now c.args.heeded.now c.args.waiting_counts.now c.args.pending.now c.args.shipped.now c.args.new.now c.args.sums.now (sym c.are_sift_sized.ensures ∙ c.if-not-are_sift_sized.true)

pub slice_bounds-weigh_changes-end : goal.slice_bounds-weigh_changes-end
slice_bounds-weigh_changes-end g c =
    let fit = sym c.are_sift_sized.ensures ∙ c.if-not-are_sift_sized.false in
    let sizes = sift_told c.args.self.now c.args.heeded.now c.args.waiting_counts.now c.args.pending.now c.args.shipped.now c.args.new.now c.args.sums.now fit in
    let h : c.args.self.now.heeded ≤ length c.args.heeded.now = omega (arith, sizes.0) in
    search rules

pub slice_bounds-weigh_changes-end-2 : goal.slice_bounds-weigh_changes-end-2
slice_bounds-weigh_changes-end-2 g c =
    let fit = sym c.are_sift_sized.ensures ∙ c.if-not-are_sift_sized.false in
    let sizes = sift_told c.args.self.now c.args.heeded.now c.args.waiting_counts.now c.args.pending.now c.args.shipped.now c.args.new.now c.args.sums.now fit in
    let h : c.args.self.now.pending ≤ length c.args.pending.now = omega (arith, sizes.2) in
    search rules

pub slice_bounds-weigh_changes-end-3 : goal.slice_bounds-weigh_changes-end-3
slice_bounds-weigh_changes-end-3 g c =
    let fit = sym c.are_sift_sized.ensures ∙ c.if-not-are_sift_sized.false in
    let sizes = sift_told c.args.self.now c.args.heeded.now c.args.waiting_counts.now c.args.pending.now c.args.shipped.now c.args.new.now c.args.sums.now fit in
    let h : c.args.self.now.waiting_counts ≤ length c.args.waiting_counts.now = omega (arith, sizes.1) in
    search rules

pub weigh_changes-requires : goal.weigh_changes-requires
weigh_changes-requires g c =
    let fit = sym c.are_sift_sized.ensures ∙ c.if-not-are_sift_sized.false in
    let sizes = sift_told c.args.self.now c.args.heeded.now c.args.waiting_counts.now c.args.pending.now c.args.shipped.now c.args.new.now c.args.sums.now fit in
    (simp length-take (omega (arith, sizes.2)), simp length-take (omega (arith, sizes.1)), sizes.4, sizes.5)

pub returns-in_err-w : goal.returns-in_err-w
returns-in_err-w g c =
    let o = g.T.PartialOrder in
    let k = kinds g.D.Same.alike o.below g.T.Lattice.joined g.T.Timestamp.start g.R.Same.alike in
    let reads = change_of g.D.Same.value o.value g.R.Same.value in
    let fit = sym c.are_sift_sized.ensures ∙ c.if-not-are_sift_sized.false in
    let q = err_from_is_err_and c.from_residual.result c.from_residual.ensures.1 in
    rw (q.1, q.2) (sift_refused k o.value reads c.args.changes.now c.args.self.now c.args.heeded.now c.args.waiting_counts.now c.args.pending.now c.args.shipped.now c.args.new.now c.args.sums.now fit c.in_err-w.field-0.0 c.weigh_changes.new.new c.weigh_changes.new.sums c.in_err-w.ensures)

pub copy_entries-requires : goal.copy_entries-requires
copy_entries-requires g c =
    let o = g.T.PartialOrder in
    let k = kinds g.D.Same.alike o.below g.T.Lattice.joined g.T.Timestamp.start g.R.Same.alike in
    let reads = change_of g.D.Same.value o.value g.R.Same.value in
    let fit = sym c.are_sift_sized.ensures ∙ c.if-not-are_sift_sized.false in
    let sizes = sift_told c.args.self.now c.args.heeded.now c.args.waiting_counts.now c.args.pending.now c.args.shipped.now c.args.new.now c.args.sums.now fit in
    let few = weighed_fits k o.value reads c.args.changes.now c.args.self.now c.args.heeded.now c.args.waiting_counts.now c.args.pending.now c.in_ok-w.w c.weigh_changes.new.new c.weigh_changes.new.sums c.in_ok-w.ensures (omega (arith, sizes.2)) in
    (omega (arith, few.1, sizes.5, c.weigh_changes.auto.sums), omega (arith, few.1, sizes.1))

pub append_entries-requires : goal.append_entries-requires
append_entries-requires g c =
    let o = g.T.PartialOrder in
    let k = kinds g.D.Same.alike o.below g.T.Lattice.joined g.T.Timestamp.start g.R.Same.alike in
    let reads = change_of g.D.Same.value o.value g.R.Same.value in
    let fit = sym c.are_sift_sized.ensures ∙ c.if-not-are_sift_sized.false in
    let sizes = sift_told c.args.self.now c.args.heeded.now c.args.waiting_counts.now c.args.pending.now c.args.shipped.now c.args.new.now c.args.sums.now fit in
    let few = weighed_fits k o.value reads c.args.changes.now c.args.self.now c.args.heeded.now c.args.waiting_counts.now c.args.pending.now c.in_ok-w.w c.weigh_changes.new.new c.weigh_changes.new.sums c.in_ok-w.ensures (omega (arith, sizes.2)) in
    (omega (arith, few.0, sizes.4, c.weigh_changes.auto.new), omega (arith, few.0, sizes.2))

pub copy_entries-requires-2 : goal.copy_entries-requires-2
copy_entries-requires-2 g c =
    let o = g.T.PartialOrder in
    let k = kinds g.D.Same.alike o.below g.T.Lattice.joined g.T.Timestamp.start g.R.Same.alike in
    let reads = change_of g.D.Same.value o.value g.R.Same.value in
    let fit = sym c.are_sift_sized.ensures ∙ c.if-not-are_sift_sized.false in
    let sizes = sift_told c.args.self.now c.args.heeded.now c.args.waiting_counts.now c.args.pending.now c.args.shipped.now c.args.new.now c.args.sums.now fit in
    let few = weighed_fits k o.value reads c.args.changes.now c.args.self.now c.args.heeded.now c.args.waiting_counts.now c.args.pending.now c.in_ok-w.w c.weigh_changes.new.new c.weigh_changes.new.sums c.in_ok-w.ensures (omega (arith, sizes.2)) in
    (omega (arith, few.0, sizes.4, c.weigh_changes.auto.new), omega (arith, few.0, sizes.3))

pub overflow_add-self : goal.overflow_add-self
overflow_add-self g c =
    let o = g.T.PartialOrder in
    let k = kinds g.D.Same.alike o.below g.T.Lattice.joined g.T.Timestamp.start g.R.Same.alike in
    let reads = change_of g.D.Same.value o.value g.R.Same.value in
    let fit = sym c.are_sift_sized.ensures ∙ c.if-not-are_sift_sized.false in
    let sizes = sift_told c.args.self.now c.args.heeded.now c.args.waiting_counts.now c.args.pending.now c.args.shipped.now c.args.new.now c.args.sums.now fit in
    let few = weighed_fits k o.value reads c.args.changes.now c.args.self.now c.args.heeded.now c.args.waiting_counts.now c.args.pending.now c.in_ok-w.w c.weigh_changes.new.new c.weigh_changes.new.sums c.in_ok-w.ensures (omega (arith, sizes.2)) in
    omega (arith, few.0)

pub returns : goal.returns
returns g c =
    let o = g.T.PartialOrder in
    let k = kinds g.D.Same.alike o.below g.T.Lattice.joined g.T.Timestamp.start g.R.Same.alike in
    let reads = change_of g.D.Same.value o.value g.R.Same.value in
    let fit = sym c.are_sift_sized.ensures ∙ c.if-not-are_sift_sized.false in
    sift_done k o.value reads c.args.changes.now c.args.self.now c.args.heeded.now c.args.waiting_counts.now c.args.pending.now c.args.shipped.now c.args.new.now c.args.sums.now fit c.in_ok-w.w c.weigh_changes.new.new c.weigh_changes.new.sums c.in_ok-w.ensures c.copy_entries.new.to c.append_entries.new.to c.copy_entries-2.new.to c.copy_entries.ensures.front c.append_entries.ensures.front c.copy_entries-2.ensures.front c.copy_entries-2.ensures.rest
