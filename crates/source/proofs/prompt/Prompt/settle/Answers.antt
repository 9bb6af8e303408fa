use Rattle.std.proofs.Common.{sym, ◌∙◌, arith}
use Rattle.std.proofs.lemmas.List.{length-take}
use Rattle.std.proofs.lemmas.Result.{err_from_is_err_and}
use Rattle.source.specs.Calls.{timed, bare}
use Rattle.source.proofs.Sizes.{settle_told}
use Rattle.source.proofs.Settling.{brought_fits, settle_short, settle_refused, settle_done}
use Rattle.source.proofs.prompt.Prompt.settle.Goals as goal

pub returns-then-not-are_settle_sized : goal.returns-then-not-are_settle_sized
returns-then-not-are_settle_sized g c =
    let o = g.T.PartialOrder in
    let k = timed o.below g.T.Lattice.joined g.T.Timestamp.start in
    settle_short k o.value bare c.args.self.now c.args.frontier.now c.args.reported.now c.args.counts.now c.args.waiting_counts.now c.args.sums.now c.args.edge.now (sym c.are_settle_sized.ensures ∙ c.if-not-are_settle_sized.true)

pub bring_in-requires : goal.bring_in-requires
bring_in-requires g c =
    let fit = sym c.are_settle_sized.ensures ∙ c.if-not-are_settle_sized.false in
    let sizes = settle_told c.args.self.now c.args.frontier.now c.args.reported.now c.args.counts.now c.args.waiting_counts.now c.args.sums.now c.args.edge.now fit in
    (simp length-take (omega (arith, sizes.0)), simp length-take (omega (arith, sizes.2)), sizes.4, sizes.5)

pub returns-in_err-n : goal.returns-in_err-n
returns-in_err-n g c =
    let o = g.T.PartialOrder in
    let k = timed o.below g.T.Lattice.joined g.T.Timestamp.start in
    let fit = sym c.are_settle_sized.ensures ∙ c.if-not-are_settle_sized.false in
    let q = err_from_is_err_and c.from_residual.result c.from_residual.ensures.1 in
    rw (q.1, q.2) (settle_refused k o.value bare c.args.self.now c.args.frontier.now c.args.reported.now c.args.counts.now c.args.waiting_counts.now c.args.sums.now c.args.edge.now fit c.in_err-n.field-0.0 c.bring_in.new.sums c.bring_in.new.edge c.in_err-n.ensures)

pub copy_entries-requires : goal.copy_entries-requires
copy_entries-requires g c =
    let fit = sym c.are_settle_sized.ensures ∙ c.if-not-are_settle_sized.false in
    let sizes = settle_told c.args.self.now c.args.frontier.now c.args.reported.now c.args.counts.now c.args.waiting_counts.now c.args.sums.now c.args.edge.now fit in
    let few = brought_fits g.T.PartialOrder.below g.T.PartialOrder.value c.args.self.now c.args.frontier.now c.args.counts.now c.args.waiting_counts.now c.in_ok-n.n c.in_ok-n.m c.bring_in.new.sums c.bring_in.new.edge sizes.0.0 (omega (arith, sizes.0)) sizes.2.0 (omega (arith, sizes.2)) c.in_ok-n.ensures in
    (omega (arith, few.0, sizes.4, c.bring_in.auto.sums), omega (arith, few.0, sizes.2))

pub copy_entries-requires-2 : goal.copy_entries-requires-2
copy_entries-requires-2 g c =
    let fit = sym c.are_settle_sized.ensures ∙ c.if-not-are_settle_sized.false in
    let sizes = settle_told c.args.self.now c.args.frontier.now c.args.reported.now c.args.counts.now c.args.waiting_counts.now c.args.sums.now c.args.edge.now fit in
    let few = brought_fits g.T.PartialOrder.below g.T.PartialOrder.value c.args.self.now c.args.frontier.now c.args.counts.now c.args.waiting_counts.now c.in_ok-n.n c.in_ok-n.m c.bring_in.new.sums c.bring_in.new.edge sizes.0.0 (omega (arith, sizes.0)) sizes.2.0 (omega (arith, sizes.2)) c.in_ok-n.ensures in
    (omega (arith, few.1, sizes.5, c.bring_in.auto.edge), omega (arith, few.1, sizes.1))

pub returns : goal.returns
returns g c =
    let o = g.T.PartialOrder in
    let k = timed o.below g.T.Lattice.joined g.T.Timestamp.start in
    let fit = sym c.are_settle_sized.ensures ∙ c.if-not-are_settle_sized.false in
    settle_done k o.value bare c.args.self.now c.args.frontier.now c.args.reported.now c.args.counts.now c.args.waiting_counts.now c.args.sums.now c.args.edge.now fit c.in_ok-n.n c.in_ok-n.m c.bring_in.new.sums c.bring_in.new.edge c.in_ok-n.ensures c.copy_entries.new.to c.copy_entries-2.new.to c.copy_entries.ensures.front c.copy_entries-2.ensures.front
