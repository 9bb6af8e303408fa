use Rattle.std.proofs.Common.{◌≤◌, map, length, arith, rules}
use Rattle.std.proofs.lemmas.Iterator.{YieldsList-from_slice}
use Rattle.std.proofs.lemmas.Iterator.Consumers.{YieldsList-from_copied, YieldsList-at}
use Rattle.std.proofs.lemmas.Result.{err_from_is_err_and}
use Rattle.frontier.specs.Tables.{counted}
use Rattle.frontier.proofs.Yielding.{yields_read}
use Rattle.capture.specs.Sizes.{reader_counts}
use Rattle.source.proofs.Weights.{brought_full, brought_few, brought_many, brought}
use Rattle.source.proofs.weighing.bring_in.Goals as goal

pub returns-in_err-n : goal.returns-in_err-n
returns-in_err-n g c =
    let o = g.T.PartialOrder in
    let table = c.copy_entries.new.to in
    let wide : reader_counts ≤ length table = omega (arith, c.copy_entries.auto.to, c.requires.2) in
    let v = counted o.value in
    let added = yields_read v (YieldsList-from_copied (YieldsList-at c.copied-added.ensures.source (YieldsList-from_slice c.args.waiting_counts.now cc))) in
    let told = c.in_err-n.ensures.answer (map v c.args.waiting_counts.now) added in
    let q = err_from_is_err_and c.from_residual.result c.from_residual.ensures.1 in
    rw (q.1, q.2) (brought_full o.below o.value c.args.frontier.now c.args.counts.now c.args.waiting_counts.now c.requires.0 c.requires.1 table wide c.copy_entries.ensures.front c.in_err-n.field-0.0 told.0 c.update_all.new.table c.args.edge.now)

pub slice_bounds-lower_edge-end : goal.slice_bounds-lower_edge-end
slice_bounds-lower_edge-end g c =
    let o = g.T.PartialOrder in
    let table = c.copy_entries.new.to in
    let wide : reader_counts ≤ length table = omega (arith, c.copy_entries.auto.to, c.requires.2) in
    let v = counted o.value in
    let added = yields_read v (YieldsList-from_copied (YieldsList-at c.copied-added.ensures.source (YieldsList-from_slice c.args.waiting_counts.now cc))) in
    let sum = c.in_ok-n.ensures.answer (map v c.args.waiting_counts.now) added in
    let h : c.in_ok-n.n ≤ length c.update_all.new.table = omega (arith, brought_few o.below o.value c.args.frontier.now c.args.counts.now c.args.waiting_counts.now c.requires.0 c.requires.1 table wide c.copy_entries.ensures.front c.in_ok-n.n c.update_all.new.table sum.0 sum.1, c.update_all.auto.table) in
    search rules

pub returns-in_err-m : goal.returns-in_err-m
returns-in_err-m g c =
    let o = g.T.PartialOrder in
    let table = c.copy_entries.new.to in
    let wide : reader_counts ≤ length table = omega (arith, c.copy_entries.auto.to, c.requires.2) in
    let v = counted o.value in
    let added = yields_read v (YieldsList-from_copied (YieldsList-at c.copied-added.ensures.source (YieldsList-from_slice c.args.waiting_counts.now cc))) in
    let sum = c.in_ok-n.ensures.answer (map v c.args.waiting_counts.now) added in
    let q = err_from_is_err_and c.from_residual-in_err-m.result c.from_residual-in_err-m.ensures.1 in
    rw (q.1, q.2) (brought_many o.below o.value c.args.frontier.now c.args.counts.now c.args.waiting_counts.now c.requires.0 c.requires.1 table wide c.copy_entries.ensures.front c.in_ok-n.n c.update_all.new.table sum.0 sum.1 (length c.args.edge.now) c.requires.3 c.in_err-m.field-0.0 c.in_err-m.ensures.0 c.update_all.new.table c.lower_edge.new.edge)

pub returns : goal.returns
returns g c =
    let o = g.T.PartialOrder in
    let table = c.copy_entries.new.to in
    let wide : reader_counts ≤ length table = omega (arith, c.copy_entries.auto.to, c.requires.2) in
    let v = counted o.value in
    let added = yields_read v (YieldsList-from_copied (YieldsList-at c.copied-added.ensures.source (YieldsList-from_slice c.args.waiting_counts.now cc))) in
    let sum = c.in_ok-n.ensures.answer (map v c.args.waiting_counts.now) added in
    let told = c.in_ok-m.ensures in
    brought o.below o.value c.args.frontier.now c.args.counts.now c.args.waiting_counts.now c.requires.0 c.requires.1 table wide c.copy_entries.ensures.front c.in_ok-n.n c.update_all.new.table sum.0 sum.1 (length c.args.edge.now) c.requires.3 c.in_ok-m.m c.lower_edge.new.edge told.0 told.1
