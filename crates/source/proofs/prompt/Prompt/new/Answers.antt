use Rattle.std.proofs.Common.{◌<◌, length, sym, ◌∙◌, arith, rules}
use Rattle.capture.specs.Kinds.{kinds}
use Rattle.capture.specs.Views.{change_of}
use Rattle.source.proofs.Sizes.{new_told}
use Rattle.source.proofs.Starting.{new_short, new_done}
use Rattle.source.proofs.prompt.Prompt.new.Goals as goal

pub returns-then-not-are_new_sized : goal.returns-then-not-are_new_sized
returns-then-not-are_new_sized g c =
    let o = g.T.PartialOrder in
    let k = kinds g.D.Same.alike o.below g.T.Lattice.joined g.T.Timestamp.start g.R.Same.alike in
    new_short k o.value (change_of g.D.Same.value o.value g.R.Same.value) c.args.frontier.now c.args.reported.now c.args.heeded.now c.args.counts.now c.args.waiting_counts.now c.args.pending.now c.args.waiting.now (sym c.are_new_sized.ensures ∙ c.if-not-are_new_sized.true)

pub bounds-reported-0 : goal.bounds-reported-0
bounds-reported-0 g c =
    let sizes = new_told c.args.frontier.now c.args.reported.now c.args.heeded.now c.args.counts.now c.args.waiting_counts.now c.args.pending.now c.args.waiting.now (sym c.are_new_sized.ensures ∙ c.if-not-are_new_sized.false) in
    let h : 0 < length c.args.reported.now = omega arith in
    search rules

pub bounds-heeded-0 : goal.bounds-heeded-0
bounds-heeded-0 g c =
    let sizes = new_told c.args.frontier.now c.args.reported.now c.args.heeded.now c.args.counts.now c.args.waiting_counts.now c.args.pending.now c.args.waiting.now (sym c.are_new_sized.ensures ∙ c.if-not-are_new_sized.false) in
    let h : 0 < length c.args.heeded.now = omega arith in
    search rules

pub returns : goal.returns
returns g c =
    let o = g.T.PartialOrder in
    let k = kinds g.D.Same.alike o.below g.T.Lattice.joined g.T.Timestamp.start g.R.Same.alike in
    new_done k o.value (change_of g.D.Same.value o.value g.R.Same.value) c.args.frontier.now c.args.reported.now c.args.heeded.now c.args.counts.now c.args.waiting_counts.now c.args.pending.now c.args.waiting.now (sym c.are_new_sized.ensures ∙ c.if-not-are_new_sized.false) c.minimum.result c.minimum-2.result c.minimum-3.result c.minimum.ensures c.minimum-2.ensures c.minimum-3.ensures
