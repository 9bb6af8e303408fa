use Rattle.std.proofs.Common.{sym, ◌∙◌}
use Rattle.capture.specs.Kinds.{kinds}
use Rattle.capture.specs.Views.{change_of}
use Rattle.source.proofs.Heeding.{heed_short, heed_done}
use Rattle.source.proofs.prompt.Prompt.heed.Goals as goal

pub returns-then-not-are_heed_sized : goal.returns-then-not-are_heed_sized
returns-then-not-are_heed_sized g c =
    let o = g.T.PartialOrder in
    let k = kinds g.D.Same.alike o.below g.T.Lattice.joined g.T.Timestamp.start g.R.Same.alike in
    let reads = change_of g.D.Same.value o.value g.R.Same.value in
    heed_short k o.value reads c.args.self.now c.args.reported.now c.args.heeded.now c.args.pending.now _ (sym c.are_heed_sized.ensures ∙ c.if-not-are_heed_sized.true)

pub returns : goal.returns
returns g c =
    let o = g.T.PartialOrder in
    let k = kinds g.D.Same.alike o.below g.T.Lattice.joined g.T.Timestamp.start g.R.Same.alike in
    let reads = change_of g.D.Same.value o.value g.R.Same.value in
    heed_done k o.value reads c.args.self.now c.args.reported.now c.args.heeded.now c.args.pending.now tt (sym c.are_heed_sized.ensures ∙ c.if-not-are_heed_sized.false) c.copy_entries.new.to c.keep_beyond-self.new.changes c.keep_beyond-self.result c.copy_entries.ensures.front c.keep_beyond-self.ensures.after
