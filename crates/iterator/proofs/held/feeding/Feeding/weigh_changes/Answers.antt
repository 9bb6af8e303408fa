use Rattle.std.proofs.Common.{length, Ok, Err}
use Rattle.std.proofs.lemmas.Result.{err_from_is_err_and}
use Rattle.capture.specs.Kinds.{kinds}
use Rattle.capture.specs.Views.{change_of}
use Rattle.iterator.specs.Feeding.{own}
use Rattle.iterator.proofs.Weighing.{uncut, changes_refused, changes_no, changes_yes}
use Rattle.iterator.proofs.held.feeding.Feeding.weigh_changes.Goals as goal

pub returns-in_err-w : goal.returns-in_err-w
returns-in_err-w g c =
    let o = g.T.PartialOrder in
    let k = kinds g.D.Same.alike o.below g.T.Lattice.joined g.T.Timestamp.start g.R.Same.alike in
    let reads = change_of g.D.Same.value o.value g.R.Same.value in
    let s = c.args.self.now.reader.now in
    let t = own c.args.self.now in
    let cs = c.args.changes.now in
    let new = c.weigh_fresh.new.new in
    let sums = c.weigh_fresh.new.sums in
    let f = c.in_err-w.field-0.0 in
    let told = uncut k o.value reads s t cs (Err f) new sums c.in_err-w.ensures in
    let q = err_from_is_err_and c.from_residual.result c.from_residual.ensures.1 in
    rw (q.1, q.2) (changes_refused k o.value reads s t cs c.if-changes-gt-MESSAGE_CHANGES.false f new sums c.args.edge.now told)

pub returns-in_err-end : goal.returns-in_err-end
returns-in_err-end g c =
    let o = g.T.PartialOrder in
    let k = kinds g.D.Same.alike o.below g.T.Lattice.joined g.T.Timestamp.start g.R.Same.alike in
    let reads = change_of g.D.Same.value o.value g.R.Same.value in
    let s = c.args.self.now.reader.now in
    let t = own c.args.self.now in
    let cs = c.args.changes.now in
    let new = c.weigh_fresh.new.new in
    let sums = c.weigh_fresh.new.sums in
    let told = uncut k o.value reads s t cs (Ok c.in_ok-w.w) new sums c.in_ok-w.ensures in
    let q = err_from_is_err_and c.from_residual-in_err-end.result c.from_residual-in_err-end.ensures.1 in
    rw (q.1, q.2) (changes_no k o.value reads s t cs c.if-changes-gt-MESSAGE_CHANGES.false c.in_ok-w.w new sums told (length c.args.edge.now) c.requires.reader.0.0 c.requires.scratch.2 c.in_err-end.field-0.0 c.lower_edge.new.edge c.in_err-end.ensures.0)

pub returns : goal.returns
returns g c =
    let o = g.T.PartialOrder in
    let k = kinds g.D.Same.alike o.below g.T.Lattice.joined g.T.Timestamp.start g.R.Same.alike in
    let reads = change_of g.D.Same.value o.value g.R.Same.value in
    let s = c.args.self.now.reader.now in
    let t = own c.args.self.now in
    let cs = c.args.changes.now in
    let new = c.weigh_fresh.new.new in
    let sums = c.weigh_fresh.new.sums in
    let told = uncut k o.value reads s t cs (Ok c.in_ok-w.w) new sums c.in_ok-w.ensures in
    changes_yes k o.value reads s t cs c.if-changes-gt-MESSAGE_CHANGES.false c.in_ok-w.w new sums told (length c.args.edge.now) c.requires.reader.0.0 c.requires.scratch.2 c.in_ok-end.end c.lower_edge.new.edge c.in_ok-end.ensures.0 c.in_ok-end.ensures.1
