use Rattle.std.proofs.Common.{refl, ◌∙◌, rules, tests}
use Rattle.std.proofs.lemmas.Iterator.{YieldsList-from_slice}
use Rattle.std.proofs.lemmas.Iterator.Search.{any_from_yields_List}
use Rattle.frontier.proofs.Tests.{any_reads}
use Rattle.capture.specs.Kinds.{kinds}
use Rattle.capture.specs.Messages.{alike, has}
use Rattle.capture.specs.Views.{change_of}
use Rattle.progress.proofs.changes.is_held.Goals as goal

pub returns : goal.returns
returns g c =
    let k = kinds g.D.Same.alike g.T.PartialOrder.below g.T.Lattice.joined g.T.Timestamp.start g.R.Same.alike in
    let reads = change_of g.D.Same.value g.T.PartialOrder.value g.R.Same.value in
    let x = reads c.args.change.now in
    any_from_yields_List (λ e. alike k (reads e) x) _ _ _ c.any.ensures.ran (YieldsList-from_slice c.args.list.now cc) (λ y b q h. search (rules, tests))
    ∙ any_reads reads (λ ys. has k ys x) (λ e. alike k e x) refl (λ _ _. refl) c.args.list.now
