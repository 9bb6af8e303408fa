use Rattle.std.proofs.Common.{map}
use Rattle.std.proofs.lemmas.Iterator.{YieldsList-from_slice}
use Rattle.std.proofs.lemmas.Iterator.Consumers.{YieldsList-from_copied, YieldsList-at}
use Rattle.frontier.proofs.Yielding.{yields_read}
use Rattle.frontier.proofs.steps.extend.Goals as goal

pub returns : goal.returns
returns g c =
    let o = g.T.PartialOrder in
    let told = c.insert_all.ensures in
    let given = YieldsList-from_copied (YieldsList-at c.copied.ensures.source (YieldsList-from_slice c.args.list.now cc)) in
    record { answer = told.answer (map o.value c.args.list.now) (yields_read o.value given); rest = told.rest }
