use Rattle.std.proofs.Common.{◌++◌, map}
use Rattle.std.proofs.lemmas.Iterator.{YieldsList-from_slice}
use Rattle.std.proofs.lemmas.Iterator.Consumers.{YieldsList-from_copied, YieldsList-from_chain, YieldsList-at}
use Rattle.std.proofs.lemmas.List.{map-append}
use Rattle.frontier.proofs.Yielding.{yields_read}
use Rattle.frontier.proofs.steps.meet_into.Goals as goal

pub returns : goal.returns
returns g c =
    let o = g.T.PartialOrder in
    let one = c.args.one.now in
    let other = c.args.other.now in
    let told = c.insert_all.ensures in
    let both = YieldsList-from_chain (YieldsList-from_slice one cc) (YieldsList-from_slice other cc) c.chain.ensures.first_done c.chain.ensures.second_done in
    let given = yields_read o.value (YieldsList-from_copied (YieldsList-at c.copied.ensures.source both)) in
    record { answer = told.answer (map o.value one ++ map o.value other) (rw (← map-append o.value one other) given); rest = told.rest }
