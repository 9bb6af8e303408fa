use Rattle.std.proofs.Common.{◌≡◌, ◌+◌, ◌<◌, ◌≤◌, [], ◌∷◌, ◌++◌, map, length, take, pos, ap, sym, ◌∙◌, arith}
use Rattle.std.proofs.lemmas.List.{take_all, take_more, map_push}
use Rattle.frontier.specs.Tables.{in_use, counted}
use Rattle.frontier.proofs.Tables.{length_in_use}
use Rattle.capture.specs.Sizes.{sender_counts}
use Rattle.capture.specs.Sender.{raised}
use Rattle.capture.specs.Views.{change_of}
use Rattle.sink.proofs.Additions.{added_few, added_more, room_more, never_full}
use Rattle.sink.proofs.counting.count_changes.Goals as goal

pub unwrap-n-requires : goal.unwrap-n-requires
unwrap-n-requires g c =
    let o = g.T.PartialOrder in
    let few : c.loop-c.n < 1024 = omega (arith, c.loop-c.invariant.few, c.requires.counts.0, c.requires.changes, c.loop-c-test.true) in
    let long : 1024 ≤ length c.loop-c.scratch = omega (arith, c.requires.scratch, c.copy_entries.auto.to, c.loop-c.auto.scratch) in
    never_full o.below o.value 1024 c.loop-c.n c.loop-c.scratch (o.value c.c-item.result.1) (pos 1) few long c.update.result _ _ c.update.ensures.answer

pub loop-c-preserved : goal.loop-c-preserved
loop-c-preserved g c =
    let o = g.T.PartialOrder in
    let reads = change_of g.D.Same.value o.value g.R.Same.value in
    let changes = c.args.changes.now in
    let i = c.loop-c.c-index in
    let x = c.c-item.result in
    let start = in_use (counted o.value) c.args.len c.args.counts.now in
    let front = in_use (counted o.value) c.loop-c.n c.loop-c.scratch in
    let so_far = raised (map reads (take i changes)) in
    let next = raised (map reads (take (i + 1) changes)) in
    let turn : next ≡ so_far ++ (o.value x.1, pos 1) ∷ [] =
    ap (λ l. raised (map reads l)) (take_more changes i x c.loop-c-test.true ∙ ap (λ y. take i changes ++ y ∷ []) (sym c.c-item.is))
    ∙ ap raised (map_push reads (take i changes) x)
    ∙ map_push (λ e. (e.time, pos 1)) (map reads (take i changes)) (reads x) in
    let told = rw c.unwrap-n.ensures at c.update.ensures.answer in
    let more = added_more o.below sender_counts start so_far next front (o.value x.1) (pos 1) turn c.loop-c.invariant.made.0 in
    let size : c.loop-c.n ≤ length c.loop-c.scratch = omega (arith, c.loop-c.invariant.few, c.requires.counts.0, c.requires.changes, c.requires.scratch, c.loop-c-test.true, c.copy_entries.auto.to, c.loop-c.auto.scratch) in
    record {
      few = omega (arith, told.1.1, added_few o.below front (o.value x.1) (pos 1), length_in_use (counted o.value) c.loop-c.n c.loop-c.scratch size, c.loop-c.invariant.few);
      most = omega arith;
      made = (told.1.0 ∙ more, ap length (sym more) ∙ told.1.1);
      room = rw c.max-most.ensures (room_more o.below sender_counts start so_far next front (o.value x.1) (pos 1) turn c.loop-c.invariant.made.0 c.loop-c.most c.unwrap-n.result c.loop-c.invariant.room told.1.1);
    }

pub returns-clause-after : goal.returns-clause-after
returns-clause-after g c =
    let o = g.T.PartialOrder in
    let reads = change_of g.D.Same.value o.value g.R.Same.value in
    let end = take_all c.loop-c.c-index c.args.changes.now c.loop-c-test.false in
    rw (← end) c.loop-c.invariant.made

pub returns-clause-room : goal.returns-clause-room
returns-clause-room g c =
    let end = take_all c.loop-c.c-index c.args.changes.now c.loop-c-test.false in
    rw (← end) c.loop-c.invariant.room
