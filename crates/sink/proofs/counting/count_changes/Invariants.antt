use Rattle.std.proofs.Common.{◌≡◌, ◌+◌, ◌≤◌, leb, map, take}
use Rattle.frontier.specs.Counts.{added_all, room}
use Rattle.frontier.specs.Tables.{in_use, Holds, counted}
use Rattle.capture.specs.Sizes.{sender_counts}
use Rattle.capture.specs.Sender.{raised}
use Rattle.capture.specs.Views.{change_of}
use Rattle.sink.proofs.counting.count_changes.Given as goal

-- the changes so far are counted; each made one entry more at most
abbrev pub invariant-loop-c : goal.invariant-loop-c
invariant-loop-c g l =
    let o = g.T.PartialOrder in
    let start = in_use (counted o.value) l.len l.counts in
    let counting = raised (map (change_of g.D.Same.value o.value g.R.Same.value) (take l.c-index l.changes)) in
    record {
      few : l.n ≤ l.len + l.c-index;
      most : l.n ≤ l.most;
      made : Holds (counted o.value) l.n l.scratch (added_all o.below start counting);
      room : leb l.most sender_counts ≡ room o.below sender_counts start counting;
    }
