use Rattle.std.proofs.Common.{◌≡◌, ℕ, List, [], ◌++◌, map, sym, ap, ◌∙◌}
use Rattle.questions.proofs.Asking.{asked_all}
use Rattle.frontier.specs.Frontiers.{leq, fits, pairwise, join, meet}
use Rattle.frontier.specs.Tables.{frontier_size}
use Rattle.lines.specs.Values.{time_value}
use Rattle.frontiers.specs.Times.{at_or_before, later}
use Rattle.frontiers.specs.Comparing.{reduced}
use Rattle.frontiers.proofs.Frontiers.{same_of, is_also, all_fit}
use Rattle.frontiers.proofs.comparing.compare.Goals as goal

pub returns : goal.returns
returns c =
    let xs = map time_value c.args.one.now in
    let ys = map time_value c.args.other.now in
    let lower = map time_value c.as_slice-lower.result.now in
    let upper = map time_value c.as_slice-upper.result.now in
    let first = c.in_ok-first.ensures in
    let second = c.in_ok-second.ensures in
    let met = c.in_ok-meet.ensures in
    let joined = c.in_ok-join.ensures in
    let low : lower ≡ reduced xs = ap (map time_value) c.as_slice-lower.ensures ∙ first.1.0 in
    let up : upper ≡ reduced ys = ap (map time_value) c.as_slice-upper.ensures ∙ second.1.0 in
    let room = λ (l : List (ℕ × ℕ)). fits at_or_before frontier_size [] l in
    let meet-fits = sym (same_of (λ a b. room (a ++ b)) lower upper (reduced xs) (reduced ys) low up) ∙ (asked_all (room (lower ++ upper)) 12 [] met.0).0 in
    let join-fits = sym (same_of (λ a b. room (pairwise later a b)) lower upper (reduced xs) (reduced ys) low up) ∙ (asked_all (room (pairwise later lower upper)) 12 [] joined.0).0 in (
      all_fit _ _ _ _ (asked_all (room xs) 12 [] first.0).0 (asked_all (room ys) 12 [] second.0).0 meet-fits join-fits,
      record {
        first = first.1;
        second = second.1;
        first_before = c.antichain_less_equal-first_before.ensures ∙ same_of (leq at_or_before) lower upper (reduced xs) (reduced ys) low up;
        second_before = c.antichain_less_equal-second_before.ensures ∙ same_of (leq at_or_before) upper lower (reduced ys) (reduced xs) up low;
        meet_is = is_also c.in_ok-meet.meet _ _ (same_of (meet at_or_before) lower upper (reduced xs) (reduced ys) low up) met.1;
        join_is = is_also c.in_ok-join.join _ _ (same_of (join at_or_before later) lower upper (reduced xs) (reduced ys) low up) joined.1;
      },
    )
