-- Two lists of times, compared as frontiers.
use Rattle.std.specs.Prelude.{◌≡◌, ℕ, Bool, List, [], ◌∷◌, ◌++◌}
use Rattle.frontier.specs.Frontiers.{leq, fits, inserted_all, pairwise, join, meet}
use Rattle.frontier.specs.Tables.{Holds, frontier_size}
use Rattle.frontiers.specs.declared.frontier_table.FrontierTable.{FrontierTable}
use Rattle.frontiers.specs.declared.comparing.Comparison.{Comparison}
use Rattle.lines.specs.Values.{time_value}
use Rattle.frontiers.specs.Times.{at_or_before, later}

-- the frontier that a list reduces to
abbrev pub reduced : List (ℕ × ℕ) → List (ℕ × ℕ)
reduced ts = inserted_all at_or_before [] ts

-- the frontier that a table holds is this list
abbrev pub Is : FrontierTable → List (ℕ × ℕ) → Type 0
Is f ts = Holds time_value f.len f.times ts

-- what a comparison asks: that each frontier on the way has at most 32 times
abbrev pub compare_asks : List (ℕ × ℕ) → List (ℕ × ℕ) → List (Bool × ℕ)
compare_asks xs ys =
    (fits at_or_before frontier_size [] xs, 12)
    ∷ (fits at_or_before frontier_size [] ys, 12)
    ∷ (fits at_or_before frontier_size [] (reduced xs ++ reduced ys), 12)
    ∷ (fits at_or_before frontier_size [] (pairwise later (reduced xs) (reduced ys)), 12)
    ∷ []

-- what a comparison of two lists tells
pub record Compared (c : Comparison) (xs ys : List (ℕ × ℕ)) : Type 0 where
  pub first : Is c.first (reduced xs)
  pub second : Is c.second (reduced ys)
  pub first_before : c.first_before ≡ leq at_or_before (reduced xs) (reduced ys)
  pub second_before : c.second_before ≡ leq at_or_before (reduced ys) (reduced xs)
  pub meet_is : Is c.meet (meet at_or_before (reduced xs) (reduced ys))
  pub join_is : Is c.join (join at_or_before later (reduced xs) (reduced ys))
