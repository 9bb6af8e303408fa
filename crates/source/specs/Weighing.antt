-- What a message or a settle would make of a prompt reader, found out in scratch tables.
use Rattle.std.specs.Prelude.{ℕ, Bool, List, [], ◌∷◌, map, ℤ, Result}
use Rattle.questions.specs.declared.Refusal.{Refusal}
use Rattle.questions.specs.Answers.{Answered}
use Rattle.frontier.specs.Counts.{added_all, room, positives}
use Rattle.frontier.specs.Frontiers.{inserted_all, fits}
use Rattle.frontier.specs.Tables.{Holds, counted, frontier_size}
use Rattle.capture.specs.Kinds.{Kinds}
use Rattle.capture.specs.Messages.{Change, short_changes}
use Rattle.capture.specs.Prompt.{undisputed}
use Rattle.capture.specs.Sizes.{reader_counts}
use Rattle.progress.specs.Weighing.{fresh_asks, HoldsWeighed}
use Rattle.progress.specs.declared.weighing.Weighed.{Weighed}

module _ {D A R : Type 0} (k : Kinds D A R) where
  -- what sift asks of changes, once the tables are at least their sizes, by the heeded frontier, the pending changes and the waiting counts
  abbrev pub changes_asks : List A → List (Change D A R) → List (A × ℤ) → List (Change D A R) → List (Bool × ℕ)
  changes_asks heeded pending sums cs = (short_changes cs, 2) ∷ (undisputed k heeded pending cs, 8) ∷ fresh_asks k heeded pending sums cs

module _ {X Y D A R : Type 0} (k : Kinds D A R) (value : Y → A) (reads : X → Change D A R) where
  -- changes are weighed: the new ones, and the waiting counts then, stand first in the scratch tables
  unfoldable pub ChangesWeighed : Result Weighed Refusal → (cs : List X) (heeded : List Y) (pending : List X) (sums : List (Y × ℤ)) (new : List X) (scratch : List (Y × ℤ)) → Type 0
  ChangesWeighed r cs heeded pending sums new scratch =
      Answered r (changes_asks k (map value heeded) (map reads pending) (map (counted value) sums) (map reads cs))
      (λ w. HoldsWeighed k value reads w cs heeded pending sums new scratch)
      (Unit {0})

module _ {Y A : Type 0} (below : A → A → Bool) (value : Y → A) where
  -- what settle asks, once the tables are at least their sizes, by the progress frontier, the counts and the waiting counts
  abbrev pub sums_asks : List A → List (A × ℤ) → List (A × ℤ) → List (Bool × ℕ)
  sums_asks frontier counts sums = (room below reader_counts counts sums, 11) ∷ (fits below frontier_size frontier (positives (added_all below counts sums)), 12) ∷ []

  -- the waiting counts are brought in: the counts, and the lower edge then, stand first in the scratch tables, as many as the two numbers say
  unfoldable pub Brought : Result (ℕ × ℕ) Refusal → (frontier : List Y) (counts sums : List (Y × ℤ)) (scratch : List (Y × ℤ)) (edge : List Y) → Type 0
  Brought r frontier counts sums scratch edge =
      Answered r (sums_asks (map value frontier) (map (counted value) counts) (map (counted value) sums))
      (λ n. Holds (counted value) n.0 scratch (added_all below (map (counted value) counts) (map (counted value) sums)) × Holds value n.1 edge (inserted_all below (map value frontier) (positives (added_all below (map (counted value) counts) (map (counted value) sums)))))
      (Unit {0})
