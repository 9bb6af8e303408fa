-- What a message's changes would make of a reader, found out in scratch tables.
use Rattle.std.specs.Prelude.{ℕ, ◌≤◌, Bool, List, [], ◌∷◌, ◌++◌, map, length, ℤ, Result, nat_le}
use Rattle.questions.specs.declared.Refusal.{Refusal}
use Rattle.questions.specs.Answers.{Answered}
use Rattle.frontier.specs.Counts.{added_all, room}
use Rattle.frontier.specs.Tables.{Holds, counted}
use Rattle.capture.specs.Kinds.{Kinds}
use Rattle.capture.specs.Messages.{Change, fresh}
use Rattle.capture.specs.Sizes.{reader_changes, reader_counts}
use Rattle.capture.specs.Statements.{lowered}
use Rattle.progress.specs.declared.weighing.Weighed.{Weighed}

module _ {D A R : Type 0} (k : Kinds D A R) (frontier : List A) (kept : List (Change D A R)) (counts : List (A × ℤ)) (cs : List (Change D A R)) where
  -- what is asked once it is known which changes are new: that these fit among those that the reader keeps, and that the counts that they lower fit
  abbrev pub fresh_asks : List (Bool × ℕ)
  fresh_asks =
      (nat_le (length (kept ++ fresh k frontier kept cs)) reader_changes, 9) ∷
      (room k.time.below reader_counts counts (lowered (fresh k frontier kept cs)), 11) ∷ []

  -- the counts that the new changes leave
  abbrev pub counts_left : List (A × ℤ)
  counts_left = added_all k.time.below counts (lowered (fresh k frontier kept cs))

module _ {X Y D A R : Type 0} (k : Kinds D A R) (value : Y → A) (reads : X → Change D A R) where
  -- changes are weighed: the new ones, and the counts that they leave, stand first in the scratch tables, as many as the two numbers say and their sizes allow
  abbrev pub HoldsWeighed : Weighed → (cs : List X) (frontier : List Y) (kept : List X) (counts : List (Y × ℤ)) (new : List X) (sums : List (Y × ℤ)) → Type 0
  HoldsWeighed w cs frontier kept counts new sums =
      Holds reads w.new new (fresh k (map value frontier) (map reads kept) (map reads cs))
      × Holds (counted value) w.counts sums (counts_left k (map value frontier) (map reads kept) (map (counted value) counts) (map reads cs))
      × (w.new ≤ length cs) × (w.counts ≤ reader_counts)

  -- what the weighing of changes answers, by the reader's frontier, the changes that it keeps and its counts
  abbrev pub FreshWeighed : Result Weighed Refusal → (cs : List X) (frontier : List Y) (kept : List X) (counts : List (Y × ℤ)) (new : List X) (sums : List (Y × ℤ)) → Type 0
  FreshWeighed r cs frontier kept counts new sums =
      Answered r (fresh_asks k (map value frontier) (map reads kept) (map (counted value) counts) (map reads cs))
      (λ w. HoldsWeighed w cs frontier kept counts new sums) (Unit {0})
