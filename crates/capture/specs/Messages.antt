-- Changes, statements and messages, by what they read as.
use Rattle.std.specs.Prelude.{ℕ, Bool, false, cond, not, ◌&&◌, ◌||◌, List, [], ◌∷◌, ◌++◌, length, filter, nat_le}
use Rattle.lattice.specs.Orders.{at_once}
use Rattle.frontier.specs.Frontiers.{beyond}
use Rattle.capture.specs.Kinds.{Kinds}
use Rattle.capture.specs.Sizes.{message_changes, statement_times, statement_counts}

-- what changed, when, and by how much
pub record Change (D A R : Type 0) : Type 0 where
  pub what : D
  pub time : A
  pub amount : R

-- counts, by time, all distinct changes that are beyond lower and behind upper; a time that is not listed has none
pub record Statement (A : Type 0) : Type 0 where
  pub lower : List A
  pub upper : List A
  pub counts : List (A × ℕ)

-- a message has changes, or makes a statement
pub data Message (D A R : Type 0) : Type 0 where
  changes : List (Change D A R) → Message D A R
  statement : Statement A → Message D A R

-- the changes are not too many for a message
abbrev pub short_changes : {D A R : Type 0} → List (Change D A R) → Bool
short_changes cs = nat_le (length cs) message_changes

-- none of the statement's lists is too long
abbrev pub short_statement : {A : Type 0} → Statement A → Bool
short_statement s = nat_le (length s.lower) statement_times && (nat_le (length s.upper) statement_times && nat_le (length s.counts) statement_counts)

-- the message is not too long, as question 2 asks
abbrev pub short : {D A R : Type 0} → Message D A R → Bool
short (changes cs) = short_changes cs
short (statement s) = short_statement s

module _ {D A R : Type 0} (k : Kinds D A R) where
  -- the two changes have the same data and the same time
  abbrev pub coincide : Change D A R → Change D A R → Bool
  coincide x y = k.same_data x.what y.what && at_once k.time.below x.time y.time

  -- the two changes are the same
  abbrev pub alike : Change D A R → Change D A R → Bool
  alike x y = coincide x y && k.same_amount x.amount y.amount

  -- the change stands in the list
  abbrev pub has : List (Change D A R) → Change D A R → Bool
  has [] c = false
  has (e ∷ es) c = alike e c || has es c

  -- the changes that are new to a reader: beyond its frontier f, and the same as none that it keeps, nor as an earlier one
  abbrev pub fresh : List A → List (Change D A R) → List (Change D A R) → List (Change D A R)
  fresh f kept [] = []
  fresh f kept (c ∷ cs) = cond (beyond k.time.below f c.time && not (has kept c)) (c ∷ fresh f (kept ++ c ∷ []) cs) (fresh f kept cs)

module _ {D A R : Type 0} (below : A → A → Bool) where
  -- the changes behind the frontier, in their order
  abbrev pub those_behind : List A → List (Change D A R) → List (Change D A R)
  those_behind f cs = filter (λ c. not (beyond below f c.time)) cs

  -- the changes beyond the frontier, in their order
  abbrev pub those_beyond : List A → List (Change D A R) → List (Change D A R)
  those_beyond f cs = filter (λ c. beyond below f c.time) cs
