-- The sender, which records changes and states how many there are.
use Rattle.std.specs.Prelude.{ℕ, Bool, true, false, cond, not, ◌&&◌, List, [], ◌∷◌, ◌++◌, map, length, ℤ, pos, negsuc, filter, nat_le, nat_lt}
use Rattle.std.specs.List.{list_all}
use Rattle.lattice.specs.Orders.{at_once}
use Rattle.frontier.specs.Frontiers.{beyond, leq, fits, inserted_all}
use Rattle.frontier.specs.Counts.{added_all, room}
use Rattle.frontier.specs.Tables.{frontier_size}
use Rattle.capture.specs.Kinds.{Kinds}
use Rattle.capture.specs.Sizes.{largest_count, sender_counts, queue_messages}
use Rattle.capture.specs.Messages.{Change, Statement, Message, changes, statement, short_changes}
use Rattle.capture.specs.Answers.{Answer, answer}
use Rattle.capture.specs.Statements.{small}

-- a sender between calls
pub record Sender (D A R : Type 0) : Type 0 where
  -- the frontier that it closed last: no change behind it can be recorded any more
  pub frontier : List A
  -- how many changes were recorded at each time beyond the frontier
  pub counts : List (A × ℤ)
  -- the messages of changes that their post has not taken, in order
  pub queued_changes : List (Message D A R)
  -- the statements that their post has not taken, in order
  pub queued_statements : List (Message D A R)

-- a count as it is announced: a negative one as 0
abbrev pub told : ℤ → ℕ
told (pos n) = n
told (negsuc n) = 0

-- one change more at its time
abbrev pub raised : {D A R : Type 0} → List (Change D A R) → List (A × ℤ)
raised cs = map (λ c. (c.time, pos 1)) cs

-- the list has a time
abbrev pub some : {A : Type 0} → List A → Bool
some [] = false
some (x ∷ xs) = true

module _ {A : Type 0} (below : A → A → Bool) where
  -- the count of a time, 0 where it has no entry
  abbrev pub count_at : List (A × ℤ) → A → ℤ
  count_at [] x = pos 0
  count_at (e ∷ es) x = cond (at_once below e.0 x) e.1 (count_at es x)

  -- the counts that a statement with the upper list f announces: those behind it, in stored order
  abbrev pub announced : List A → List (A × ℤ) → List (A × ℕ)
  announced f cs = map (λ c. (c.0, told c.1)) (filter (λ c. not (beyond below f c.0)) cs)

  -- the counts that stay with the sender: those beyond f
  abbrev pub retained : List A → List (A × ℤ) → List (A × ℤ)
  retained f cs = filter (λ c. beyond below f c.0) cs

module _ {D A R : Type 0} (k : Kinds D A R) where
  -- the counts with the changes counted
  abbrev pub counts_with : List (Change D A R) → Sender D A R → List (A × ℤ)
  counts_with cs s = added_all k.time.below s.counts (raised cs)

  -- what a record asks, in order; 5 asks the resulting count of each recorded time
  abbrev pub record_asks : Bool → List (Change D A R) → Sender D A R → List (Bool × ℕ)
  record_asks tables cs s =
      (tables, 1) ∷ (short_changes cs, 2) ∷ (list_all (λ c. beyond k.time.below s.frontier c.time) cs, 3) ∷
      (list_all (λ c. nat_le (told (count_at k.time.below (counts_with cs s) c.time)) largest_count) cs, 5) ∷
      (room k.time.below sender_counts s.counts (raised cs), 11) ∷ (nat_lt (length s.queued_changes) queue_messages, 13) ∷ []

  -- a record queues a message of changes, and counts their times
  abbrev pub record_changes : Bool → List (Change D A R) → Sender D A R → Answer (Unit {0}) × Sender D A R
  record_changes tables cs s =
      answer (record_asks tables cs s) s
      (tt, record { frontier = s.frontier; counts = counts_with cs s; queued_changes = s.queued_changes ++ changes cs ∷ []; queued_statements = s.queued_statements })

  -- the statement that leads from the sender's frontier to f
  abbrev pub stating : List A → Sender D A R → Statement A
  stating f s = record { lower = s.frontier; upper = f; counts = announced k.time.below f s.counts }

  -- the sender moved on to the frontier f, with the statement that says so queued
  abbrev pub moved : List A → Sender D A R → Sender D A R
  moved f s = record { frontier = f; counts = retained k.time.below f s.counts; queued_changes = s.queued_changes; queued_statements = s.queued_statements ++ statement (stating f s) ∷ [] }

  -- the list of a close, reduced to a frontier
  abbrev pub reduced : List A → List A
  reduced l = inserted_all k.time.below [] l

  -- what a close asks, in order; 4 compares by ≤ both ways, and 5 asks the counts to be announced
  abbrev pub close_asks : Bool → List A → Sender D A R → List (Bool × ℕ)
  close_asks tables l s =
      (tables, 1) ∷ (some l && (leq k.time.below s.frontier l && not (leq k.time.below l s.frontier)), 4) ∷
      (small (stating (reduced l) s).counts, 5) ∷ (fits k.time.below frontier_size [] l, 12) ∷ (nat_lt (length s.queued_statements) queue_messages, 13) ∷ []

  -- a close moves the sender on to the list, reduced to a frontier
  abbrev pub close : Bool → List A → Sender D A R → Answer (Unit {0}) × Sender D A R
  close tables l s = answer (close_asks tables l s) s (tt, moved (reduced l) s)

  -- what a finish asks, in order
  abbrev pub finish_asks : Bool → Sender D A R → List (Bool × ℕ)
  finish_asks tables s = (tables, 1) ∷ (small (stating [] s).counts, 5) ∷ (nat_lt (length s.queued_statements) queue_messages, 13) ∷ []

  -- a finish moves the sender on to the empty frontier
  abbrev pub finish : Bool → Sender D A R → Answer (Unit {0}) × Sender D A R
  finish tables s = answer (finish_asks tables s) s (tt, moved [] s)

  -- a sender that recorded nothing yet
  abbrev pub fresh_sender : Sender D A R
  fresh_sender = record { frontier = k.time.start ∷ []; counts = []; queued_changes = []; queued_statements = [] }
