-- The law's promises, of the books alone.
use Rattle.std.specs.Prelude.{◌≡◌, ℕ, Bool, true, not, T, List, [], ◌++◌}
use Rattle.frontier.specs.Frontiers.{beyond, leq, equal}
use Rattle.capture.specs.Kinds.{Kinds}
use Rattle.capture.specs.Messages.{Change, Message, has}
use Rattle.capture.specs.Readers.{Reader, held, prompt, away, stands_at}
use Rattle.capture.specs.Runs.{In, At}
use Rattle.capture.specs.Law.{both_ways, one_each, change_accepted, Published, Shipped}
use Rattle.exchange.specs.Books.{Office, Books}

module _ {D A R : Type 0} where
  -- the message stands in the list
  abbrev pub Among : Message D A R → List (Message D A R) → Type 0
  Among m ms = ∥ In m ms ∥₁

  -- where the reader stands
  abbrev pub frontier_of : Office D A R → List A
  frontier_of o = stands_at o.reader

  -- the reader's frontier tells what it accepted: it is held, or prompt and settled
  abbrev pub tells : Reader D A R → Bool → Bool
  tells (held h) settled = true
  tells (prompt h) settled = settled
  tells (away h) settled = settled

  -- all the statements that the sender made: those that their post took, and those still queued
  abbrev pub all_stated : Books D A R → List (Message D A R)
  all_stated b = b.sent_statements ++ b.sender.queued_statements

module _ {D A R : Type 0} (k : Kinds D A R) where
  -- what a reader of this sort gave out is what was recorded
  abbrev pub Gave : List (Change D A R) → List (Change D A R) → Reader D A R → Type 0
  Gave recorded out (held h) = Published k recorded out h.reported
  Gave recorded out (prompt h) = Shipped k recorded out h.reported
  Gave recorded out (away h) = Shipped k recorded out h.reported

  -- the reader accepted all the sender's statements, and all recorded changes behind the sender's frontier
  abbrev pub CaughtUp : Books D A R → Office D A R → Type 0
  CaughtUp b o =
      ((m : Message D A R) → Among m (all_stated b) → Among m o.taken) ×
      ((c : Change D A R) → T (has k b.recorded c) → T (not (beyond k.time.below b.sender.frontier c.time)) → T (change_accepted k c o.taken))

  pub record Promises (b : Books D A R) : Type 0 where
    -- what each reader gave out is what was recorded
    pub given : (j : ℕ) (o : Office D A R) → At b.offices j o → Gave b.recorded o.given o.reader
    -- two readers of either sort that accepted the same messages, whatever the order and the repeats, stand at one frontier
    pub agree : (i j : ℕ) (x y : Office D A R) → At b.offices i x → At b.offices j y → T (tells x.reader x.settled) → T (tells y.reader y.settled) → ((m : Message D A R) → both_ways (Among m x.taken) (Among m y.taken)) → T (equal k.time.below (frontier_of x) (frontier_of y))
    -- no reader passes the sender
    pub behind_sender : (j : ℕ) (o : Office D A R) → At b.offices j o → T (leq k.time.below (frontier_of o) b.sender.frontier)
    -- once the queues are empty, a reader is level with the sender exactly when it is caught up
    pub level : (j : ℕ) (o : Office D A R) → At b.offices j o → T (tells o.reader o.settled) → b.sender.queued_changes ≡ [] → b.sender.queued_statements ≡ [] → both_ways (T (equal k.time.below (frontier_of o) b.sender.frontier)) (CaughtUp b o)

  -- the books keep the law: its promises hold, unless data was recorded twice at one time
  abbrev pub Kept : Books D A R → Type 0
  Kept b = T (one_each k b.recorded) → Promises b

  -- no reader's frontier is further back in the books b than it was in the books a
  abbrev pub Onward : Books D A R → Books D A R → Type 0
  Onward a b = T (one_each k b.recorded) → (j : ℕ) (x y : Office D A R) → At a.offices j x → At b.offices j y → T (leq k.time.below (frontier_of x) (frontier_of y))
