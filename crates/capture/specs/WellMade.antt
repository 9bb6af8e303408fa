-- What the messages of a run's sender are: whatever was recorded and closed, none of them is refused for what it holds.
use Rattle.std.specs.Prelude.{T, List, ◌++◌}
use Rattle.capture.specs.Kinds.{Kinds}
use Rattle.capture.specs.Messages.{Message, changes, statement, short_changes, short_statement}
use Rattle.capture.specs.Statements.{small, inside, counted_once}
use Rattle.capture.specs.Posts.{Post}
use Rattle.capture.specs.Runs.{Call, World, In, Run}
use Rattle.capture.specs.Law.{all_stated}

-- the message passes, at every reader, the questions that are asked of it alone: 2, and of a statement 5, 6 and 7 too
abbrev pub WellMade : {D A R : Type 0} → Kinds D A R → Message D A R → Type 0
WellMade k (changes cs) = T (short_changes cs)
WellMade k (statement s) = T (short_statement s) × T (small s.counts) × T (inside k.time.below s.lower s.upper s.counts) × T (counted_once k.time.below s.counts)

module _ {D A R P Q : Type 0} (k : Kinds D A R) (p : Post D A R P) (q : Post D A R Q) where
  -- all the messages that the sender made, of changes and of statements: those that their posts took, and those still queued
  abbrev pub all_made : World D A R P Q → List (Message D A R)
  all_made w = (p.taken w.changes_post ++ w.sender.queued_changes) ++ all_stated k p q w

  -- after every run, also where data is recorded twice at one time, every message that the sender made is well made
  abbrev pub MessagesWellMade : Type 0
  MessagesWellMade = (ks : List (Call D A R)) (w : World D A R P Q) → Run k p q ks w → (m : Message D A R) → In m (all_made w) → WellMade k m
