-- What an exchange holds, by what it reads as: its sender, what its posts took, what was recorded, and its readers.
use Rattle.std.specs.Prelude.{Bool, true, false, List, [], ◌++◌, map}
use Rattle.capture.specs.Kinds.{Kinds}
use Rattle.capture.specs.Messages.{Change, Message}
use Rattle.capture.specs.Held.{Held}
use Rattle.capture.specs.Prompt.{Prompt}
use Rattle.capture.specs.Readers.{Reader, held, prompt, fresh_reader}
use Rattle.capture.specs.Sender.{Sender, fresh_sender}

-- a reader with its records
pub record Office (D A R : Type 0) : Type 0 where
  pub reader : Reader D A R
  -- all that it published or shipped, in order
  pub given : List (Change D A R)
  -- all messages that it accepted, in order
  pub taken : List (Message D A R)
  -- it accepted no sift or note since its last accepted settle, or since the beginning
  pub settled : Bool

pub record Books (D A R : Type 0) : Type 0 where
  pub sender : Sender D A R
  -- whether the sender is finished
  pub finished : Bool
  -- the messages that each post took, in order
  pub sent_changes : List (Message D A R)
  pub sent_statements : List (Message D A R)
  -- all changes recorded, in order
  pub recorded : List (Change D A R)
  pub offices : List (Office D A R)

module _ {D A R : Type 0} where
  -- the messages that readers can be handed
  abbrev pub sent : Books D A R → List (Message D A R)
  sent b = b.sent_changes ++ b.sent_statements

  -- the office of a held reader, which is always settled
  abbrev pub held_office : Held D A R → List (Change D A R) → List (Message D A R) → Office D A R
  held_office h given taken = record { reader = held h; given = given; taken = taken; settled = true }

  -- the office of a prompt reader
  abbrev pub prompt_office : Prompt D A R → List (Change D A R) → List (Message D A R) → Bool → Office D A R
  prompt_office h given taken settled = record { reader = prompt h; given = given; taken = taken; settled = settled }

  -- the books with another sender
  abbrev pub with_sender : Books D A R → Sender D A R → Books D A R
  with_sender b s = record { sender = s; finished = b.finished; sent_changes = b.sent_changes; sent_statements = b.sent_statements; recorded = b.recorded; offices = b.offices }

  -- the books with other offices
  abbrev pub with_offices : Books D A R → List (Office D A R) → Books D A R
  with_offices b os = record { sender = b.sender; finished = b.finished; sent_changes = b.sent_changes; sent_statements = b.sent_statements; recorded = b.recorded; offices = os }

module _ {D A R : Type 0} (k : Kinds D A R) where
  -- the office of a fresh reader: held for yes, prompt for no
  abbrev pub fresh_office : Bool → Office D A R
  fresh_office sort = record { reader = fresh_reader k sort; given = []; taken = []; settled = true }

  -- the books of a new exchange with readers of these sorts
  abbrev pub fresh_books : List Bool → Books D A R
  fresh_books sorts = record { sender = fresh_sender k; finished = false; sent_changes = []; sent_statements = []; recorded = []; offices = map fresh_office sorts }
