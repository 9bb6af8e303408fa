-- What messages in stored form read as.
use Rattle.std.specs.Prelude.{ℕ, List, map}
use Rattle.frontier.specs.Tables.{in_use}
use Rattle.capture.specs.Messages.{Statement, Message, changes, statement}
use Rattle.capture.specs.Views.{count_of, change_of}
use Rattle.capture.specs.Rows.{row}
use Rattle.capture.specs.declared.stored.StoredProgress.{StoredProgress}
use Rattle.capture.specs.declared.stored.StoredMessage.{StoredMessage}
use Rattle.capture.specs.declared.stored.Sort.TheVariants.{Updates, Progress}

-- what a stored statement reads as
abbrev pub stored_statement : {Y A : Type 0} → (Y → A) → StoredProgress Y → Statement A
stored_statement value s = record { lower = map value (row s.lower); upper = map value (row s.upper); counts = map (count_of value) (row s.counts) }

-- what a stored message reads as
abbrev pub stored_message : {X D Y A Z R : Type 0} → (X → D) → (Y → A) → (Z → R) → StoredMessage X Y Z → Message D A R
stored_message data_value time_value amount_value m =
    elim m.sort [ Updates ↦ changes (map (change_of data_value time_value amount_value) (row m.updates)) | Progress ↦ statement (stored_statement time_value m.progress) ]

-- the messages that the first n entries of a table read as
abbrev pub queued : {X D Y A Z R : Type 0} → (X → D) → (Y → A) → (Z → R) → ℕ → List (StoredMessage X Y Z) → List (Message D A R)
queued data_value time_value amount_value n table = in_use (stored_message data_value time_value amount_value) n table
