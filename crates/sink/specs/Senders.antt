-- What a sender's numbers and tables read as, and what its calls come to.
use Rattle.std.specs.Prelude.{◌≡◌, ℕ, Bool, ◌&&◌, List, [], ℤ, Some, None, Ok, Err, Result, nat_le}
use Rattle.questions.specs.declared.Refusal.{Refusal}
use Rattle.questions.specs.Questions.{number_of, first_no}
use Rattle.questions.specs.Answers.{Answered}
use Rattle.frontier.specs.Tables.{in_use, counted, frontier_size}
use Rattle.capture.specs.Kinds.{Kinds}
use Rattle.capture.specs.Sizes.{reader_counts, statement_counts, queue_messages}
use Rattle.capture.specs.Messages.{Change}
use Rattle.capture.specs.Sender.{Sender, record_asks, record_changes, close_asks, close, finish_asks, finish}
use Rattle.capture.specs.declared.stored.StoredMessage.{StoredMessage}
use Rattle.capture.specs.Stored.{queued}
use Rattle.sink.specs.Tables.{lent_tables}
use Rattle.sink.specs.declared.sender.OpenSender.{OpenSender}
use Rattle.sink.specs.declared.sender.FinishedSender.{FinishedSender}

module _ {X D Y A Z R : Type 0} (data_value : X → D) (time_value : Y → A) (amount_value : Z → R) where
  -- the sender that these tables hold: frontier, counts, queue of changes, queue of statements
  abbrev pub sender_of : OpenSender → List Y → List (Y × ℤ) → List (StoredMessage X Y Z) → List (StoredMessage X Y Z) → Sender D A R
  sender_of s frontier counts updates progress =
      record { frontier = in_use time_value s.frontier frontier; counts = in_use (counted time_value) s.counts counts; queued_changes = queued data_value time_value amount_value s.updates.len updates; queued_statements = queued data_value time_value amount_value s.progress.len progress }

  -- the finished sender that these queues hold: its frontier is empty, and nothing is left to announce
  abbrev pub finished_of : FinishedSender → List (StoredMessage X Y Z) → List (StoredMessage X Y Z) → Sender D A R
  finished_of s updates progress = record { frontier = []; counts = []; queued_changes = queued data_value time_value amount_value s.updates.len updates; queued_statements = queued data_value time_value amount_value s.progress.len progress }

-- whether the tables of a new sender have their sizes: frontier, counts, queue of changes, queue of statements
abbrev pub open_tables : ℕ → ℕ → ℕ → ℕ → Bool
open_tables frontier counts updates progress = lent_tables frontier counts updates && nat_le queue_messages progress

-- whether the tables of a record have their sizes: frontier, counts, queue of changes, scratch counts
abbrev pub record_tables : ℕ → ℕ → ℕ → ℕ → Bool
record_tables frontier counts queue scratch = lent_tables frontier counts queue && nat_le reader_counts scratch

-- whether the tables of a finish have their sizes: frontier, counts, queue of statements, scratch for the announced counts
abbrev pub finish_tables : ℕ → ℕ → ℕ → ℕ → Bool
finish_tables frontier counts queue announced = lent_tables frontier counts queue && nat_le statement_counts announced

-- whether the tables of a close have their sizes: frontier, counts, queue of statements, scratch frontier, scratch for the announced counts
abbrev pub close_tables : ℕ → ℕ → ℕ → ℕ → ℕ → Bool
close_tables frontier counts queue upper announced = lent_tables frontier counts queue && (nat_le frontier_size upper && nat_le statement_counts announced)

-- `Table` is what a call is not handed: of a record the queue of statements, of a close or a finish the queue of changes.
-- Whatever it holds, the call answers and leaves what the meaning lays down, of the state before to the state after
module _ {D A R Table : Type 0} (k : Kinds D A R) (tables : Bool) (before : Table → Sender D A R) where
  -- a record of these changes
  abbrev pub Recorded : {U : Type 0} → Result U Refusal → List (Change D A R) → (Table → Sender D A R) → Type 0 → Type 0
  Recorded r cs after untouched = (t : Table) → Answered r (record_asks k tables cs (before t)) (λ _. after t ≡ (record_changes k tables cs (before t)).1) untouched

  -- a close to this list
  abbrev pub Closed : {U : Type 0} → Result U Refusal → List A → (Table → Sender D A R) → Type 0 → Type 0
  Closed r l after untouched = (t : Table) → Answered r (close_asks k tables l (before t)) (λ _. after t ≡ (close k tables l (before t)).1) untouched

  -- a finish, which hands the open sender back where it is refused
  abbrev pub Finished : {F O : Type 0} → Result F (O × Refusal) → (F → Table → Sender D A R) → (O → Type 0) → Type 0
  Finished (Ok f) after untouched = (t : Table) → (first_no (finish_asks k tables (before t)) ≡ None) × (after f t ≡ (finish k tables (before t)).1)
  Finished (Err e) after untouched = (t : Table) → (first_no (finish_asks k tables (before t)) ≡ Some (number_of e.1)) × untouched e.0
