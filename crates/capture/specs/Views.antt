-- What the code's messages read as, by what their data, times and amounts read as.
use Rattle.std.specs.Prelude.{ℕ, map}
use Rattle.capture.specs.Messages.{Change, Statement, Message, changes, statement}
use Rattle.capture.specs.declared.message.Message.{Message as View}
use Rattle.capture.specs.declared.message.Message.TheVariants.{Updates, Progress}
use Rattle.capture.specs.declared.message.Progress.{Progress as StatementView}

-- what a count reads as
abbrev pub count_of : {Y A : Type 0} → (Y → A) → Y × ℕ → A × ℕ
count_of value c = (value c.0, c.1)

-- what a statement reads as
abbrev pub statement_of : {Y A : Type 0} → (Y → A) → StatementView Y → Statement A
statement_of value s = record { lower = map value s.lower.now; upper = map value s.upper.now; counts = map (count_of value) s.counts.now }

module _ {X D Y A Z R : Type 0} (data_value : X → D) (time_value : Y → A) (amount_value : Z → R) where
  -- what a change reads as
  abbrev pub change_of : X × Y × Z → Change D A R
  change_of c = record { what = data_value c.0; time = time_value c.1; amount = amount_value c.2 }

  -- what a message reads as
  abbrev pub message_of : View X Y Z → Message D A R
  message_of (Updates cs) = changes (map change_of cs.now)
  message_of (Progress s) = statement (statement_of time_value s)
