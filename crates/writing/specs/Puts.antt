-- Text put behind what is written already.
use Rattle.std.specs.Prelude.{◌≡◌, ℕ, ◌+◌, ◌<◌, ◌≤◌, List, ◌∷◌, ◌++◌, length, take, Some, None, decimal, OnOk, OnErr, Option, Result}
use Rattle.std.specs.List.{flat_map}
use Rattle.lattice.specs.declared.product.Product.{Product}
use Rattle.timetable.specs.declared.week.Week.{Week}
use Rattle.timetable.specs.declared.lesson.Lesson.{Lesson}
use Rattle.timetable.specs.declared.amount.Amount.{Amount}
use Rattle.timetable.specs.Lessons.{lesson_value, amount_value}
use Rattle.capture.specs.Messages.{Statement}
use Rattle.capture.specs.Views.{change_of, count_of, statement_of, message_of}
use Rattle.capture.specs.declared.message.Message.{Message as View}
use Rattle.capture.specs.declared.message.Progress.{Progress as StatementView}
use Rattle.lines.specs.Format.{LessonChange, LessonMessage}
use Rattle.lines.specs.Values.{time_value}
use Rattle.writing.specs.Writing.{line_of, lettered_text, time_text, lettered_count}
use Rattle.writing.specs.declared.full.Full.{Full}
use Rattle.writing.specs.declared.line_writer.LineWriter.{LineWriter}

-- a tab and a number
abbrev pub number_text : ℕ → List ℕ
number_text n = 9 ∷ decimal n

-- a line of a letter and numbers
abbrev pub numbers_line : ℕ → List ℕ → List ℕ
numbers_line letter ns = line_of (letter ∷ flat_map number_text ns)

-- what a stored change reads as
abbrev pub change_value : Lesson × Product ℕ Week × Amount → LessonChange
change_value c = change_of lesson_value time_value amount_value c

-- what a stored count reads as
abbrev pub count_value : Product ℕ Week × ℕ → (ℕ × ℕ) × ℕ
count_value c = count_of time_value c

-- what a stored statement reads as
abbrev pub statement_value : StatementView (Product ℕ Week) → Statement (ℕ × ℕ)
statement_value s = statement_of time_value s

-- what a message of the code reads as
abbrev pub message_value : View Lesson (Product ℕ Week) Amount → LessonMessage
message_value m = message_of lesson_value time_value amount_value m

-- the line of a change, by a letter
abbrev pub lettered_line : ℕ → Lesson × Product ℕ Week × Amount → List ℕ
lettered_line letter c = line_of (lettered_text letter (change_value c))

-- the line of a change of a message
abbrev pub change_line : Lesson × Product ℕ Week × Amount → List ℕ
change_line c = lettered_line 85 c

-- the line of a time, by its letter
abbrev pub time_line : ℕ → Product ℕ Week → List ℕ
time_line letter t = line_of (time_text letter (time_value t))

-- the line of a count, by a letter
abbrev pub lettered_count_line : ℕ → Product ℕ Week × ℕ → List ℕ
lettered_count_line letter c = line_of (lettered_count letter (count_value c))

-- the line of a count of a statement
abbrev pub count_line : Product ℕ Week × ℕ → List ℕ
count_line c = lettered_count_line 67 c

-- what is written so far
abbrev pub written : LineWriter → List ℕ
written w = take w.len w.bytes.now

-- the text is written behind what was written before; where it does not fit, what was written before still stands first
pub record Puts (result : Result (Unit {0}) Full) (before after : LineWriter) (text : List ℕ) : Type 0 where
  pub same_bytes : after.bytes.ghost_name ≡ before.bytes.ghost_name
  pub same_room : length after.bytes.now ≡ length before.bytes.now
  pub put : OnOk result ((after.len ≡ before.len + length text) × (written after ≡ written before ++ text))
  pub refused : OnErr result (length before.bytes.now < before.len + length text)
  pub kept : OnErr result ((before.len ≤ after.len) × (take before.len after.bytes.now ≡ written before))

-- the text stands behind the first `at` bytes and ends at the place that is told; where it does not fit, these bytes are as before, and what follows them is free
abbrev pub PutsAt : Option ℕ → List ℕ → List ℕ → ℕ → List ℕ → Type 0
PutsAt None before after at text = (length after ≡ length before) × (length before < at + length text) × (take at after ≡ take at before)
PutsAt (Some end) before after at text = (length after ≡ length before) × (end ≤ length before) × (end ≡ at + length text) × (take end after ≡ take at before ++ text)
