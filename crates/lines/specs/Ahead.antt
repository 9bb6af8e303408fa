-- What is ahead of a reader of lines.
use Rattle.std.specs.Prelude.{◌≡◌, ℕ, ◌<◌, List, map, length, drop, Err, Result}
use Rattle.lattice.specs.declared.product.Product.{Product}
use Rattle.timetable.specs.declared.week.Week.{Week}
use Rattle.timetable.specs.declared.lesson.Lesson.{Lesson}
use Rattle.timetable.specs.declared.amount.Amount.{Amount}
use Rattle.timetable.specs.Lessons.{lesson_value, amount_value}
use Rattle.capture.specs.Views.{change_of}
use Rattle.capture.specs.Rows.{row}
use Rattle.capture.specs.declared.row.Row.{Row}
use Rattle.lines.specs.Format.{LessonChange, LessonMessage, Draft, Next, outside, goes_on, completes, stops, step, closes, with_message, says_from}
use Rattle.lines.specs.Said.{line_value}
use Rattle.lines.specs.Values.{time_value}
use Rattle.lines.specs.declared.line.Line.{Line}
use Rattle.lines.specs.declared.line_reader.LineReader.{LineReader}

-- the bytes behind the lines that were handed out
abbrev pub left : LineReader → List ℕ
left r = drop r.at r.bytes.now

-- what they say, where the lines before lead to d
abbrev pub ahead : Draft → LineReader → Result (List LessonMessage) ℕ
ahead d r = says_from d r.count (left r)

-- what a row of changes reads as
abbrev pub changes_in : Row (Lesson × Product ℕ Week × Amount) 64 → List LessonChange
changes_in r = map (change_of lesson_value time_value amount_value) (row r)

-- what the lines say, where the last one came to this
abbrev pub follows : Next → LineReader → Result (List LessonMessage) ℕ
follows stops r = Err r.count
follows (goes_on d) r = ahead d r
follows (completes m) r = with_message m (ahead outside r)

-- one line more can be counted
abbrev pub CountsOn : LineReader → Type 0
CountsOn r = r.count < r.at

-- a line that says x was handed out
pub record HandsOut (x : Line) (before after : LineReader) : Type 0 where
  pub said : (d : Draft) → ahead d before ≡ follows (step d (line_value x)) after
  pub on : length (left after) < length (left before)
  pub few : CountsOn after

-- there was no line left
pub record NoneLeft (before after : LineReader) : Type 0 where
  pub same : after ≡ before
  pub said : (d : Draft) → ahead d before ≡ closes d before.count (left before)
