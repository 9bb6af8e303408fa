-- A block with the message that was read last.
use Rattle.std.specs.Prelude.{◌≡◌, ◌<◌, Bool, true, false, [], length, take, Ok}
use Rattle.timetable.specs.Lessons.{lesson_value, amount_value}
use Rattle.capture.specs.Messages.{changes, statement, short}
use Rattle.capture.specs.Sizes.{message_changes, statement_times, statement_counts}
use Rattle.capture.specs.Stored.{stored_message}
use Rattle.lines.specs.Format.{LessonMessage, Draft, outside, with_message}
use Rattle.lines.specs.Ahead.{left, ahead}
use Rattle.lines.specs.Values.{time_value}
use Rattle.lines.specs.declared.line_reader.LineReader.{LineReader}
use Rattle.lines.specs.declared.block.MessageBlock.{MessageBlock}

-- the message that a block has
abbrev pub block_message : MessageBlock → LessonMessage
block_message b = stored_message lesson_value time_value amount_value b.message

-- whether the message that was read had a place in it as a whole
abbrev pub block_whole : MessageBlock → Bool
block_whole b = b.whole

-- the first of each list of a message, as many as it may have
abbrev pub front_of : LessonMessage → LessonMessage
front_of (changes cs) = changes (take message_changes cs)
front_of (statement s) = statement (record { lower = take statement_times s.lower; upper = take statement_times s.upper; counts = take statement_counts s.counts })

-- the message m was read, from where the lines before lead to d: its front is kept, and it is told whether m is not too long, so that this is all of it
pub record ReadOn (d : Draft) (before after : LineReader) (front : LessonMessage) (all : Bool) (m : LessonMessage) : Type 0 where
  pub said : ahead d before ≡ with_message m (ahead outside after)
  pub kept : front ≡ front_of m
  pub whole : all ≡ short m
  pub on : length (left after) < length (left before)

-- the block keeps it, and tells that
abbrev pub Reads : Draft → LineReader → LineReader → MessageBlock → LessonMessage → Type 0
Reads d before after b m = ReadOn d before after (block_message b) (block_whole b) m

-- a message was read, or there was none left
abbrev pub Got : Bool → LineReader → LineReader → MessageBlock → Type 0
Got true before after b = (m : LessonMessage) × Reads outside before after b m
Got false before after b = ahead outside before ≡ Ok []
