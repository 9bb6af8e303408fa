-- Bytes that are a well formed file.
use Rattle.std.specs.Prelude.{ℕ, Bool, true, false, List, [], Ok, Err, Result}
use Rattle.lines.specs.Format.{LessonMessage, file_says}

-- the messages that are said, and none where a line is malformed
abbrev pub messages_of : Result (List LessonMessage) ℕ → List LessonMessage
messages_of (Ok ms) = ms
messages_of (Err n) = []

-- the messages that a file says
abbrev pub messages_in : List ℕ → List LessonMessage
messages_in bytes = messages_of (file_says bytes)

-- messages are said, and no line is malformed
abbrev pub says_so : Result (List LessonMessage) ℕ → Bool
says_so (Ok ms) = true
says_so (Err n) = false

-- every line of the file is well formed
abbrev pub well_formed : List ℕ → Bool
well_formed bytes = says_so (file_says bytes)
