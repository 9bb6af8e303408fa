-- The line format: what a file says, line by line.
use Rattle.std.specs.Prelude.{ℕ, ◌+◌, Bool, true, false, cond, List, [], ◌∷◌, ◌++◌, ℤ, Some, None, Ok, Err, Result}
use Rattle.capture.specs.Messages.{Change, Statement, Message, changes, statement}
use Rattle.lines.specs.Cuts.{split_from}
use Rattle.lines.specs.Said.{Said, opens_changes, opens_statement, a_change, a_lower, an_upper, a_count, ends, line_says}
use Rattle.lines.specs.declared.part.Part.{Part}
use Rattle.lines.specs.declared.part.Part.TheVariants.{Lower, Upper, Counts}

-- a change of a lesson at a round and week
abbrev pub LessonChange : Type 0
LessonChange = Change (ℕ × ℕ × ℕ) (ℕ × ℕ) ℤ

-- a message about lessons
abbrev pub LessonMessage : Type 0
LessonMessage = Message (ℕ × ℕ × ℕ) (ℕ × ℕ) ℤ

-- where the lines so far lead: outside of any message, into changes, or into a part of a statement, with what was read of it
pub data Draft : Type 0 where
  outside : Draft
  in_changes : List LessonChange → Draft
  in_statement : Part → Statement (ℕ × ℕ) → Draft

-- what a line comes to: the message goes on or is complete, or the line is out of its place
pub data Next : Type 0 where
  goes_on : Draft → Next
  completes : LessonMessage → Next
  stops : Next

-- the statement with nothing in its lists
abbrev pub no_statement : Statement (ℕ × ℕ)
no_statement = record { lower = []; upper = []; counts = [] }

-- an L line may come
abbrev pub until_lower : Part → Bool
until_lower Lower = true
until_lower Upper = false
until_lower Counts = false

-- an H line may come
abbrev pub until_upper : Part → Bool
until_upper Lower = true
until_upper Upper = true
until_upper Counts = false

-- a line outside of any message opens one
abbrev pub opened : Said → Next
opened opens_changes = goes_on (in_changes [])
opened opens_statement = goes_on (in_statement Lower no_statement)
opened (a_change c) = stops
opened (a_lower t) = stops
opened (an_upper t) = stops
opened (a_count c) = stops
opened ends = stops

-- a line among changes has one more, or ends them
abbrev pub more_changes : List LessonChange → Said → Next
more_changes cs opens_changes = stops
more_changes cs opens_statement = stops
more_changes cs (a_change c) = goes_on (in_changes (cs ++ c ∷ []))
more_changes cs (a_lower t) = stops
more_changes cs (an_upper t) = stops
more_changes cs (a_count c) = stops
more_changes cs ends = completes (changes cs)

-- a line in a statement has a time or a count more, L before H before C, or ends it
abbrev pub more_statement : Part → Statement (ℕ × ℕ) → Said → Next
more_statement p s opens_changes = stops
more_statement p s opens_statement = stops
more_statement p s (a_change c) = stops
more_statement p s (a_lower t) = cond (until_lower p) (goes_on (in_statement Lower (record { lower = s.lower ++ t ∷ []; upper = s.upper; counts = s.counts }))) stops
more_statement p s (an_upper t) = cond (until_upper p) (goes_on (in_statement Upper (record { lower = s.lower; upper = s.upper ++ t ∷ []; counts = s.counts }))) stops
more_statement p s (a_count c) = goes_on (in_statement Counts (record { lower = s.lower; upper = s.upper; counts = s.counts ++ c ∷ [] }))
more_statement p s ends = completes (statement s)

-- what a line comes to where the lines before it lead
abbrev pub step : Draft → Said → Next
step outside x = opened x
step (in_changes cs) x = more_changes cs x
step (in_statement p s) x = more_statement p s x

-- a message before those that follow it, if the lines that follow are well formed
abbrev pub with_message : LessonMessage → Result (List LessonMessage) ℕ → Result (List LessonMessage) ℕ
with_message m (Ok ms) = Ok (m ∷ ms)
with_message m (Err n) = Err n

-- after the last line, the n-th: no message may be open, and no byte may follow
abbrev pub closes : Draft → ℕ → List ℕ → Result (List LessonMessage) ℕ
closes outside n [] = Ok []
closes outside n (b ∷ bs) = Err (n + 1)
closes (in_changes cs) n bs = Err (n + 1)
closes (in_statement p s) n bs = Err (n + 1)

-- the messages that lines complete, after n lines before them, or the number of the first malformed line
abbrev pub reads : Draft → ℕ → List (List ℕ) → List ℕ → Result (List LessonMessage) ℕ
reads d n [] unended = closes d n unended
reads d n (l ∷ ls) unended =
    elim (line_says l) [
      | None ↦ Err (n + 1)
      | Some x ↦ elim (step d x) [ stops ↦ Err (n + 1) | goes_on e ↦ reads e (n + 1) ls unended | completes m ↦ with_message m (reads outside (n + 1) ls unended) ]
    ]

-- what is left of a file says, after n lines that lead to d
abbrev pub says_from : Draft → ℕ → List ℕ → Result (List LessonMessage) ℕ
says_from d n bytes = reads d n (split_from [] bytes).0 (split_from [] bytes).1

-- what a file says: its messages in order, or the number of the first malformed line
abbrev pub file_says : List ℕ → Result (List LessonMessage) ℕ
file_says bytes = says_from outside 0 bytes
