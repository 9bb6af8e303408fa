-- Replay: what a file's messages make of a fresh held reader, as a listing.
use Rattle.std.specs.Prelude.{ℕ, ◌+◌, ◌*◌, min, true, cond, List, [], ◌∷◌, ◌++◌, length, drop, ℤ, pos, neg_ℤ, Some, None, Ok, Err, Option, Result, nat_le}
use Rattle.std.specs.List.{flat_map}
use Rattle.capture.specs.Answers.{Answer, refused, accepted}
use Rattle.capture.specs.Held.{feed, fresh_held}
use Rattle.lines.specs.Format.{LessonChange, LessonMessage, file_says}
use Rattle.writing.specs.Writing.{line_of, time_text, lettered_text}
use Rattle.writing.specs.Puts.{numbers_line}
use Rattle.listing.specs.Lessons.{lesson_kinds, LessonReader}

-- an interval: the changes that were published, and the frontier that was reported
abbrev pub Interval : Type 0
Interval = List LessonChange × List (ℕ × ℕ)

-- I with both lengths, P for each change, and F for each time of the frontier
abbrev pub interval_text : Interval → List ℕ
interval_text i = numbers_line 73 (length i.0 ∷ length i.1 ∷ []) ++ (flat_map (λ c. line_of (lettered_text 80 c)) i.0 ++ flat_map (λ t. line_of (time_text 70 t)) i.1)

-- what is listed of feed's answer: N with the number of a refusal, nothing where the frontier stood still
abbrev pub answer_text : Answer (Option Interval) → List ℕ
answer_text (refused n) = numbers_line 78 (n ∷ [])
answer_text (accepted None) = []
answer_text (accepted (Some i)) = interval_text i

-- one message more among those accepted, or among those refused
abbrev pub tallied : Answer (Option Interval) → ℕ × ℕ → ℕ × ℕ
tallied (refused n) t = (t.0, t.1 + 1)
tallied (accepted o) t = (t.0 + 1, t.1)

-- a message is fed to a reader whose tables are at least their sizes
unfoldable pub fed : LessonMessage → LessonReader → Answer (Option Interval) × LessonReader
fed m h = feed lesson_kinds true m h

-- what is listed of messages from a reader on, after so many accepted and refused; at last Z with both
abbrev pub listing_from : ℕ × ℕ → LessonReader → List LessonMessage → List ℕ
listing_from t h [] = numbers_line 90 (t.0 ∷ t.1 ∷ [])
listing_from t h (m ∷ ms) = answer_text (fed m h).0 ++ listing_from (tallied (fed m h).0 t) (fed m h).1 ms

-- the listing of messages
unfoldable pub listing : List LessonMessage → List ℕ
listing ms = listing_from (0, 0) (fresh_held lesson_kinds) ms

-- a file, and a listing, have at most so many bytes
abbrev pub largest_file : ℕ
largest_file = 65536

-- what messages are listed as in so much room: refused by 15 where the listing is too long
abbrev pub listed : ℕ → Result (List LessonMessage) ℕ → Result (List ℕ) (ℕ × ℕ)
listed room (Ok ms) = cond (nat_le (length (listing ms)) (min largest_file room)) (Ok (listing ms)) (Err (0, 15))
listed room (Err line) = Err (line, 14)

-- the listing of a file in so much room, or the line and the number of the question that refuses it: first the file's size, then every line, then the listing's size
abbrev pub replayed : List ℕ → ℕ → Result (List ℕ) (ℕ × ℕ)
replayed file room = cond (nat_le (length file) largest_file) (listed room (file_says file)) (Err (0, 15))

-- the answer as one number: the listing's length, or minus (line × 100 + question)
abbrev pub answer_number : Result (List ℕ) (ℕ × ℕ) → ℤ
answer_number (Ok text) = pos (length text)
answer_number (Err why) = neg_ℤ (pos (why.0 * 100 + why.1))

-- the output afterwards: the listing first, and else as it was
abbrev pub overwritten : Result (List ℕ) (ℕ × ℕ) → List ℕ → List ℕ
overwritten (Ok text) before = text ++ drop (length text) before
overwritten (Err why) before = before
