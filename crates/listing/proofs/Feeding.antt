-- Feed, of the message that a block has.
use Rattle.std.proofs.Common.{◌≡◌, ℕ, Bool, true, false, leb, List, length, Some, None, ap}
use Rattle.std.proofs.lemmas.List.{take_all}
use Rattle.std.proofs.lemmas.Bool.{cond-false, leb-true, and_parts}
use Rattle.questions.specs.Questions.{first_no}
use Rattle.capture.specs.Answers.{refused, accepted, answer}
use Rattle.capture.specs.Held.{feed_asks, taken_in, published}
use Rattle.capture.specs.Messages.{changes, statement, short, short_changes, short_statement}
use Rattle.capture.specs.Sizes.{message_changes, statement_times, statement_counts}
use Rattle.lines.specs.Format.{LessonMessage}
use Rattle.lines.specs.Blocks.{front_of}
use Rattle.listing.specs.Lessons.{lesson_kinds, LessonReader}
use Rattle.listing.specs.Listing.{fed}

-- the front of a message that is not too long is all of it
pub front_whole : (m : LessonMessage) → short m ≡ true → front_of m ≡ m
front_whole (changes cs) e = ap changes (take_all message_changes cs (leb-true (length cs) message_changes e))
front_whole (statement s) e =
    let lower-rest = and_parts (leb (length s.lower) statement_times) _ e in
    let upper-rest = and_parts (leb (length s.upper) statement_times) _ lower-rest.1 in
    let lower = take_all statement_times s.lower (leb-true (length s.lower) statement_times lower-rest.0) in
    let upper = take_all statement_times s.upper (leb-true (length s.upper) statement_times upper-rest.0) in
    let counts = take_all statement_counts s.counts (leb-true (length s.counts) statement_counts upper-rest.1) in
    rw (lower, upper, counts)

answered_no : {X S : Type 0} (asks : List (Bool × ℕ)) (n : ℕ) (s : S) (made : X × S) → first_no asks ≡ Some n → answer asks s made ≡ (refused n, s)
answered_no asks n s made e = ap (λ o. elim o [ Some n ↦ (refused n, s) | None ↦ (accepted made.0, made.1) ]) e

-- a message that is too long is refused by 2
pub fed_long : (m : LessonMessage) (h : LessonReader) → short m ≡ false → fed m h ≡ (refused 2, h)
unfolding fed
fed_long (changes cs) h e = answered_no (feed_asks lesson_kinds true (changes cs) h) 2 h (published lesson_kinds (taken_in lesson_kinds (changes cs) h)) (cond-false (short_changes cs) _ (Some 2) e)
fed_long (statement s) h e = answered_no (feed_asks lesson_kinds true (statement s) h) 2 h (published lesson_kinds (taken_in lesson_kinds (statement s) h)) (cond-false (short_statement s) _ (Some 2) e)
