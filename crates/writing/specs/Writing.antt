-- Messages written as lines.
use Rattle.std.specs.Prelude.{◌≡◌, ℕ, ◌≤◌, true, List, [], ◌∷◌, ◌++◌, map, Ok, decimal}
use Rattle.std.specs.List.{flat_map, AllByRecursion}
use Rattle.std.specs.Fmt.{signed_decimal}
use Rattle.timetable.specs.Weeks.{is_week}
use Rattle.lattice.specs.declared.product.Product.{Product}
use Rattle.timetable.specs.declared.week.Week.{Week}
use Rattle.timetable.specs.declared.lesson.Lesson.{Lesson}
use Rattle.timetable.specs.declared.amount.Amount.{Amount}
use Rattle.timetable.specs.Lessons.{is_lesson, is_amount, lesson_value, amount_value}
use Rattle.capture.specs.Views.{message_of}
use Rattle.capture.specs.declared.message.Message.{Message as View}
use Rattle.capture.specs.declared.message.Message.TheVariants.{Updates, Progress}
use Rattle.lines.specs.Values.{time_value}
use Rattle.capture.specs.Messages.{changes, statement}
use Rattle.lines.specs.Numbers.{most}
use Rattle.lines.specs.Format.{LessonChange, LessonMessage, file_says}

-- a tab, a number, and what follows
abbrev pub number_before : ℕ → List ℕ → List ℕ
number_before n rest = 9 ∷ (decimal n ++ rest)

-- the fields of a time, round and week, and what follows
abbrev pub time_before : (ℕ × ℕ) → List ℕ → List ℕ
time_before t rest = number_before t.0 (number_before t.1 rest)

-- the fields of a lesson, class, room and period, and what follows
abbrev pub lesson_before : (ℕ × ℕ × ℕ) → List ℕ → List ℕ
lesson_before l rest = number_before l.0 (number_before l.1 (number_before l.2 rest))

-- bytes as a line, with the byte 10 that ends it
abbrev pub line_of : List ℕ → List ℕ
line_of bs = bs ++ 10 ∷ []

-- a letter, and a change
abbrev pub lettered_text : ℕ → LessonChange → List ℕ
lettered_text letter c = letter ∷ time_before c.time (lesson_before c.what (9 ∷ signed_decimal c.amount))

-- U, and a change
abbrev pub change_text : LessonChange → List ℕ
change_text c = lettered_text 85 c

-- L or H, and a time
abbrev pub time_text : ℕ → (ℕ × ℕ) → List ℕ
time_text letter t = letter ∷ time_before t []

-- a letter, and a count
abbrev pub lettered_count : ℕ → ((ℕ × ℕ) × ℕ) → List ℕ
lettered_count letter c = letter ∷ time_before c.0 (number_before c.1 [])

-- C, and a count
abbrev pub count_text : ((ℕ × ℕ) × ℕ) → List ℕ
count_text c = lettered_count 67 c

-- a message as lines: R or S, its lists in their order, and E
abbrev pub lines_of : LessonMessage → List ℕ
lines_of (changes cs) = line_of (82 ∷ []) ++ (flat_map (λ c. line_of (change_text c)) cs ++ line_of (69 ∷ []))
lines_of (statement s) =
    line_of (83 ∷ []) ++ (flat_map (λ t. line_of (time_text 76 t)) s.lower ++ (flat_map (λ t. line_of (time_text 72 t)) s.upper ++ (flat_map (λ c. line_of (count_text c)) s.counts ++ line_of (69 ∷ []))))

-- a time has the form of a round and a week
abbrev pub FormedTime : (ℕ × ℕ) → Type 0
FormedTime t = (t.0 ≤ most) × (is_week t.1 ≡ true)

-- a change has the form of a change of a lesson
abbrev pub FormedChange : LessonChange → Type 0
FormedChange c = FormedTime c.time × (is_lesson c.what ≡ true) × (is_amount c.amount ≡ true)

-- a count has the form of a count in a statement
abbrev pub FormedCount : ((ℕ × ℕ) × ℕ) → Type 0
FormedCount c = FormedTime c.0 × (c.1 ≤ 4294967295)

-- every part of a message has its form
abbrev pub Formed : LessonMessage → Type 0
Formed (changes cs) = AllByRecursion FormedChange cs
Formed (statement s) = AllByRecursion FormedTime s.lower × AllByRecursion FormedTime s.upper × AllByRecursion FormedCount s.counts

-- what is written reads as the messages that were written, in order
abbrev pub ReadsBack : Type 0
ReadsBack = (ms : List LessonMessage) → AllByRecursion Formed ms → file_says (flat_map lines_of ms) ≡ Ok ms

-- the rounds of a message of the code fit 64 bits, and its counts 32, as their types have it
abbrev pub FitsTypes : View Lesson (Product ℕ Week) Amount → Type 0
FitsTypes (Updates cs) = AllByRecursion (λ c. c.1.outer ≤ most) cs.now
FitsTypes (Progress s) = AllByRecursion (λ t. t.outer ≤ most) s.lower.now × AllByRecursion (λ t. t.outer ≤ most) s.upper.now × AllByRecursion (λ c. (c.0.outer ≤ most) × (c.1 ≤ 4294967295)) s.counts.now

-- what is written of messages of the code reads as what they read as: every week, lesson and amount has its form
abbrev pub ViewsReadBack : Type 0
ViewsReadBack = (vs : List (View Lesson (Product ℕ Week) Amount)) → AllByRecursion FitsTypes vs → file_says (flat_map lines_of (map (message_of lesson_value time_value amount_value) vs)) ≡ Ok (map (message_of lesson_value time_value amount_value) vs)
