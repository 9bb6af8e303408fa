-- What feed answers, by what its answer tables read as.
use Rattle.std.specs.Prelude.{ℕ, ◌≤◌, List, map, take, Some, None, Ok, Err, Option, Result}
use Rattle.questions.specs.Questions.{number_of}
use Rattle.questions.specs.declared.Refusal.{Refusal}
use Rattle.lattice.specs.declared.product.Product.{Product}
use Rattle.timetable.specs.declared.week.Week.{Week}
use Rattle.timetable.specs.declared.lesson.Lesson.{Lesson}
use Rattle.timetable.specs.declared.amount.Amount.{Amount}
use Rattle.capture.specs.Answers.{Answer, refused, accepted}
use Rattle.lines.specs.Values.{time_value}
use Rattle.writing.specs.Puts.{change_value}
use Rattle.listing.specs.Listing.{Interval}

-- the interval whose entries stand first in the tables of published changes and times, by how many they are
abbrev pub interval_of : Option (ℕ × ℕ) → List (Lesson × Product ℕ Week × Amount) → List (Product ℕ Week) → Option Interval
interval_of None published told = None
interval_of (Some n) published told = Some (map change_value (take n.0 published), map time_value (take n.1 told))

-- the answer, with that interval
abbrev pub answer_of : Result (Option (ℕ × ℕ)) Refusal → List (Lesson × Product ℕ Week × Amount) → List (Product ℕ Week) → Answer (Option Interval)
answer_of (Ok n) published told = accepted (interval_of n published told)
answer_of (Err f) published told = refused (number_of f)

-- the tables have so many entries
abbrev pub Within : Option (ℕ × ℕ) → ℕ → ℕ → Type 0
Within None published told = Unit {0}
Within (Some n) published told = (n.0 ≤ published) × (n.1 ≤ told)
