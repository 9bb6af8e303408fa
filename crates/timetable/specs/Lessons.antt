-- Lessons, and the amounts by which they change.
use Rattle.std.specs.Prelude.{ℕ, Bool, ◌&&◌, ℤ, pos, negsuc, ◌==◌, int_le, nat_le}
use Rattle.timetable.specs.declared.lesson.Lesson.{Lesson}
use Rattle.timetable.specs.declared.amount.Amount.{Amount}
use Rattle.timetable.specs.Readings.{reads_as}

-- classes have the numbers 1 to 9,999
abbrev pub is_class : ℕ → Bool
is_class n = nat_le 1 n && nat_le n 9999

-- rooms have the numbers 1 to 200
abbrev pub is_room : ℕ → Bool
is_room n = nat_le 1 n && nat_le n 200

-- periods have the numbers 1 to 50
abbrev pub is_period : ℕ → Bool
is_period n = nat_le 1 n && nat_le n 50

-- a class, a room and a period
abbrev pub is_lesson : (ℕ × ℕ × ℕ) → Bool
is_lesson l = is_class l.0 && is_room l.1 && is_period l.2

-- the class, room and period that a stored lesson reads as, each number by itself
abbrev pub lesson_value : Lesson → ℕ × ℕ × ℕ
lesson_value l = (reads_as is_class 1 l.class, reads_as is_room 1 l.room, reads_as is_period 1 l.period)

-- two lessons are the same in class, room and period
abbrev pub alike_lessons : (ℕ × ℕ × ℕ) → (ℕ × ℕ × ℕ) → Bool
alike_lessons l m = l.0 == m.0 && l.1 == m.1 && l.2 == m.2

-- lesson amounts are the numbers -1,000 to 1,000
abbrev pub is_amount : ℤ → Bool
is_amount n = int_le (negsuc 999) n && int_le n (pos 1000)

-- the number that a stored amount reads as
abbrev pub amount_value : Amount → ℤ
amount_value a = reads_as is_amount (negsuc 999) a.number
