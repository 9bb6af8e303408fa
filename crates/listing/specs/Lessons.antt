-- Lessons at rounds and weeks, as the protocol knows them.
use Rattle.std.specs.Prelude.{ℕ, max, ℤ, nat_le}
use Rattle.lattice.specs.Orders.{both, parts}
use Rattle.lattice.specs.Sameness.{eqb_signed}
use Rattle.timetable.specs.Lessons.{alike_lessons}
use Rattle.capture.specs.Kinds.{Kinds, kinds}
use Rattle.capture.specs.Held.{Held}

-- when lessons, times and amounts are the same, the order of times, their joins and their start
abbrev pub lesson_kinds : Kinds (ℕ × ℕ × ℕ) (ℕ × ℕ) ℤ
lesson_kinds = kinds alike_lessons (both nat_le nat_le) (parts max max) (0, 0) eqb_signed

-- a held reader of lessons
abbrev pub LessonReader : Type 0
LessonReader = Held (ℕ × ℕ × ℕ) (ℕ × ℕ) ℤ
