-- Weeks, as the number yyyyww of a year and a week in it, or 0.
use Rattle.std.specs.Prelude.{ℕ, ◌/◌, ◌%◌, Bool, ◌&&◌, ◌||◌, ◌==◌, nat_le}
use Rattle.timetable.specs.declared.week.Week.{Week}
use Rattle.timetable.specs.Readings.{reads_as}

-- the number of weeks in a year
unfoldable pub weeks_in : ℕ → ℕ
weeks_in year = 52

-- 0, or a year from 2000 to 2199 followed by two digits for one of its weeks
unfoldable pub is_week : ℕ → Bool
is_week n = n == 0 || (nat_le 2000 (n / 100) && nat_le (n / 100) 2199 && nat_le 1 (n % 100) && nat_le (n % 100) (weeks_in (n / 100)))

-- the number that a stored week reads as
abbrev pub week_value : Week → ℕ
week_value w = reads_as is_week 0 w.number
