-- What a line says by itself.
use Rattle.std.specs.Prelude.{ℕ, cond, List, [], ◌∷◌, ℤ, Some, None, Option, ◌==◌}
use Rattle.timetable.specs.Lessons.{lesson_value, amount_value}
use Rattle.capture.specs.Messages.{Change}
use Rattle.capture.specs.Views.{change_of}
use Rattle.lines.specs.Numbers.{alone}
use Rattle.lines.specs.Fields.{then, behind_tab, time_in, change_in, count_in}
use Rattle.lines.specs.Values.{time_value}
use Rattle.lines.specs.declared.line.Line.{Line}
use Rattle.lines.specs.declared.line.Line.TheVariants.{Updates, Progress, Update, Lower, Upper, Count, End}

-- what a well formed line says: it opens a message, ends it, or has a part of it
pub data Said : Type 0 where
  opens_changes : Said
  opens_statement : Said
  a_change : Change (ℕ × ℕ × ℕ) (ℕ × ℕ) ℤ → Said
  a_lower : ℕ × ℕ → Said
  an_upper : ℕ × ℕ → Said
  a_count : (ℕ × ℕ) × ℕ → Said
  ends : Said

-- the fields behind a letter, by the reading of its kind
abbrev pub fields_say : {A : Type 0} → (List ℕ → Option A) → (A → Said) → List ℕ → Option Said
fields_say reading said bs = then (behind_tab bs) (λ f. then (reading f) (λ a. Some (said a)))

-- what the bytes behind a letter say: R, S, E, U, L, H and C are the letters
abbrev pub kind_says : ℕ → List ℕ → Option Said
kind_says b bs =
    cond (b == 82) (alone opens_changes bs)
    (cond (b == 83) (alone opens_statement bs)
    (cond (b == 85) (fields_say change_in a_change bs)
    (cond (b == 76) (fields_say time_in a_lower bs)
    (cond (b == 72) (fields_say time_in an_upper bs)
    (cond (b == 67) (fields_say count_in a_count bs)
    (cond (b == 69) (alone ends bs) None))))))

-- what a line says, without the byte 10 that ends it
abbrev pub line_says : List ℕ → Option Said
line_says [] = None
line_says (b ∷ bs) = kind_says b bs

-- what a line that was read reads as
abbrev pub line_value : Line → Said
line_value Updates = opens_changes
line_value Progress = opens_statement
line_value (Update l t a) = a_change (change_of lesson_value time_value amount_value (l, t, a))
line_value (Lower t) = a_lower (time_value t)
line_value (Upper t) = an_upper (time_value t)
line_value (Count t n) = a_count (time_value t, n)
line_value End = ends
