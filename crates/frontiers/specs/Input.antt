-- What the lines of the input say.
use Rattle.std.specs.Prelude.{ℕ, ◌+◌, cond, List, [], ◌∷◌, ◌++◌, Some, None, Ok, Err, Option, Result, ◌==◌}
use Rattle.lines.specs.Cuts.{cut_at, split_from}
use Rattle.lines.specs.Numbers.{number_in}
use Rattle.timetable.specs.Weeks.{is_week}
use Rattle.frontiers.specs.declared.input.Side.{Side}
use Rattle.frontiers.specs.declared.input.Side.TheVariants.{First, Second}
use Rattle.frontiers.specs.declared.input.Expected.{Expected}
use Rattle.frontiers.specs.declared.input.Expected.TheVariants.{Kind, Round, Week, End}

-- the letter of a line, L or H, names a list
abbrev pub side_of : ℕ → Option Side
side_of b = cond (b == 76) (Some First) (cond (b == 72) (Some Second) None)

-- a field of that one letter
abbrev pub letter_of : List ℕ → Option Side
letter_of [] = None
letter_of (b ∷ []) = side_of b
letter_of (b ∷ c ∷ bs) = None

-- behind the round: a week, and no more
abbrev pub behind_round : Side → ℕ → List ℕ → Result (Side × (ℕ × ℕ)) Expected
behind_round s n bs = elim (number_in bs) [ None ↦ Err Week | Some w ↦ cond (is_week w) (Ok (s, (n, w))) (Err Week) ]

-- behind the letter: a round, a tab, and the rest
abbrev pub behind_letter : Side → List ℕ → Result (Side × (ℕ × ℕ)) Expected
behind_letter s bs = elim (cut_at 9 bs) [ None ↦ Err Round | Some p ↦ elim (number_in p.0) [ None ↦ Err Round | Some n ↦ behind_round s n p.1 ] ]

-- what one line says: its list and its time, or what was expected in it
abbrev pub line_says : List ℕ → Result (Side × (ℕ × ℕ)) Expected
line_says bs = elim (cut_at 9 bs) [ None ↦ Err Kind | Some p ↦ elim (letter_of p.0) [ None ↦ Err Kind | Some s ↦ behind_letter s p.1 ] ]

-- what was read so far: the first list, the second, and the number of lines
abbrev pub Told : Type 0
Told = List (ℕ × ℕ) × List (ℕ × ℕ) × ℕ

-- one line more
abbrev pub with_time : Side → ℕ × ℕ → Told → Told
with_time First t l = (l.0 ++ t ∷ [], l.1, l.2 + 1)
with_time Second t l = (l.0, l.1 ++ t ∷ [], l.2 + 1)

-- lines read one after the other, up to the first malformed one, which is named by its number
abbrev pub read_from : Told → List (List ℕ) → Result Told (ℕ × Expected)
read_from l [] = Ok l
read_from l (b ∷ bs) = elim (line_says b) [ Err e ↦ Err (l.2 + 1, e) | Ok p ↦ read_from (with_time p.0 p.1 l) bs ]

-- every line has to be ended
abbrev pub ended : List ℕ → Told → Result Told (ℕ × Expected)
ended [] l = Ok l
ended (b ∷ bs) l = Err (l.2 + 1, End)

-- what is left of the input says, after what was read so far
abbrev pub says_from : Told → List ℕ → Result Told (ℕ × Expected)
says_from l bytes = elim (read_from l (split_from [] bytes).0) [ Err e ↦ Err e | Ok m ↦ ended (split_from [] bytes).1 m ]

-- what the input says: both lists and the number of lines, or the first malformed line with what was expected in it
abbrev pub input_says : List ℕ → Result Told (ℕ × Expected)
input_says bytes = says_from ([], [], 0) bytes
