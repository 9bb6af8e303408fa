-- The messages of a file, one after the other.
use Rattle.std.proofs.Common.{◌≡◌, ℕ, List, [], ◌∷◌, ◌++◌, Ok, Err, Result, refl, ap}
use Rattle.lines.specs.Format.{LessonMessage, with_message}

-- messages before those that follow them
abbrev pub with_messages : List LessonMessage → Result (List LessonMessage) ℕ → Result (List LessonMessage) ℕ
with_messages [] r = r
with_messages (m ∷ ms) r = with_message m (with_messages ms r)

pub with_one_more : (ms : List LessonMessage) (m : LessonMessage) (r : Result (List LessonMessage) ℕ) → with_messages ms (with_message m r) ≡ with_messages (ms ++ m ∷ []) r
with_one_more [] m r = refl
with_one_more (n ∷ ms) m r = ap (with_message n) (with_one_more ms m r)

pub with_all : (ms : List LessonMessage) → with_messages ms (Ok []) ≡ Ok ms
with_all [] = refl
with_all (m ∷ ms) = ap (with_message m) (with_all ms)

pub with_error : (ms : List LessonMessage) (n : ℕ) → with_messages ms (Err n) ≡ Err n
with_error [] n = refl
with_error (m ∷ ms) n = ap (with_message m) (with_error ms n)
