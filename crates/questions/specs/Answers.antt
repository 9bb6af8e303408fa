-- What it means that a call answers its questions.
use Rattle.std.specs.Prelude.{◌≡◌, ℕ, Bool, List, Some, None, Ok, Err, Result}
use Rattle.questions.specs.declared.Refusal.{Refusal}
use Rattle.questions.specs.Questions.{number_of, first_no}

-- accepted where every question is answered yes; else refused, with the number of the first answered no
abbrev pub Answered : {X : Type 0} → Result X Refusal → List (Bool × ℕ) → (X → Type 0) → Type 0 → Type 0
Answered (Ok x) asks accepted refused = (first_no asks ≡ None) × accepted x
Answered (Err f) asks accepted refused = (first_no asks ≡ Some (number_of f)) × refused
