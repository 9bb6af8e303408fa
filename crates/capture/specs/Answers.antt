-- What a call answers, and what it leaves.
use Rattle.std.specs.Prelude.{ℕ, Bool, true, false, List, [], ◌∷◌, Some, None}
use Rattle.questions.specs.Questions.{first_no}

-- a call is refused, by the number of a question, or accepted with what it tells
pub data Answer (X : Type 0) : Type 0 where
  refused : ℕ → Answer X
  accepted : X → Answer X

-- whether the call was accepted
abbrev pub is_accepted : {X : Type 0} → Answer X → Bool
is_accepted (refused n) = false
is_accepted (accepted x) = true

-- what an accepted call brings, and nothing from a refused one
abbrev pub brings : {X Y : Type 0} → Answer X → (X → List Y) → List Y
brings (refused n) f = []
brings (accepted x) f = f x

-- a call that asks these questions of the state s: the first answered no refuses it and leaves s; else it tells the one part of `made` and leaves the other
abbrev pub answer : {X S : Type 0} → List (Bool × ℕ) → S → X × S → Answer X × S
answer asks s made = elim (first_no asks) [ Some n ↦ (refused n, s) | None ↦ (accepted made.0, made.1) ]

-- what every call asks first: whether each table is at least its size
abbrev pub only_tables : Bool → List (Bool × ℕ)
only_tables tables = (tables, 1) ∷ []
