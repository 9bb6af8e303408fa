-- Whether tables have their sizes, and what an accepted call leaves.
use Rattle.std.proofs.Common.{◌≡◌, ℕ, ◌<◌, ◌≤◌, Bool, true, false, ◌&&◌, leb, ◌⊎◌, List, Some, None, Option, sym, ap, ◌∙◌, ⊎_elim}
use Rattle.std.proofs.lemmas.Bool.{and_from, and_left, and_right, le-leb, lt-leb}
use Rattle.questions.specs.Questions.{first_no}
use Rattle.capture.specs.Answers.{Answer, refused, accepted, answer}

-- a test of a frontier, counts and a queue, and another table after it
module _ {lent : Bool} (tested : Bool) (size n : ℕ) (is : tested ≡ lent) where
  pub all_sized : tested ≡ true → size ≤ n → (lent && leb size n) ≡ true
  all_sized e h = and_from lent (leb size n) (sym is ∙ e) (le-leb size n h)

  pub not_sized : (tested ≡ false) ⊎ ((tested ≡ true) × (n < size)) → (lent && leb size n) ≡ false
  not_sized = ⊎_elim (λ e. and_left lent (leb size n) (sym is ∙ e)) (λ h. and_right lent (leb size n) (lt-leb size n h.1))

-- what an accepted call leaves
pub leaves : {X S : Type 0} (asks : List (Bool × ℕ)) (s : S) (made : X × S) → first_no asks ≡ None → (answer asks s made).1 ≡ made.1
leaves {X} {S} asks s made e =
    let after : Option ℕ → Answer X × S = λ o. elim o as (λ _. Answer X × S) [ Some n ↦ (refused n, s) | None ↦ (accepted made.0, made.1) ] in
    ap (λ o. (after o).1) e
