-- How an answer follows from its questions.
use Rattle.std.proofs.Common.{◌≡◌, ℕ, Bool, true, false, cond, T, List, [], ◌∷◌, Some, None, Option, refl, ap, arith}
use Rattle.questions.specs.Questions.{first_no}
use Rattle.capture.specs.Answers.{Answer, accepted, answer, refused}

-- every question is answered yes
abbrev pub AllYes : List (Bool × ℕ) → Type 0
AllYes [] = Unit {0}
AllYes (q ∷ qs) = T q.0 × AllYes qs

yes_more : (b : Bool) (n : ℕ) (o : Option ℕ) → cond b o (Some n) ≡ None → T b × (o ≡ None)
yes_more true n o e = (tt, e)
yes_more false n o e = let z : ◌≡◌ {A = ℕ} 0 1 = cc in absurd (omega arith)

pub all_yes : (qs : List (Bool × ℕ)) → first_no qs ≡ None → AllYes qs
all_yes [] e = tt
all_yes (q ∷ qs) e = let y = yes_more q.0 q.1 (first_no qs) e in (y.0, all_yes qs y.1)

-- what holds of a refusal that leaves the state, and of the acceptance where every question is answered yes, holds of the call
pub answer_cases : {X S : Type 0} (P : Answer X × S → Type 0) (asks : List (Bool × ℕ)) (s : S) (made : X × S) → ((n : ℕ) → P (refused n, s)) → (AllYes asks → P (accepted made.0, made.1)) → P (answer asks s made)
answer_cases P asks s made refuses accepts = go (first_no asks) refl
  where
    go : (o : Option ℕ) → first_no asks ≡ o → P (elim o [ Some n ↦ (refused n, s) | None ↦ (accepted made.0, made.1) ])
    go (Some n) e = refuses n
    go None e = accepts (all_yes asks e)

-- what an accepted call tells and leaves
pub answer_made : {X S : Type 0} (asks : List (Bool × ℕ)) (s : S) (made : X × S) → first_no asks ≡ None → answer asks s made ≡ (accepted made.0, made.1)
answer_made {X} {S} asks s made e =
    let after : Option ℕ → Answer X × S = λ o. elim o as (λ _. Answer X × S) [ Some n ↦ (refused n, s) | None ↦ (accepted made.0, made.1) ] in
    ap after e

-- what a refused call tells and leaves
pub answer_refused : {X S : Type 0} (asks : List (Bool × ℕ)) (s : S) (made : X × S) (n : ℕ) → first_no asks ≡ Some n → answer asks s made ≡ (refused n, s)
answer_refused {X} {S} asks s made n e =
    let after : Option ℕ → Answer X × S = λ o. elim o as (λ _. Answer X × S) [ Some n ↦ (refused n, s) | None ↦ (accepted made.0, made.1) ] in
    ap after e
