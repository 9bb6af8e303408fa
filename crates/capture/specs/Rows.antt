-- What a list in stored form reads as, and what it means to store something.
use Rattle.std.specs.Prelude.{◌≡◌, ℕ, Bool, List, [], ◌∷◌, length, take, Result, nat_le}
use Rattle.questions.specs.declared.Refusal.{Refusal}
use Rattle.questions.specs.Answers.{Answered}
use Rattle.capture.specs.declared.row.Row.{Row}

-- the values in use, which stand first
abbrev pub row : {X : Type 0} {n : ℕ} → Row X n → List X
row r = take r.len r.items

-- the list is not too long for a row of n places
abbrev pub has_places : {X : Type 0} → ℕ → List X → Bool
has_places n xs = nat_le (length xs) n

-- m is stored: where it is not too long, what is there after reads as m; else that is refused by 2, and all is as before
abbrev pub Stores : {U S M : Type 0} → (S → M) → (M → Bool) → Result U Refusal → S → S → M → Type 0
Stores reads short r before after m = Answered r ((short m, 2) ∷ []) (λ _. reads after ≡ m) (after ≡ before)
