-- Questions asked one after the other, the last ones by a call.
use Rattle.std.proofs.Common.{◌≡◌, ℕ, Bool, true, false, cond, Some, None, Option, sym, refl, ap, ◌∙◌, arith}
use Rattle.std.proofs.lemmas.Bool.{cond-true, cond-false}

-- the question is answered yes, and the rest is asked
pub yes : {X : Type 0} {b : Bool} {rest told : X} (else : X) → b ≡ true → rest ≡ told → cond b rest else ≡ told
yes {b = b} {rest = rest} else e h = cond-true b rest else e ∙ h

-- the question is answered no
pub no_here : {X : Type 0} {b : Bool} {else told : X} (rest : X) → b ≡ false → else ≡ told → cond b rest else ≡ told
no_here {b = b} {else = else} rest e h = cond-false b rest else e ∙ h

-- the call that asked it was refused
pub no_by_call : (b : Bool) (rest : Option ℕ) (m n : ℕ) → cond b None (Some m) ≡ Some n → cond b rest (Some m) ≡ Some n
no_by_call true rest m n e = let z : ◌≡◌ {A = ℕ} 0 1 = cc in absurd (omega arith)
no_by_call false rest m n e = e

-- the call that asked it was accepted
pub yes_by_call : (b : Bool) (m : ℕ) → cond b None (Some m) ≡ None → b ≡ true
yes_by_call true m e = refl
yes_by_call false m e = let z : ◌≡◌ {A = ℕ} 0 1 = cc in absurd (omega arith)

-- a message that is not too long is put in a queue, which asks only whether there is room
pub by_push : {short : Bool} {told : Option ℕ} (free : Bool) → short ≡ true → cond free (cond short None (Some 2)) (Some 13) ≡ told → cond free None (Some 13) ≡ told
by_push free e h = sym (ap (λ b. cond free (cond b None (Some 2)) (Some 13)) e) ∙ h
