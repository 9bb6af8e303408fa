-- Counting in a scratch table: how it goes on from change to change.
use Rattle.std.proofs.Common.{◌≡◌, ℕ, zero, suc, ◌+◌, ◌<◌, ◌≤◌, max, Bool, ◌&&◌, leb, List, [], ◌∷◌, ◌++◌, length, ℤ, pos, negsuc, ◌+ℤ◌, Ok, Err, Result, sym, refl, ap, ◌∙◌, arith}
use Rattle.std.proofs.Math.Bool.{and-true}
use Rattle.std.proofs.lemmas.Bool.{cond_both, le-leb}
use Rattle.std.proofs.lemmas.Bool.Decides.{nat_tests}
use Rattle.std.proofs.lemmas.List.{length-append}
use Rattle.std.specs.Result.{IsOk}
use Rattle.lattice.specs.Orders.{at_once}
use Rattle.questions.specs.declared.Refusal.{Refusal}
use Rattle.questions.specs.Answers.{Answered}
use Rattle.frontier.specs.Counts.{entry, stopped, added, added_all, room}
use Rattle.frontier.specs.Tables.{in_use, table_asks, counted}
use Rattle.frontier.proofs.Tables.{length_in_use, table_fits}
use Rattle.frontier.proofs.Filling.{adding, all_append, fit_append}

-- an entry is one at most
entry_few : {A : Type 0} (x : A) (z : ℤ) → length (entry x z) ≤ 1
entry_few x (pos zero) = omega arith
entry_few x (pos (suc n)) = omega arith
entry_few x (negsuc n) = omega arith

-- an addition makes one entry more at most
pub added_few : {A : Type 0} (below : A → A → Bool) (es : List (A × ℤ)) (x : A) (z : ℤ) → length (added below es x z) ≤ length es + 1
added_few below [] x z = entry_few x z
added_few below (e ∷ es) x z =
    let new = entry e.0 (stopped (e.1 +ℤ z)) in
    cond_both (at_once below e.0 x) (new ++ es) (e ∷ added below es x z) (λ l. length l ≤ suc (length es) + 1)
    (λ _. omega (arith, length-append new es, entry_few e.0 (stopped (e.1 +ℤ z))))
    (λ _. omega (arith, added_few below es x z))

leb-max : (a b l : ℕ) → leb (max a b) l ≡ (leb a l && leb b l)
leb-max a b l = grind (arith, nat_tests)

-- one more is counted
module _ {A : Type 0} (below : A → A → Bool) (limit : ℕ) (start so_far next front : List (A × ℤ)) (x : A) (z : ℤ) (turn : next ≡ so_far ++ (x, z) ∷ []) (made : front ≡ added_all below start so_far) where
  pub added_more : added below front x z ≡ added_all below start next
  added_more = ap (λ es. added below es x z) made ∙ sym (ap (added_all below start) turn ∙ all_append (adding below limit) start so_far ((x, z) ∷ []))

  pub room_more : (most n : ℕ) → leb most limit ≡ room below limit start so_far → length (added below front x z) ≡ n → leb (max most n) limit ≡ room below limit start next
  room_more most n e size =
      let last : leb n limit ≡ room below limit (added_all below start so_far) ((x, z) ∷ []) =
      ap (λ m. leb m limit) (sym size ∙ ap (λ es. length (added below es x z)) made) ∙ sym (and-true (leb (length (added below (added_all below start so_far) x z)) limit)) in
      leb-max most n limit
      ∙ ap (λ b. b && leb n limit) e
      ∙ ap (λ b. room below limit start so_far && b) last
      ∙ sym (ap (room below limit start) turn ∙ fit_append (adding below limit) start so_far ((x, z) ∷ []))

-- a scratch table with room for one entry more does not refuse
pub never_full : {X A : Type 0} (below : A → A → Bool) (value : X → A) (limit n : ℕ) (xs : List (X × ℤ)) (x : A) (z : ℤ) → n < limit → limit ≤ length xs → {U : Type 0} (r : Result U Refusal) (P : U → Type 0) (Q : Type 0) → Answered r (table_asks limit 11 (length xs) n (leb (length (added below (in_use (counted value) n xs) x z)) limit)) P Q → IsOk r
never_full below value limit n xs x z h long (Ok u) P Q told = refl
never_full below value limit n xs x z h long (Err f) P Q told =
    let front = in_use (counted value) n xs in
    let none = table_fits limit 11 (length xs) n (leb (length (added below front x z)) limit) (omega arith) long
    (le-leb (length (added below front x z)) limit (omega (arith, added_few below front x z, length_in_use (counted value) n xs (omega arith)))) in
    let some = told.0 in
    cc
