-- The number of a malformed line is at most one more than the bytes of its file.
use Rattle.std.proofs.Common.{◌≡◌, ℕ, ◌+◌, ◌≤◌, true, false, cond, eqb, List, [], ◌∷◌, ◌++◌, length, Some, None, Ok, Err, Option, Result, arith}
use Rattle.lines.specs.Cuts.{split_from}
use Rattle.lines.specs.Said.{Said, line_says}
use Rattle.lines.specs.Format.{LessonMessage, Draft, outside, in_changes, in_statement, Next, goes_on, completes, stops, step, with_message, closes, reads, file_says}

lines_few : (begun bs : List ℕ) → length (split_from begun bs).0 ≤ length bs
lines_few begun [] = omega arith
lines_few begun (b ∷ bs) =
    elim (eqb b 10) as (λ v. length (cond v (begun ∷ (split_from [] bs).0, (split_from [] bs).1) (split_from (begun ++ b ∷ []) bs)).0 ≤ length (b ∷ bs)) [
      | true ↦ omega (arith, lines_few [] bs)
      | false ↦ omega (arith, lines_few (begun ++ b ∷ []) bs)
    ]

with_err : (m : LessonMessage) (r : Result (List LessonMessage) ℕ) (k : ℕ) → with_message m r ≡ Err k → r ≡ Err k
with_err m (Ok ms) k e = cc
with_err m (Err n) k e = e

closes_near : (d : Draft) (n : ℕ) (u : List ℕ) (k : ℕ) → closes d n u ≡ Err k → k ≤ n + 1
closes_near outside n [] k e = cc
closes_near outside n (b ∷ bs) k e = let here : n + 1 ≡ k = cc in omega arith
closes_near (in_changes cs) n u k e = let here : n + 1 ≡ k = cc in omega arith
closes_near (in_statement p s) n u k e = let here : n + 1 ≡ k = cc in omega arith

reads_near : (d : Draft) (n : ℕ) (ls : List (List ℕ)) (u : List ℕ) (k : ℕ) → reads d n ls u ≡ Err k → k ≤ n + length ls + 1
reads_near d n [] u k e = omega (arith, closes_near d n u k e)
reads_near d n (l ∷ ls) u k e =
    let here : ◌≡◌ {A = Result (List LessonMessage) ℕ} (Err (n + 1)) (Err k) → k ≤ n + length (l ∷ ls) + 1 = λ h. let at : n + 1 ≡ k = cc in omega arith in
    let After : Next → Type 0 = λ y. ◌≡◌ {A = Result (List LessonMessage) ℕ} (elim y [ stops ↦ Err (n + 1) | goes_on e ↦ reads e (n + 1) ls u | completes m ↦ with_message m (reads outside (n + 1) ls u) ]) (Err k) → k ≤ n + length (l ∷ ls) + 1 in
    let next : (y : Next) → After y = λ y. elim y as After [
      | stops ↦ here
      | goes_on e ↦ λ h. omega (arith, reads_near e (n + 1) ls u k h)
      | completes m ↦ λ h. omega (arith, reads_near outside (n + 1) ls u k (with_err m (reads outside (n + 1) ls u) k h))
    ] in
    let Line : Option Said → Type 0 = λ o. ◌≡◌ {A = Result (List LessonMessage) ℕ} (elim o [ None ↦ Err (n + 1) | Some x ↦ elim (step d x) [ stops ↦ Err (n + 1) | goes_on e ↦ reads e (n + 1) ls u | completes m ↦ with_message m (reads outside (n + 1) ls u) ] ]) (Err k) → k ≤ n + length (l ∷ ls) + 1 in
    let line : (o : Option Said) → Line o = λ o. elim o as Line [ None ↦ here | Some x ↦ next (step d x) ] in
    line (line_says l) e

pub line_near : (bytes : List ℕ) (k : ℕ) → file_says bytes ≡ Err k → k ≤ length bytes + 1
line_near bytes k e = omega (arith, reads_near outside 0 (split_from [] bytes).0 (split_from [] bytes).1 k e, lines_few [] bytes)
