-- How a loop over counts goes through those that matter, one after the other.
use Rattle.std.proofs.Common.{◌≡◌, ℕ, zero, suc, Bool, true, false, cond, List, [], ◌∷◌, map, filter, ℤ, pos, negsuc, sym, refl, ap, ◌∙◌, arith}
use lib.Signed.{lt_z}
use Rattle.std.proofs.lemmas.Bool.{cond-true, cond-false, lt-ltb}
use Rattle.frontier.specs.Counts.{positive, positives}
use Rattle.frontier.specs.Frontiers.{beyond}
use Rattle.frontier.specs.Tables.{counted}
use Rattle.std.proofs.lemmas.Simd.{map-map}
use Rattle.frontier.proofs.Inserting.{kept_map}
use Rattle.capture.specs.Statements.{counts_beyond, lowered}
use Rattle.capture.specs.Views.{count_of, change_of}

-- the next count of a statement is added, or passed over
module _ {A : Type 0} (below : A → A → Bool) (f : List A) (c : A × ℕ) (cs : List (A × ℕ)) where
  pub counts_beyond_yes : beyond below f c.0 ≡ true → counts_beyond below f (c ∷ cs) ≡ (c.0, pos c.1) ∷ counts_beyond below f cs
  counts_beyond_yes e = ap (map (λ d. (d.0, pos d.1))) (cond-true (beyond below f c.0) _ _ e)

  pub counts_beyond_no : beyond below f c.0 ≡ false → counts_beyond below f (c ∷ cs) ≡ counts_beyond below f cs
  counts_beyond_no e = ap (map (λ d. (d.0, pos d.1))) (cond-false (beyond below f c.0) _ _ e)

pub positive_is : (z : ℤ) → positive z ≡ lt_z (pos 0) z
positive_is (pos zero) = refl
positive_is (pos (suc n)) = sym (lt-ltb 0 (suc n) (omega arith))
positive_is (negsuc n) = refl

-- the next time is one at which changes are missing, or is not
module _ {A : Type 0} (c : A × ℤ) (cs : List (A × ℤ)) where
  pub positives_yes : lt_z (pos 0) c.1 ≡ true → positives (c ∷ cs) ≡ c.0 ∷ positives cs
  positives_yes e = cond-true (positive c.1) _ _ (positive_is c.1 ∙ e)

  pub positives_no : lt_z (pos 0) c.1 ≡ false → positives (c ∷ cs) ≡ positives cs
  positives_no e = cond-false (positive c.1) _ _ (positive_is c.1 ∙ e)

-- the times of stored counts above 0
pub positives_read : {X A : Type 0} (value : X → A) (xs : List (X × ℤ)) → map (λ c. value c.0) (filter (λ c. lt_z (pos 0) c.1) xs) ≡ positives (map (counted value) xs)
positives_read value [] = refl
positives_read {X} {A} value (x ∷ xs) =
    let rest = filter (λ (c : X × ℤ). lt_z (pos 0) c.1) xs in
    ap (λ b. map (λ (c : X × ℤ). value c.0) (cond b (x ∷ rest) rest)) (sym (positive_is x.1)) ∙ one_more (positive x.1) x rest (positives (map (counted value) xs)) (positives_read value xs)
  where
    one_more : (b : Bool) (y : X × ℤ) (ys : List (X × ℤ)) (vs : List A) → map (λ c. value c.0) ys ≡ vs → map (λ c. value c.0) (cond b (y ∷ ys) ys) ≡ cond b (value y.0 ∷ vs) vs
    one_more true y ys vs e = ap (λ l. value y.0 ∷ l) e
    one_more false y ys vs e = e

-- what the counts of a statement are read as, where the stored ones are not behind the frontier
pub beyond_read : {X A : Type 0} (value : X → A) (below : A → A → Bool) (f : List A) (xs : List (X × ℕ)) → map (λ c. (value c.0, pos c.1)) (filter (λ c. beyond below f (value c.0)) xs) ≡ counts_beyond below f (map (count_of value) xs)
beyond_read {X} {A} value below f xs =
    let passes : A × ℕ → Bool = λ c. beyond below f c.0 in
    let amount : A × ℕ → A × ℤ = λ c. (c.0, pos c.1) in
    sym (map-map amount (count_of value) (filter (λ c. passes (count_of value c)) xs)) ∙ ap (map amount) (kept_map passes (count_of value) xs)

-- what lowers the counts of stored changes
pub lowered_read : {X Y Z D A R : Type 0} (first : X → D) (value : Y → A) (last : Z → R) (xs : List (X × Y × Z)) → map (λ c. (value c.1, negsuc 0)) xs ≡ lowered (map (change_of first value last) xs)
lowered_read first value last [] = refl
lowered_read first value last (x ∷ xs) = ap (λ l. (value x.1, negsuc 0) ∷ l) (lowered_read first value last xs)
