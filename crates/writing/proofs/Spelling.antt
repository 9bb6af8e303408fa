-- Numbers that are written read back.
use Rattle.std.proofs.Common.{◌≡◌, ℕ, suc, ◌+◌, ◌*◌, ◌/◌, ◌%◌, ◌^◌, ◌<◌, ◌≤◌, Bool, true, false, cond, ◌&&◌, eqb, leb, List, [], ◌∷◌, ◌++◌, get_or, ℤ, pos, negsuc, Some, None, decimal, sym, refl, ap, ◌∙◌, subst, arith}
use lib.Signed.{mag}
use Rattle.std.specs.Fmt.{signed_decimal}
use Rattle.std.specs.List.{AllByRecursion}
use Rattle.std.proofs.ByRecursion.{All-append}
use Rattle.std.proofs.lemmas.Fmt.{decimal_by_steps, decimal_digit, first_decimal}
use Rattle.std.proofs.lemmas.Bool.{ne_eqb}
use Rattle.std.proofs.lemmas.Bool.Decides.{nat_tests}
use Rattle.lines.specs.Numbers.{most, is_digit, longer, digits_from, number_in}
use Rattle.lines.specs.Cuts.{cut_at}
use Rattle.lines.specs.Fields.{then, number_then, signed_in}

-- the byte is not among the bytes
abbrev pub Free : ℕ → List ℕ → Type 0
Free m bs = AllByRecursion (λ b. eqb b m ≡ false) bs

-- bytes without the mark are cut off whole
pub cut_free : (m : ℕ) (xs ys : List ℕ) → Free m xs → cut_at m (xs ++ m ∷ ys) ≡ Some (xs, ys)
cut_free m [] ys p = grind (arith, nat_tests)
cut_free m (x ∷ xs) ys p = rw (p.0, cut_free m xs ys p.1)

-- digits are no tabs, no line ends and no minus
pub free_decimal : (m n : ℕ) → m < 48 → n < 2 ^ 64 → Free m (decimal n)
free_decimal m n low h =
    decimal_by_steps (λ k ds. Free m ds) (λ k small. (ne_eqb (48 + k) m (λ e. omega arith), tt)) (λ k ds large p. All-append (λ b. eqb b m ≡ false) ds ((48 + k % 10) ∷ []) p (ne_eqb (48 + k % 10) m (λ e. omega arith), tt)) n h

digits_push : (n : ℕ) (ds : List ℕ) (d : ℕ) → digits_from n (ds ++ d ∷ []) ≡ then (digits_from n ds) (λ m. digits_from m (d ∷ []))
digits_push n [] d = refl
digits_push n (b ∷ bs) d =
    elim (is_digit b && leb (longer n b) most) as (λ v. cond v (digits_from (longer n b) (bs ++ d ∷ [])) None ≡ then (cond v (digits_from (longer n b) bs) None) (λ m. digits_from m (d ∷ []))) [ true ↦ digits_push (longer n b) bs d | false ↦ refl ]

last_digit : (n d k : ℕ) → d < 10 → 10 * n + d ≡ k → k ≤ most → digits_from n ((48 + d) ∷ []) ≡ Some k
last_digit n d k small e h = grind (arith, nat_tests)

digits_decimal : (n : ℕ) → n < 2 ^ 64 → n ≤ most → digits_from 0 (decimal n) ≡ Some n
digits_decimal n h =
    decimal_by_steps (λ k ds. k ≤ most → digits_from 0 ds ≡ Some k) (λ k small le. last_digit 0 k k small (omega arith) le) (λ k ds large p le. digits_push 0 ds (48 + k % 10) ∙ ap (λ o. then o (λ m. digits_from m ((48 + k % 10) ∷ []))) (p (omega arith)) ∙ last_digit (k / 10) (k % 10) k (omega arith) (omega arith) le) n h

first_not_zero : (ds : List ℕ) (n : ℕ) → 48 < get_or ds 0 0 → digits_from 0 ds ≡ Some n → number_in ds ≡ Some n
first_not_zero [] n h e = absurd (omega arith)
first_not_zero (b ∷ bs) n h e = grind (arith, nat_tests)

-- a number that is written reads back
pub number_decimal : (n : ℕ) → n ≤ most → number_in (decimal n) ≡ Some n
number_decimal n le =
    let small : n < 2 ^ 64 = omega arith in
    let case : (b : Bool) → eqb n 0 ≡ b → number_in (decimal n) ≡ Some n = λ b. elim b as (λ b. eqb n 0 ≡ b → number_in (decimal n) ≡ Some n) [
      | true ↦ λ e. let z : n ≡ 0 = grind (arith, nat_tests) in subst (λ k. number_in (decimal k) ≡ Some k) (sym z) (ap number_in (decimal_digit 0 (omega arith)))
      | false ↦ λ e. let some : 0 < n = grind (arith, nat_tests) in first_not_zero (decimal n) n (first_decimal n some small) (digits_decimal n small le)
    ] in
    case (eqb n 0) refl

pub number_then_decimal : (n : ℕ) (rest : List ℕ) → n ≤ most → number_then (decimal n ++ 9 ∷ rest) ≡ Some (n, rest)
number_then_decimal n rest le = rw (cut_free 9 (decimal n) rest (free_decimal 9 n (omega arith) (omega arith)), number_decimal n le)

no_minus : (ds : List ℕ) (n : ℕ) → Free 45 ds → number_in ds ≡ Some n → signed_in ds ≡ Some (pos n)
no_minus [] n f e = cc
no_minus (b ∷ bs) n f e = grind (arith, nat_tests)

-- a signed number that is written reads back
pub signed_back : (z : ℤ) → mag z < 2 ^ 63 → signed_in (signed_decimal z) ≡ Some z
signed_back (pos n) h = no_minus (decimal n) n (free_decimal 45 n (omega arith) (omega arith)) (number_decimal n (omega arith))
signed_back (negsuc n) h = rw (number_decimal (suc n) (omega arith), ne_eqb (suc n) 0 (λ e. omega arith))
