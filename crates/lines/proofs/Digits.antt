-- How digits are read, one after the other.
use Rattle.std.proofs.Common.{◌≡◌, ℕ, ◌+◌, ◌<◌, ◌≤◌, Bool, true, false, cond, ◌&&◌, leb, List, length, get_or, drop, Some, None, Option, refl, ◌∙◌, arith}
use Rattle.std.proofs.lemmas.List.{at_drop_more, at_drop_all}
use Rattle.std.proofs.lemmas.Bool.{cond-true, cond-false}
use Rattle.lines.specs.Numbers.{most, is_digit, longer, digits_from}

-- what a number with one digit more came to
pub within : (b : Bool) (x y : ℕ) → Some y ≡ cond b (Some x) None → (b ≡ true) × (y ≡ x)
within true x y e = (refl, cc)
within false x y e = let z : ◌≡◌ {A = ℕ} 0 1 = cc in absurd (omega arith)

pub past : (b : Bool) (x : ℕ) → ◌≡◌ {A = Option ℕ} None (cond b (Some x) None) → b ≡ false
past true x e = let z : ◌≡◌ {A = ℕ} 0 1 = cc in absurd (omega arith)
past false x e = refl

module _ (field : List ℕ) (i n : ℕ) (so_far : digits_from 0 field ≡ digits_from n (drop i field)) where
  module _ (h : i < length field) where
    pub digit_on : (is_digit (get_or field i 0) && leb (longer n (get_or field i 0)) most) ≡ true → digits_from 0 field ≡ digits_from (longer n (get_or field i 0)) (drop (i + 1) field)
    digit_on e = so_far ∙ at_drop_more (digits_from n) field i 0 h ∙ cond-true _ _ _ e

    pub digit_none : (is_digit (get_or field i 0) && leb (longer n (get_or field i 0)) most) ≡ false → digits_from 0 field ≡ None
    digit_none e = so_far ∙ at_drop_more (digits_from n) field i 0 h ∙ cond-false _ _ _ e

  pub digit_end : length field ≤ i → digits_from 0 field ≡ Some n
  digit_end h = so_far ∙ at_drop_all (digits_from n) field i h
