-- Numbers as bytes: base ten, no leading zeros.
use Rattle.std.specs.Prelude.{ℕ, ◌+◌, ◌-◌, ◌*◌, Bool, cond, ◌&&◌, List, [], ◌∷◌, Some, None, Option, ◌==◌, nat_le}

-- the largest unsigned 64-bit number
abbrev pub most : ℕ
most = 18446744073709551615

-- the byte is one of the digits 0 to 9
abbrev pub is_digit : ℕ → Bool
is_digit b = nat_le 48 b && nat_le b 57

-- a number with one digit more
abbrev pub longer : ℕ → ℕ → ℕ
longer n b = 10 * n + (b - 48)

-- digits that go on from n, and never pass 64 bits
abbrev pub digits_from : ℕ → List ℕ → Option ℕ
digits_from n [] = Some n
digits_from n (b ∷ bs) = cond (is_digit b && nat_le (longer n b) most) (digits_from (longer n b) bs) None

-- the only byte there is
abbrev pub alone : {X : Type 0} → X → List ℕ → Option X
alone x [] = Some x
alone x (b ∷ bs) = None

-- a number: digits, of which the first is 0 only where it stands alone
abbrev pub number_in : List ℕ → Option ℕ
number_in [] = None
number_in (b ∷ bs) = cond (b == 48) (alone 0 bs) (digits_from 0 (b ∷ bs))
