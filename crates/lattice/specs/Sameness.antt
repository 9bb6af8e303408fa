-- What data and amounts show: a test that says yes exactly for equal values.
use Rattle.std.specs.Prelude.{◌≡◌, Bool, false, T, ℤ, pos, negsuc, ◌==◌}

-- the test says yes for equal values, and for no others
pub record Exact {A : Type 0} (alike : A → A → Bool) : Type 0 where
  pub equal : (x y : A) → T (alike x y) → x ≡ y
  pub itself : (x : A) → T (alike x x)

-- whether two signed numbers are equal
abbrev pub eqb_signed : ℤ → ℤ → Bool
eqb_signed (pos m) (pos n) = m == n
eqb_signed (pos m) (negsuc n) = false
eqb_signed (negsuc m) (pos n) = false
eqb_signed (negsuc m) (negsuc n) = m == n
