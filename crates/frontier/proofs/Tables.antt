-- Lent tables: parts that stay, and lists that the first entries read as.
use Rattle.std.proofs.Common.{◌≡◌, ℕ, ◌+◌, ◌-◌, ◌<◌, ◌≤◌, Bool, true, false, leb, ◌⊎◌, List, [], ◌∷◌, length, take, drop, Some, None, sym, refl, ap, ◌∙◌, ⊎_elim, arith}
use Rattle.std.proofs.lemmas.List.{length-map, length-take-le, drop-drop}
use Rattle.std.proofs.lemmas.Bool.{le-leb, lt-leb, leb-true, and_from, and_left, and_right, and_parts}
use Rattle.questions.specs.Questions.{first_no}
use Rattle.questions.proofs.Asking.{ask_next, ask_here, asked_all}
use Rattle.frontier.specs.Tables.{in_use, sized, table_asks}

-- `&s[0..n]` is `take (n - 0) s`
pub sub_zero : (n : ℕ) → n - 0 ≡ n
sub_zero n = omega arith

-- two tables that agree from a place on agree from any later place on
pub drop_on : {X : Type 0} (xs ys : List X) (n m : ℕ) → n ≤ m → drop n ys ≡ drop n xs → drop m ys ≡ drop m xs
drop_on xs ys n m h e =
    let k : n + (m - n) ≡ m = omega arith in
    sym (ap (λ i. drop i ys) k) ∙ sym (drop-drop (m - n) n ys) ∙ ap (drop (m - n)) e ∙ drop-drop (m - n) n xs ∙ ap (λ i. drop i xs) k

-- as many entries are in use as are told
pub length_in_use : {X A : Type 0} (value : X → A) (n : ℕ) (xs : List X) → n ≤ length xs → length (in_use value n xs) ≡ n
length_in_use value n xs h = length-map (take n xs) value ∙ length-take-le n xs h

module _ (size used n : ℕ) where
  pub sized_yes : used ≤ size → size ≤ n → sized size used n ≡ true
  sized_yes h k = and_from (leb used size) (leb size n) (le-leb used size h) (le-leb size n k)

  pub sized_no : (size < used) ⊎ ((used ≤ size) × (n < size)) → sized size used n ≡ false
  sized_no = ⊎_elim (λ h. and_left (leb used size) (leb size n) (lt-leb used size h)) (λ h. and_right (leb used size) (leb size n) (lt-leb size n h.1))

  pub sized_tells : sized size used n ≡ true → (used ≤ size) × (size ≤ n)
  sized_tells e = let both = and_parts (leb used size) (leb size n) e in (leb-true used size both.0, leb-true size n both.1)

only : (few : Bool) (number m : ℕ) → first_no ((few, number) ∷ []) ≡ Some m → (few ≡ false) × (m ≡ number)
only true number m e = let z : ◌≡◌ {A = ℕ} 0 1 = cc in absurd (omega arith)
only false number m e = (refl, cc)

-- what a call on a table answers, and what it tells
module _ (size number n used : ℕ) (few : Bool) where
  pub table_short : (size < used) ⊎ ((used ≤ size) × (n < size)) → first_no (table_asks size number n used few) ≡ Some 1
  table_short h = ask_here (sized size used n) 1 ((few, number) ∷ []) (sized_no size used n h)

  module _ (within : used ≤ size) (long : size ≤ n) where
    on : first_no (table_asks size number n used few) ≡ first_no ((few, number) ∷ [])
    on = ask_next (sized size used n) 1 ((few, number) ∷ []) (sized_yes size used n within long)

    pub table_fits : few ≡ true → first_no (table_asks size number n used few) ≡ None
    table_fits e = on ∙ ask_next few number [] e

    pub table_full : few ≡ false → first_no (table_asks size number n used few) ≡ Some number
    table_full e = on ∙ ask_here few number [] e

    -- a call on a table that is long enough was refused since the table is full
    pub refused_full : (m : ℕ) → first_no (table_asks size number n used few) ≡ Some m → (few ≡ false) × (m ≡ number)
    refused_full m e = only few number m (sym on ∙ e)

  pub accepted : first_no (table_asks size number n used few) ≡ None → (used ≤ size) × (size ≤ n) × (few ≡ true)
  accepted e =
      let first = asked_all (sized size used n) 1 ((few, number) ∷ []) e in
      let told = sized_tells size used n first.0 in
      (told.0, told.1, (asked_all few number [] first.1).0)
