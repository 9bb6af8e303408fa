-- A table that is filled item by item, with room for so many entries: how the filling goes on, stops and ends.
use Rattle.std.proofs.Common.{◌≡◌, ℕ, ◌≤◌, Bool, true, false, ◌&&◌, leb, List, [], ◌∷◌, ◌++◌, map, length, take, ℤ, Some, None, sym, refl, ap, ◌∙◌, arith}
use Rattle.std.proofs.lemmas.Bool.{and_left, and_parts, leb-true}
use Rattle.questions.specs.Questions.{first_no}
use Rattle.frontier.specs.Frontiers.{inserted, inserted_all, fits}
use Rattle.frontier.specs.Counts.{added, added_all, room}
use Rattle.frontier.specs.Tables.{in_use, Holds, frontier_size, table_asks, frontier_asks}
use Rattle.frontier.proofs.Tables.{length_in_use, accepted, refused_full, table_fits, table_full}

-- a list of S that takes in items of E one by one, and is to have at most n entries after each, as a question asks by its number
pub record Fold (S E : Type 0) (n number : ℕ) : Type 0 where
  pub step : List S → E → List S
  pub all : List S → List E → List S
  pub fit : List S → List E → Bool
  pub all_none : (es : List S) → all es [] ≡ es
  pub all_more : (es : List S) (x : E) (xs : List E) → all es (x ∷ xs) ≡ all (step es x) xs
  pub fit_none : (es : List S) → fit es [] ≡ true
  pub fit_more : (es : List S) (x : E) (xs : List E) → fit es (x ∷ xs) ≡ (leb (length (step es x)) n && fit (step es x) xs)

-- times inserted into a frontier
abbrev pub inserting : {A : Type 0} → (A → A → Bool) → Fold A A frontier_size 12
inserting below = record { step = inserted below; all = inserted_all below; fit = fits below frontier_size; all_none = λ _. refl; all_more = λ _ _ _. refl; fit_none = λ _. refl; fit_more = λ _ _ _. refl }

-- amounts added to counts
abbrev pub adding : {A : Type 0} → (A → A → Bool) → (n : ℕ) → Fold (A × ℤ) (A × ℤ) n 11
adding below n = record { step = λ es c. added below es c.0 c.1; all = added_all below; fit = room below n; all_none = λ _. refl; all_more = λ _ _ _. refl; fit_none = λ _. refl; fit_more = λ _ _ _. refl }

regroup : (a b c : Bool) → (a && (b && c)) ≡ ((a && b) && c)
regroup true b c = refl
regroup false b c = refl

module _ {S E : Type 0} {n number : ℕ} (k : Fold S E n number) where
  pub all_append : (es : List S) (xs ys : List E) → k.all es (xs ++ ys) ≡ k.all (k.all es xs) ys
  all_append es [] ys = ap (λ s. k.all s ys) (sym (k.all_none es))
  all_append es (x ∷ xs) ys = k.all_more es x (xs ++ ys) ∙ all_append (k.step es x) xs ys ∙ ap (λ s. k.all s ys) (sym (k.all_more es x xs))

  pub fit_append : (es : List S) (xs ys : List E) → k.fit es (xs ++ ys) ≡ (k.fit es xs && k.fit (k.all es xs) ys)
  fit_append es [] ys = sym (ap (λ b. b && k.fit (k.all es []) ys) (k.fit_none es) ∙ ap (λ s. k.fit s ys) (k.all_none es))
  fit_append es (x ∷ xs) ys =
      k.fit_more es x (xs ++ ys)
      ∙ ap (λ b. leb (length (k.step es x)) n && b) (fit_append (k.step es x) xs ys)
      ∙ regroup (leb (length (k.step es x)) n) (k.fit (k.step es x) xs) (k.fit (k.all (k.step es x) xs) ys)
      ∙ ap (λ b. b && k.fit (k.all (k.step es x) xs) ys) (sym (k.fit_more es x xs))
      ∙ ap (λ s. k.fit es (x ∷ xs) && k.fit s ys) (sym (k.all_more es x xs))

  -- a list that stayed within its size has at most that many entries
  pub fit_length : (es : List S) (xs : List E) → length es ≤ n → k.fit es xs ≡ true → length (k.all es xs) ≤ n
  fit_length es [] h e = omega (arith, ap length (k.all_none es))
  fit_length es (x ∷ xs) h e =
      let both = and_parts (leb (length (k.step es x)) n) (k.fit (k.step es x) xs) (sym (k.fit_more es x xs) ∙ e) in
      omega (arith, ap length (k.all_more es x xs), fit_length (k.step es x) xs (leb-true (length (k.step es x)) n both.0) both.1)

  pub all_one : (es : List S) (x : E) → k.step es x ≡ k.all es (x ∷ [])
  all_one es x = sym (k.all_more es x [] ∙ k.all_none (k.step es x))

-- a frontier made from nothing, and copied from the table in which it was made
module _ {X A : Type 0} (below : A → A → Bool) (value : X → A) (all : List A) (n : ℕ) (xs : List X) (made : Holds value n xs (inserted_all below [] all)) where
  pub made_few : (l : ℕ) → first_no (frontier_asks l 0 (fits below frontier_size [] all)) ≡ None → n ≤ frontier_size
  made_few l e = omega (arith, made.1, fit_length (inserting below) [] all (omega arith) (accepted frontier_size 12 l 0 (fits below frontier_size [] all) e).2)

  pub made_copied : (ys : List X) → take n ys ≡ take n xs → Holds value n ys (inserted_all below [] all)
  made_copied ys e = (ap (map value) e ∙ made.0, made.1)

-- taking all of xs into the start comes to the front, and on the way there never were too many
pub record Filled {S E : Type 0} {n number : ℕ} (k : Fold S E n number) (start : List S) (xs : List E) (front : List S) : Type 0 where
  pub made : k.all start xs ≡ front
  pub room : k.fit start xs ≡ true

module _ {S E : Type 0} {n number : ℕ} (k : Fold S E n number) where
  pub filled_none : (start : List S) → Filled k start [] start
  filled_none start = record { made = k.all_none start; room = k.fit_none start }

  -- a table of which used entries are in use, so far
  module _ {X : Type 0} (value : X → S) (start : List S) (xs : List E) (used : ℕ) (table : List X) (few : used ≤ n) (long : n ≤ length table) (so_far : Filled k start xs (in_use value used table)) (x : E) where
    abbrev pub asks_one : List (Bool × ℕ)
    asks_one = table_asks n number (length table) used (leb (length (k.step (in_use value used table) x)) n)

    first_fits : (rest : List E) → k.fit start (xs ++ x ∷ rest) ≡ (leb (length (k.step (in_use value used table) x)) n && k.fit (k.step (in_use value used table) x) rest)
    first_fits rest =
        fit_append k start xs (x ∷ rest)
        ∙ ap (λ b. b && k.fit (k.all start xs) (x ∷ rest)) so_far.room
        ∙ ap (λ es. k.fit es (x ∷ rest)) so_far.made
        ∙ k.fit_more (in_use value used table) x rest

    pub filled_more : (m : ℕ) (ys : List X) → first_no asks_one ≡ None → Holds value m ys (k.step (in_use value used table) x) → (m ≤ n) × Filled k start (xs ++ x ∷ []) (in_use value m ys)
    filled_more m ys e made =
        let front = in_use value used table in
        let fit : leb (length (k.step front x)) n ≡ true = (accepted n number (length table) used (leb (length (k.step front x)) n) e).2 in (
          omega (arith, made.1, leb-true (length (k.step front x)) n fit),
          record {
            made = all_append k start xs (x ∷ []) ∙ ap (λ es. k.all es (x ∷ [])) so_far.made ∙ sym (all_one k front x) ∙ sym made.0;
            room = first_fits [] ∙ ap (λ b. b && k.fit (k.step front x) []) fit ∙ k.fit_none (k.step front x);
          },
        )

    pub filled_stop : (f : ℕ) → first_no asks_one ≡ Some f → (rest : List E) (l len : ℕ) → len ≤ n → n ≤ l → first_no (table_asks n number l len (k.fit start (xs ++ x ∷ rest))) ≡ Some f
    filled_stop f e rest l len h j =
        let front = in_use value used table in
        let many = refused_full n number (length table) used (leb (length (k.step front x)) n) few long f e in
        table_full n number l len (k.fit start (xs ++ x ∷ rest)) h j (first_fits rest ∙ and_left (leb (length (k.step front x)) n) (k.fit (k.step front x) rest) many.0) ∙ ap Some (sym many.1)

  pub filled_all : {X : Type 0} (value : X → S) (start : List S) (xs : List E) (used : ℕ) (table : List X) → used ≤ length table → Filled k start xs (in_use value used table) → (l len : ℕ) → len ≤ n → n ≤ l → (first_no (table_asks n number l len (k.fit start xs)) ≡ None) × Holds value used table (k.all start xs)
  filled_all value start xs used table long f l len h j = (table_fits n number l len (k.fit start xs) h j f.room, (sym f.made, ap length f.made ∙ length_in_use value used table long))
