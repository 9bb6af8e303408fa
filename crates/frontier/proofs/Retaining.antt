-- A loop that calls a test at each entry, and moves those that it keeps to the front.
use Rattle.std.proofs.Common.{◌≡◌, ℕ, ◌+◌, ◌<◌, ◌≤◌, Bool, true, false, List, [], ◌∷◌, ◌++◌, map, length, get_or, take, drop, set, filter, sym, refl, ap, ◌∙◌, subst, arith}
use Rattle.std.specs.List.{items_where_true}
use Rattle.std.specs.List.Retain.{ReturnsInTurn, IsFiltered}
use Rattle.std.proofs.Retain.{RetainInvariant, retain_drops, retain_unvisited, picked_push_true, answers_push}
use Rattle.std.proofs.lemmas.List.{take_more_set, drop-set-lt, set-get_or, length-set, length_push, length-take-le, length-map}
use Rattle.frontier.specs.Tables.{in_use, Holds}
use Rattle.frontier.proofs.Inserting.{kept_map}

-- the entries that answers pick lie among the first as many
picked_of : {X : Type 0} (bs : List Bool) (xs : List X) → items_where_true bs (take (length bs) xs) ≡ items_where_true bs xs
picked_of [] [] = refl
picked_of [] (x ∷ xs) = refl
picked_of (b ∷ bs) [] = refl
picked_of (true ∷ bs) (x ∷ xs) = ap (λ l. x ∷ l) (picked_of bs xs)
picked_of (false ∷ bs) (x ∷ xs) = picked_of bs xs

module _ {X P : Type 0} (R : P → X → Bool → P → Type 0) where
  answered_of : (bs : List Bool) (p : P) (xs : List X) (q : P) → ReturnsInTurn R p bs xs q → ReturnsInTurn R p bs (take (length bs) xs) q
  answered_of [] p [] q h = h
  answered_of [] p (x ∷ xs) q h = h
  answered_of (b ∷ bs) p [] q h = absurd h
  answered_of (b ∷ bs) p (x ∷ xs) q h = (h.0, h.1, answered_of bs h.0 xs q h.2)

  -- ys began as xs: the test was asked of the first i entries, and the first k of ys are those that it kept
  pub record Retains (p : P) (xs : List X) (q : P) (ys : List X) (k i : ℕ) : Type 0 where
    pub told : List Bool
    pub answers : ReturnsInTurn R p told xs q
    pub picked : RetainInvariant told xs ys k i
    pub behind : k ≤ i
    pub within : i ≤ length xs
    pub long : length ys ≡ length xs

  module _ (p : P) (xs : List X) where
    pub retains_none : Retains p xs p xs 0 0
    retains_none = record { told = []; answers = refl; picked = (refl, (none xs, refl)); behind = omega arith; within = omega arith; long = refl }
      where
        none : (zs : List X) → ◌≡◌ {A = List X} (take 0 zs) (items_where_true [] zs)
        none [] = refl
        none (z ∷ zs) = refl

    module _ (q u : P) (ys : List X) (k i : ℕ) (x : X) (h : Retains p xs q ys k i) (at : i < length ys) (is : x ≡ get_or ys i x) where
      stands : x ≡ get_or xs (length h.told) x
      stands = is ∙ retain_unvisited h.told xs ys k i x h.picked

      called : {b : Bool} → R q (get_or ys i x) b u → R q x b u
      called {b} r = subst (λ v. R q v b u) (sym is) r

      pub retains_no : R q (get_or ys i x) false u → Retains p xs u ys k (i + 1)
      retains_no r = record {
        told = h.told ++ false ∷ [];
        answers = answers_push R p q u h.told xs x false (omega (arith, h.picked.0, h.long)) stands h.answers (called r);
        picked = retain_drops h.told xs ys k i h.picked;
        behind = omega (arith, h.behind);
        within = omega (arith, h.long);
        long = h.long;
      }

      pub retains_yes : R q (get_or ys i x) true u → Retains p xs u (set ys k x) (k + 1) (i + 1)
      retains_yes r = record {
        told = h.told ++ true ∷ [];
        answers = answers_push R p q u h.told xs x true (omega (arith, h.picked.0, h.long)) stands h.answers (called r);
        picked = (
          length_push h.told true ∙ ap (λ j. j + 1) h.picked.0,
          (
            take_more_set ys k x (omega (arith, h.behind)) ∙ ap (λ l. l ++ x ∷ []) h.picked.1.0 ∙ ap (λ y. items_where_true h.told xs ++ y ∷ []) stands ∙ sym (picked_push_true h.told xs x (omega (arith, h.picked.0, h.long))),
            drop-set-lt (i + 1) ys k x (omega (arith, h.behind)) ∙ (retain_drops h.told xs ys k i h.picked).1.1,
          ),
        );
        behind = omega (arith, h.behind);
        within = omega (arith, h.long);
        long = length-set ys k x ∙ h.long;
      }

      -- nothing was dropped yet, and nothing is written
      pub retains_here : R q (get_or ys i x) true u → i ≤ k → Retains p xs u ys (k + 1) (i + 1)
      retains_here r e =
          let here : i ≡ k = omega (arith, h.behind) in
          subst (λ zs. Retains p xs u zs (k + 1) (i + 1)) (ap (set ys k) (is ∙ ap (λ j. get_or ys j x) here) ∙ set-get_or ys k x) (retains_yes r)

    pub retains_all : (q : P) (ys : List X) (k i len : ℕ) → i ≡ len → Retains p xs q ys k i → (k ≤ len) × IsFiltered R p (take len xs) (take k ys) × (drop len ys ≡ drop len xs)
    retains_all q ys k i len end h =
        let n : length h.told ≡ len = h.picked.0 ∙ end in (
          omega (arith, h.behind),
          (h.told, q, n ∙ sym (length-take-le len xs (omega (arith, h.within))), subst (λ m. ReturnsInTurn R p h.told (take m xs) q) n (answered_of h.told p xs q h.answers), h.picked.1.0 ∙ sym (picked_of h.told xs) ∙ ap (λ m. items_where_true h.told (take m xs)) n),
          subst (λ m. drop m ys ≡ drop m xs) end h.picked.1.1,
        )

-- what is kept by a test of what entries read as
module _ {X A : Type 0} (p : A → Bool) (value : X → A) where
  pub kept_reads : (xs ys : List X) (k len : ℕ) → k ≤ len → len ≤ length xs → length ys ≡ length xs → take k ys ≡ filter (λ x. p (value x)) (take len xs) → Holds value k ys (filter p (in_use value len xs))
  kept_reads xs ys k len h within long e =
      let reads : in_use value k ys ≡ filter p (in_use value len xs) = ap (map value) e ∙ kept_map p value (take len xs) in
      (reads, ap length (sym reads) ∙ length-map (take k ys) value ∙ length-take-le k ys (omega arith))
