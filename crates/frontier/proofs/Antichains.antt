-- Frontiers by the times that they hold: when two are equal, and that inserting keeps a frontier.
use Rattle.std.proofs.Common.{◌≡◌, Bool, not, ◌&&◌, T, List, [], ◌∷◌, ◌++◌, sym, ◌∙◌, subst, ⊎_elim}
use Rattle.lattice.specs.Orders.{Order, at_once}
use Rattle.lattice.proofs.Tests.{or_left, or_right, or_cases, and_intro, and_left, and_right, not_both, not_or_left, not_or_right, cond_both, iff_≡}
use Rattle.frontier.specs.Frontiers.{beyond, leq, without, inserted, inserted_all, meet, pairwise, join, holds, within, equal, Apart, Antichain}
use Rattle.frontier.proofs.Beyond.{below_refl, below_trans, below_antisym, leq_from, leq_beyond}

module _ {A : Type 0} {below : A → A → Bool} (order : Order below) where
  -- two times at or before each other are one
  pub same_is : (x y : A) → T (at_once below x y) → x ≡ y
  same_is x y h = order.antisymmetric x y (and_left (below x y) (below y x) h) (and_right (below x y) (below y x) h)

  pub is_same : (x : A) → T (at_once below x x)
  is_same x = and_intro (below x x) (below x x) (order.reflexive x) (order.reflexive x)

  pub holds_beyond : (xs : List A) (x z : A) → T (holds below xs x) → T (below x z) → T (beyond below xs z)
  holds_beyond [] x z h k = h
  holds_beyond (e ∷ es) x z h k =
      ⊎_elim (λ p. or_left (below e z) (beyond below es z) (subst (λ v. T (below v z)) (sym (same_is e x p)) k)) (λ p. or_right (below e z) (beyond below es z) (holds_beyond es x z p k)) (or_cases (at_once below e x) (holds below es x) h)

  pub beyond_holds : (xs : List A) (z : A) → T (beyond below xs z) → (x : A) × (T (holds below xs x) × T (below x z))
  beyond_holds [] z h = absurd h
  beyond_holds (e ∷ es) z h =
      ⊎_elim (λ p. (e, (or_left (at_once below e e) (holds below es e) (is_same e), p)))
      (λ p. let m = beyond_holds es z p in (m.0, (or_right (at_once below e m.0) (holds below es m.0) m.1.0, m.1.1)))
      (or_cases (below e z) (beyond below es z) h)

  pub within_from : (xs ys : List A) → ((x : A) → T (holds below xs x) → T (holds below ys x)) → T (within below xs ys)
  within_from [] ys f = tt
  within_from (x ∷ xs) ys f =
      and_intro (holds below ys x) (within below xs ys) (f x (or_left (at_once below x x) (holds below xs x) (is_same x))) (within_from xs ys (λ y h. f y (or_right (at_once below x y) (holds below xs y) h)))

  pub within_holds : (xs ys : List A) (x : A) → T (within below xs ys) → T (holds below xs x) → T (holds below ys x)
  within_holds [] ys x h k = absurd k
  within_holds (e ∷ es) ys x h k =
      ⊎_elim (λ p. subst (λ v. T (holds below ys v)) (same_is e x p) (and_left (holds below ys e) (within below es ys) h)) (λ p. within_holds es ys x (and_right (holds below ys e) (within below es ys) h) p) (or_cases (at_once below e x) (holds below es x) k)

  pub within_geq : (xs ys : List A) → T (within below xs ys) → T (leq below ys xs)
  within_geq xs ys h = leq_from order ys xs (λ z b. let m = beyond_holds xs z b in holds_beyond ys m.0 z (within_holds xs ys m.0 h m.1.0) m.1.1)

  pub equal_geq : (xs ys : List A) → T (equal below xs ys) → T (leq below ys xs)
  equal_geq xs ys h = within_geq xs ys (and_left (within below xs ys) (within below ys xs) h)

  pub equal_leq : (xs ys : List A) → T (equal below xs ys) → T (leq below xs ys)
  equal_leq xs ys h = within_geq ys xs (and_right (within below xs ys) (within below ys xs) h)

  pub equal_refl : (xs : List A) → T (equal below xs xs)
  equal_refl xs = and_intro (within below xs xs) (within below xs xs) (within_from xs xs (λ x h. h)) (within_from xs xs (λ x h. h))

  pub equal_sym : (xs ys : List A) → T (equal below xs ys) → T (equal below ys xs)
  equal_sym xs ys h = and_intro (within below ys xs) (within below xs ys) (and_right (within below xs ys) (within below ys xs) h) (and_left (within below xs ys) (within below ys xs) h)

  -- two frontiers at or before each other have the same times beyond them
  pub both_leq_beyond : (xs ys : List A) (z : A) → T (leq below xs ys) → T (leq below ys xs) → beyond below xs z ≡ beyond below ys z
  both_leq_beyond xs ys z h k = iff_≡ (beyond below xs z) (beyond below ys z) (leq_beyond order ys xs z k) (leq_beyond order xs ys z h)

  pub equal_beyond : (xs ys : List A) (z : A) → T (equal below xs ys) → beyond below xs z ≡ beyond below ys z
  equal_beyond xs ys z h = both_leq_beyond xs ys z (equal_leq xs ys h) (equal_geq xs ys h)

  pub antichain_none : Antichain below []
  antichain_none = tt

  pub antichain_one : (x : A) → Antichain below (x ∷ [])
  antichain_one x = (tt, tt)

  pub apart_up : (y : A) (xs : List A) (x : A) → Apart below y xs → T (holds below xs x) → T (below y x) → ⊥
  apart_up y [] x a h k = h
  apart_up y (e ∷ es) x a h k =
      ⊎_elim (λ p. not_both (below y e) a.0.0 (subst (λ v. T (below y v)) (sym (same_is e x p)) k)) (λ p. apart_up y es x a.1 p k) (or_cases (at_once below e x) (holds below es x) h)

  pub apart_down : (y : A) (xs : List A) (x : A) → Apart below y xs → T (holds below xs x) → T (below x y) → ⊥
  apart_down y [] x a h k = h
  apart_down y (e ∷ es) x a h k =
      ⊎_elim (λ p. not_both (below e y) a.0.1 (subst (λ v. T (below v y)) (sym (same_is e x p)) k)) (λ p. apart_down y es x a.1 p k) (or_cases (at_once below e x) (holds below es x) h)

  -- two elements of an antichain that are ordered are one
  pub antichain_same : (xs : List A) (x y : A) → Antichain below xs → T (holds below xs x) → T (holds below xs y) → T (below x y) → x ≡ y
  antichain_same [] x y a h k l = absurd h
  antichain_same (e ∷ es) x y a h k l =
      ⊎_elim
      (λ p. ⊎_elim (λ q. sym (same_is e x p) ∙ same_is e y q) (λ q. absurd (apart_up e es y a.0 q (subst (λ v. T (below v y)) (sym (same_is e x p)) l))) (or_cases (at_once below e y) (holds below es y) k))
      (λ p. ⊎_elim (λ q. absurd (apart_down e es x a.0 p (subst (λ v. T (below x v)) (sym (same_is e y q)) l))) (λ q. antichain_same es x y a.1 p q l) (or_cases (at_once below e y) (holds below es y) k))
      (or_cases (at_once below e x) (holds below es x) h)

  within_by_leq : (xs ys : List A) → Antichain below xs → T (leq below xs ys) → T (leq below ys xs) → T (within below xs ys)
  within_by_leq xs ys a h k =
      within_from xs ys
      (λ x m.
      let p = beyond_holds ys x (leq_beyond order ys xs x k (holds_beyond xs x x m (below_refl order x))) in
      let q = beyond_holds xs p.0 (leq_beyond order xs ys p.0 h (holds_beyond ys p.0 p.0 p.1.0 (below_refl order p.0))) in
      let low = q.1.1 in
      let one : q.0 ≡ x = antichain_same xs q.0 x a q.1.0 m (below_trans order q.0 p.0 x low p.1.1) in
      let up : T (below x p.0) = subst (λ v. T (below v p.0)) one low in
      subst (λ v. T (holds below ys v)) (below_antisym order p.0 x p.1.1 up) p.1.0)

  pub equal_from : (xs ys : List A) → Antichain below xs → Antichain below ys → T (leq below xs ys) → T (leq below ys xs) → T (equal below xs ys)
  equal_from xs ys a b h k = and_intro (within below xs ys) (within below ys xs) (within_by_leq xs ys a h k) (within_by_leq ys xs b k h)

  apart_without : (y x : A) (es : List A) → Apart below y es → Apart below y (without below x es)
  apart_without y x [] a = tt
  apart_without y x (e ∷ es) a =
      cond_both (λ l. Apart below y l) (not (below x e)) (e ∷ without below x es) (without below x es) (λ _. (a.0, apart_without y x es a.1)) (λ _. apart_without y x es a.1)

  antichain_without : (x : A) (es : List A) → Antichain below es → Antichain below (without below x es)
  antichain_without x [] a = tt
  antichain_without x (e ∷ es) a =
      cond_both (λ l. Antichain below l) (not (below x e)) (e ∷ without below x es) (without below x es) (λ _. (apart_without e x es a.0, antichain_without x es a.1)) (λ _. antichain_without x es a.1)

  -- what is left stands apart from x, if x is behind the list
  apart_left : (x : A) (es : List A) → T (not (beyond below es x)) → Apart below x (without below x es)
  apart_left x [] h = tt
  apart_left x (e ∷ es) h =
      let r = not_or_right (below e x) (beyond below es x) h in
      cond_both (λ l. Apart below x l) (not (below x e)) (e ∷ without below x es) (without below x es) (λ q. ((q, not_or_left (below e x) (beyond below es x) h), apart_left x es r)) (λ _. apart_left x es r)

  apart_push : (y : A) (es : List A) (x : A) → Apart below y es → T (not (below y x)) → T (not (below x y)) → Apart below y (es ++ x ∷ [])
  apart_push y [] x a h k = ((h, k), tt)
  apart_push y (e ∷ es) x a h k = (a.0, apart_push y es x a.1 h k)

  antichain_push : (es : List A) (x : A) → Antichain below es → Apart below x es → Antichain below (es ++ x ∷ [])
  antichain_push [] x a b = (tt, tt)
  antichain_push (e ∷ es) x a b = (apart_push e es x a.0 b.0.1 b.0.0, antichain_push es x a.1 b.1)

  pub antichain_inserted : (es : List A) (x : A) → Antichain below es → Antichain below (inserted below es x)
  antichain_inserted es x a =
      cond_both (λ l. Antichain below l) (beyond below es x) es (without below x es ++ x ∷ []) (λ _. a) (λ q. antichain_push (without below x es) x (antichain_without x es a) (apart_left x es q))

  pub antichain_inserted_all : (es xs : List A) → Antichain below es → Antichain below (inserted_all below es xs)
  antichain_inserted_all es [] a = a
  antichain_inserted_all es (x ∷ xs) a = antichain_inserted_all (inserted below es x) xs (antichain_inserted es x a)

  -- two frontiers are equal exactly when each is at or before the other
  pub equal_by_order : (xs ys : List A) → Antichain below xs → Antichain below ys → equal below xs ys ≡ (leq below xs ys && leq below ys xs)
  equal_by_order xs ys a b =
      iff_≡ (equal below xs ys) (leq below xs ys && leq below ys xs)
      (λ h. and_intro (leq below xs ys) (leq below ys xs) (equal_leq xs ys h) (equal_geq xs ys h))
      (λ h. equal_from xs ys a b (and_left (leq below xs ys) (leq below ys xs) h) (and_right (leq below xs ys) (leq below ys xs) h))

  -- joins and meets of any lists are frontiers
  pub antichain_meet : (xs ys : List A) → Antichain below (meet below xs ys)
  antichain_meet xs ys = antichain_inserted_all [] (xs ++ ys) tt

  pub antichain_join : (joined : A → A → A) (xs ys : List A) → Antichain below (join below joined xs ys)
  antichain_join joined xs ys = antichain_inserted_all [] (pairwise joined xs ys) tt
