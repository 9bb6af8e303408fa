-- Lists of changes: which stand in them, how often, and how many at a time.
-- `many-at-subset` and `many-at-full` ask of the smaller list alone that no change stands twice in it.
use Rattle.std.proofs.Common.{◌≡◌, ℕ, suc, ◌+◌, ◌≤◌, Bool, true, false, cond, not, ◌&&◌, ◌||◌, T, ◌⊎◌, List, [], ◌∷◌, ◌++◌, length, pos, negsuc, ◌+ℤ◌, neg_ℤ, filter, sym, refl, ap, ◌∙◌, subst, inl, inr, ⊎_elim, arith}
use mathlib.Core.Bool.{or_assoc}
use borrow.Author.Differences.{ints}
use Rattle.std.specs.List.{list_all}
use Rattle.lattice.proofs.Tests.{T_along, T_back, T_≡false, T_≡true, and_intro, and_left, and_right, by_cases, cond_both, cond_false, cond_true, iff_≡, not_both, not_from, not_or_left, not_or_right, or_cases, or_left, or_right}
use Rattle.lattice.specs.Orders.{Order, at_once}
use Rattle.frontier.proofs.Antichains.{is_same, same_is}
use Rattle.frontier.specs.Frontiers.{beyond}
use Rattle.capture.specs.Kinds.{Kinds}
use Rattle.capture.specs.Law.{how_often, one_each}
use Rattle.capture.specs.Messages.{Change, alike, coincide, fresh, has}
use Rattle.capture.specs.Sender.{raised}
use Rattle.capture.specs.Statements.{lowered}
use Rattle.capture.proofs.Counts.{size_at, sum_at}
use Rattle.capture.proofs.Laws.{Lawful}

pub count_yes : (b : Bool) → T b → ◌≡◌ {A = ℕ} (cond b 1 0) 1
count_yes b h = cond_true b 1 0 h

pub count_no : (b : Bool) → T (not b) → ◌≡◌ {A = ℕ} (cond b 1 0) 0
count_no b h = cond_false b 1 0 h

drop_case : (a h n : Bool) → (T a → T (not n)) → (h && n) ≡ ((a || h) && n)
drop_case true true true k = absurd (k tt)
drop_case true true false k = refl
drop_case true false true k = absurd (k tt)
drop_case true false false k = refl
drop_case false h n k = refl

keep_case : (a h n : Bool) → (T a → T n) → (a || (h && n)) ≡ ((a || h) && n)
keep_case true h true k = refl
keep_case true h false k = absurd (k tt)
keep_case false h n k = refl

skip_one : (b a : Bool) (n : ℕ) → (T a → T (not b)) → cond b n 0 ≡ cond b (cond a 1 0 + n) 0
skip_one false a n k = refl
skip_one true true n k = absurd (k tt)
skip_one true false n k = omega arith

keep_one : (b a : Bool) (n : ℕ) → (T a → T b) → cond a 1 0 + cond b n 0 ≡ cond b (cond a 1 0 + n) 0
keep_one false true n k = absurd (k tt)
keep_one false false n k = refl
keep_one true a n k = refl

lower_one : (b : Bool) (n : ℕ) → cond b (negsuc 0) (pos 0) +ℤ neg_ℤ (pos n) ≡ neg_ℤ (pos (cond b 1 0 + n))
lower_one true n = omega (arith, ints)
lower_one false n = omega (arith, ints)

raise_one : (b : Bool) (n : ℕ) → cond b (pos 1) (pos 0) +ℤ pos n ≡ pos (cond b 1 0 + n)
raise_one true n = omega (arith, ints)
raise_one false n = omega (arith, ints)

module _ {D A R : Type 0} (K : Kinds D A R) where
  -- no change stands twice
  abbrev pub Once : List (Change D A R) → Type 0
  Once cs = (c : Change D A R) → how_often K c cs ≤ 1

  -- the change is beyond f, and does not stand in us
  abbrev pub new_to : List A → List (Change D A R) → Change D A R → Bool
  new_to f us c = beyond K.time.below f c.time && not (has K us c)

  -- each change of the first list at the time y stands in the second
  abbrev pub InsideAt : A → List (Change D A R) → List (Change D A R) → Type 0
  InsideAt y cs us = (c : Change D A R) → T (at_once K.time.below c.time y) → T (has K cs c) → T (has K us c)

  -- the list without the first change like e
  abbrev removed : Change D A R → List (Change D A R) → List (Change D A R)
  removed e [] = []
  removed e (u ∷ us) = cond (alike K u e) us (u ∷ removed e us)

-- how many changes of the list are at the time y
abbrev pub many_at : {D A R : Type 0} → (A → A → Bool) → A → List (Change D A R) → ℕ
many_at below y [] = 0
many_at below y (c ∷ cs) = cond (at_once below c.time y) 1 0 + many_at below y cs

module _ {D A R : Type 0} {K : Kinds D A R} (ok : Lawful K) where
  abbrev below : A → A → Bool
  below = K.time.below

  order : Order below
  order = ok.order

  pub alike_is : (x y : Change D A R) → T (alike K x y) → x ≡ y
  alike_is x y h =
      let a = K.same_data x.what y.what in
      let b = at_once below x.time y.time in
      let c = K.same_amount x.amount y.amount in
      let p : x.what ≡ y.what = ok.data_same.equal x.what y.what (and_left a b (and_left (a && b) c h)) in
      let q : x.time ≡ y.time = same_is order x.time y.time (and_right a b (and_left (a && b) c h)) in
      let s : x.amount ≡ y.amount = ok.amounts_same.equal x.amount y.amount (and_right (a && b) c h) in
      λ i. record { what = p i; time = q i; amount = s i }

  pub is_alike : (x : Change D A R) → T (alike K x x)
  is_alike x =
      let a = K.same_data x.what x.what in
      let b = at_once below x.time x.time in
      and_intro (a && b) (K.same_amount x.amount x.amount) (and_intro a b (ok.data_same.itself x.what) (is_same order x.time)) (ok.amounts_same.itself x.amount)

  pub has_append : (xs ys : List (Change D A R)) (c : Change D A R) → has K (xs ++ ys) c ≡ (has K xs c || has K ys c)
  has_append [] ys c = refl
  has_append (x ∷ xs) ys c = ap (λ b. alike K x c || b) (has_append xs ys c) ∙ sym (or_assoc (alike K x c) (has K xs c) (has K ys c))

  pub has_append_left : (xs ys : List (Change D A R)) (c : Change D A R) → T (has K xs c) → T (has K (xs ++ ys) c)
  has_append_left xs ys c h = T_back (has K (xs ++ ys) c) (has K xs c || has K ys c) (has_append xs ys c) (or_left (has K xs c) (has K ys c) h)

  pub has_append_right : (xs ys : List (Change D A R)) (c : Change D A R) → T (has K ys c) → T (has K (xs ++ ys) c)
  has_append_right xs ys c h = T_back (has K (xs ++ ys) c) (has K xs c || has K ys c) (has_append xs ys c) (or_right (has K xs c) (has K ys c) h)

  pub has_append_cases : (xs ys : List (Change D A R)) (c : Change D A R) → T (has K (xs ++ ys) c) → T (has K xs c) ⊎ T (has K ys c)
  has_append_cases xs ys c h = or_cases (has K xs c) (has K ys c) (T_along (has K (xs ++ ys) c) (has K xs c || has K ys c) (has_append xs ys c) h)

  pub has_kept : (p : Change D A R → Bool) (cs : List (Change D A R)) (c : Change D A R) → has K (filter p cs) c ≡ (has K cs c && p c)
  has_kept p [] c = refl
  has_kept p (e ∷ es) c =
      cond_both (λ l. has K l c ≡ ((alike K e c || has K es c) && p c)) (p e) (e ∷ filter p es) (filter p es)
      (λ q. ap (λ b. alike K e c || b) (has_kept p es c) ∙ keep_case (alike K e c) (has K es c) (p c) (λ s. subst (λ v. T (p v)) (alike_is e c s) q))
      (λ q. has_kept p es c ∙ drop_case (alike K e c) (has K es c) (p c) (λ s. subst (λ v. T (not (p v))) (alike_is e c s) q))

  pub how_often_append : (c : Change D A R) (xs ys : List (Change D A R)) → how_often K c (xs ++ ys) ≡ how_often K c xs + how_often K c ys
  how_often_append c [] ys = omega arith
  how_often_append c (x ∷ xs) ys = let ih = how_often_append c xs ys in omega arith

  pub how_often_none : (c : Change D A R) (cs : List (Change D A R)) → T (not (has K cs c)) → how_often K c cs ≡ 0
  how_often_none c [] h = refl
  how_often_none c (e ∷ es) h =
      let ih = how_often_none c es (not_or_right (alike K e c) (has K es c) h) in
      let z = count_no (alike K e c) (not_or_left (alike K e c) (has K es c) h) in
      omega arith

  pub how_often_some : (c : Change D A R) (cs : List (Change D A R)) → T (has K cs c) → 1 ≤ how_often K c cs
  how_often_some c [] h = absurd h
  how_often_some c (e ∷ es) h =
      ⊎_elim (λ p. let z = count_yes (alike K e c) p in omega arith) (λ p. let ih = how_often_some c es p in omega arith) (or_cases (alike K e c) (has K es c) h)

  pub has_from_how_often : (c : Change D A R) (cs : List (Change D A R)) → 1 ≤ how_often K c cs → T (has K cs c)
  has_from_how_often c cs h = by_cases (has K cs c) (λ p. p) (λ p. let z = how_often_none c cs p in absurd (omega arith))

  pub how_often_once : (c : Change D A R) (cs : List (Change D A R)) → Once K cs → how_often K c cs ≡ cond (has K cs c) 1 0
  how_often_once c cs o =
      by_cases (has K cs c)
      (λ p. let a = how_often_some c cs p in let b = o c in let z = count_yes (has K cs c) p in omega arith)
      (λ p. how_often_none c cs p ∙ sym (cond_false (has K cs c) 1 0 p))

  pub how_often_kept : (p : Change D A R → Bool) (c : Change D A R) (cs : List (Change D A R)) → how_often K c (filter p cs) ≡ cond (p c) (how_often K c cs) 0
  how_often_kept p c [] = cond_both (λ v. 0 ≡ v) (p c) 0 0 (λ _. refl) (λ _. refl)
  how_often_kept p c (e ∷ es) =
      let n = how_often K c es in
      cond_both (λ l. how_often K c l ≡ cond (p c) (cond (alike K e c) 1 0 + n) 0) (p e) (e ∷ filter p es) (filter p es)
      (λ q. ap (λ v. cond (alike K e c) 1 0 + v) (how_often_kept p c es) ∙ keep_one (p c) (alike K e c) n (λ s. subst (λ v. T (p v)) (alike_is e c s) q))
      (λ q. how_often_kept p c es ∙ skip_one (p c) (alike K e c) n (λ s. subst (λ v. T (not (p v))) (alike_is e c s) q))

  pub once_append : (xs ys : List (Change D A R)) → Once K xs → Once K ys → ((c : Change D A R) → T (has K ys c) → T (not (has K xs c))) → Once K (xs ++ ys)
  once_append xs ys o p f c =
      let e = how_often_append c xs ys in
      by_cases (has K ys c) (λ h. let z = how_often_none c xs (f c h) in let k = p c in omega arith) (λ h. let z = how_often_none c ys h in let k = o c in omega arith)

  has_one : (e c : Change D A R) → has K (e ∷ []) c ≡ alike K e c
  has_one e c = iff_≡ (alike K e c || false) (alike K e c) (λ h. ⊎_elim (λ p. p) (λ p. absurd p) (or_cases (alike K e c) false h)) (λ h. or_left (alike K e c) false h)

  pub has_push : (us : List (Change D A R)) (e c : Change D A R) → has K (us ++ e ∷ []) c ≡ (has K us c || alike K e c)
  has_push us e c = has_append us (e ∷ []) c ∙ ap (λ b. has K us c || b) (has_one e c)

  pub has_fresh : (f : List A) (us cs : List (Change D A R)) (c : Change D A R) → has K (fresh K f us cs) c ≡ (has K cs c && new_to K f us c)
  has_fresh f us [] c = refl
  has_fresh f us (e ∷ es) c =
      let a = alike K e c in
      let h = has K es c in
      let n = new_to K f us c in
      cond_both (λ l. has K l c ≡ ((a || h) && n)) (new_to K f us e) (e ∷ fresh K f (us ++ e ∷ []) es) (fresh K f us es)
      (λ q.
      by_cases a
      (λ s.
      let m : n ≡ true = T_≡true n (subst (λ v. T (new_to K f us v)) (alike_is e c s) q) in
      ap (λ b. b || has K (fresh K f (us ++ e ∷ []) es) c) (T_≡true a s) ∙ sym (ap (λ b. (b || h) && n) (T_≡true a s) ∙ m))
      (λ s.
      let other : new_to K f (us ++ e ∷ []) c ≡ n = ap (λ b. beyond below f c.time && not b) (has_push us e c ∙ ap (λ b. has K us c || b) (T_≡false a s) ∙ or_false' (has K us c)) in
      ap (λ b. b || has K (fresh K f (us ++ e ∷ []) es) c) (T_≡false a s) ∙ has_fresh f (us ++ e ∷ []) es c ∙ ap (λ b. h && b) other ∙ sym (ap (λ b. (b || h) && n) (T_≡false a s))))
      (λ q. has_fresh f us es c ∙ drop_case a h n (λ s. subst (λ v. T (not (new_to K f us v))) (alike_is e c s) q))
    where
      or_false' : (b : Bool) → (b || false) ≡ b
      or_false' true = refl
      or_false' false = refl

  pub fresh_in : (f : List A) (us cs : List (Change D A R)) (c : Change D A R) → T (has K (fresh K f us cs) c) → T (has K cs c)
  fresh_in f us cs c h = and_left (has K cs c) (new_to K f us c) (T_along (has K (fresh K f us cs) c) (has K cs c && new_to K f us c) (has_fresh f us cs c) h)

  pub fresh_beyond : (f : List A) (us cs : List (Change D A R)) (c : Change D A R) → T (has K (fresh K f us cs) c) → T (beyond below f c.time)
  fresh_beyond f us cs c h =
      and_left (beyond below f c.time) (not (has K us c)) (and_right (has K cs c) (new_to K f us c) (T_along (has K (fresh K f us cs) c) (has K cs c && new_to K f us c) (has_fresh f us cs c) h))

  pub fresh_not_in : (f : List A) (us cs : List (Change D A R)) (c : Change D A R) → T (has K (fresh K f us cs) c) → T (not (has K us c))
  fresh_not_in f us cs c h =
      and_right (beyond below f c.time) (not (has K us c)) (and_right (has K cs c) (new_to K f us c) (T_along (has K (fresh K f us cs) c) (has K cs c && new_to K f us c) (has_fresh f us cs c) h))

  pub fresh_from : (f : List A) (us cs : List (Change D A R)) (c : Change D A R) → T (has K cs c) → T (beyond below f c.time) → T (not (has K us c)) → T (has K (fresh K f us cs) c)
  fresh_from f us cs c h b n =
      T_back (has K (fresh K f us cs) c) (has K cs c && new_to K f us c) (has_fresh f us cs c) (and_intro (has K cs c) (new_to K f us c) h (and_intro (beyond below f c.time) (not (has K us c)) b n))

  pub fresh_once : (f : List A) (us cs : List (Change D A R)) → Once K (fresh K f us cs)
  fresh_once f us [] c = omega arith
  fresh_once f us (e ∷ es) c =
      cond_both (λ l. how_often K c l ≤ 1) (new_to K f us e) (e ∷ fresh K f (us ++ e ∷ []) es) (fresh K f us es)
      (λ _.
      by_cases (alike K e c)
      (λ s.
      let held : T (has K (us ++ e ∷ []) c) = T_back (has K (us ++ e ∷ []) c) (has K us c || alike K e c) (has_push us e c) (or_right (has K us c) (alike K e c) s) in
      let gone : T (not (has K (fresh K f (us ++ e ∷ []) es) c)) =
      not_from (has K (fresh K f (us ++ e ∷ []) es) c) (λ h. not_both (has K (us ++ e ∷ []) c) (fresh_not_in f (us ++ e ∷ []) es c h) held) in
      let z = how_often_none c (fresh K f (us ++ e ∷ []) es) gone in
      let k = count_yes (alike K e c) s in
      omega arith)
      (λ s.
      let ih = fresh_once f (us ++ e ∷ []) es c in
      let k = count_no (alike K e c) s in
      omega arith))
      (λ _. fresh_once f us es c)

  pub many_at_append : (y : A) (xs ys : List (Change D A R)) → many_at below y (xs ++ ys) ≡ many_at below y xs + many_at below y ys
  many_at_append y [] ys = omega arith
  many_at_append y (x ∷ xs) ys = let ih = many_at_append y xs ys in omega arith

  pub sum_at_lowered : (cs : List (Change D A R)) (y : A) → sum_at below (lowered cs) y ≡ neg_ℤ (pos (many_at below y cs))
  sum_at_lowered [] y = refl
  sum_at_lowered (c ∷ cs) y = ap (λ v. cond (at_once below c.time y) (negsuc 0) (pos 0) +ℤ v) (sum_at_lowered cs y) ∙ lower_one (at_once below c.time y) (many_at below y cs)

  pub size_at_lowered : (cs : List (Change D A R)) (y : A) → size_at below (lowered cs) y ≡ many_at below y cs
  size_at_lowered [] y = refl
  size_at_lowered (c ∷ cs) y = ap (λ v. cond (at_once below c.time y) 1 0 + v) (size_at_lowered cs y)

  pub sum_at_raised : (cs : List (Change D A R)) (y : A) → sum_at below (raised cs) y ≡ pos (many_at below y cs)
  sum_at_raised [] y = refl
  sum_at_raised (c ∷ cs) y = ap (λ v. cond (at_once below c.time y) (pos 1) (pos 0) +ℤ v) (sum_at_raised cs y) ∙ raise_one (at_once below c.time y) (many_at below y cs)

  pub size_at_raised : (cs : List (Change D A R)) (y : A) → size_at below (raised cs) y ≡ many_at below y cs
  size_at_raised [] y = refl
  size_at_raised (c ∷ cs) y = ap (λ v. cond (at_once below c.time y) 1 0 + v) (size_at_raised cs y)

  pub many_at_kept : (p : A → Bool) (y : A) (cs : List (Change D A R)) → many_at below y (filter (λ c. p c.time) cs) ≡ cond (p y) (many_at below y cs) 0
  many_at_kept p y [] = cond_both (λ v. 0 ≡ v) (p y) 0 0 (λ _. refl) (λ _. refl)
  many_at_kept p y (e ∷ es) =
      let s = at_once below e.time y in
      let kept = filter (λ c. p c.time) es in
      cond_both (λ l. many_at below y l ≡ cond (p y) (cond s 1 0 + many_at below y es) 0) (p e.time) (e ∷ kept) kept
      (λ q. ap (λ v. cond s 1 0 + v) (many_at_kept p y es) ∙ keep_one (p y) s (many_at below y es) (λ h. subst (λ v. T (p v)) (same_is order e.time y h) q))
      (λ q. many_at_kept p y es ∙ skip_one (p y) s (many_at below y es) (λ h. subst (λ v. T (not (p v))) (same_is order e.time y h) q))

  many_at_removed : (y : A) (e : Change D A R) (us : List (Change D A R)) → T (has K us e) → T (at_once below e.time y) → many_at below y us ≡ 1 + many_at below y (removed K e us)
  many_at_removed y e [] h k = absurd h
  many_at_removed y e (u ∷ us) h k =
      cond_both (λ l. cond (at_once below u.time y) 1 0 + many_at below y us ≡ 1 + many_at below y l) (alike K u e) us (u ∷ removed K e us)
      (λ q. ap (λ v. v + many_at below y us) (cond_true (at_once below u.time y) 1 0 (subst (λ v. T (at_once below v.time y)) (sym (alike_is u e q)) k)))
      (λ q.
      let later : T (has K us e) = ⊎_elim (λ p. absurd (not_both (alike K u e) q p)) (λ p. p) (or_cases (alike K u e) (has K us e) h) in
      let ih = many_at_removed y e us later k in
      omega arith)

  has_removed : (e : Change D A R) (us : List (Change D A R)) (c : Change D A R) → T (has K us c) → T (not (alike K e c)) → T (has K (removed K e us) c)
  has_removed e [] c h n = h
  has_removed e (u ∷ us) c h n =
      cond_both (λ l. T (has K l c)) (alike K u e) us (u ∷ removed K e us)
      (λ q. ⊎_elim (λ p. absurd (not_both (alike K e c) n (subst (λ v. T (alike K v c)) (alike_is u e q) p))) (λ p. p) (or_cases (alike K u c) (has K us c) h))
      (λ q.
      ⊎_elim (λ p. or_left (alike K u c) (has K (removed K e us) c) p) (λ p. or_right (alike K u c) (has K (removed K e us) c) (has_removed e us c p n)) (or_cases (alike K u c) (has K us c) h))

  pub once_tail : (e : Change D A R) (es : List (Change D A R)) → Once K (e ∷ es) → Once K es
  once_tail e es o c = let k = o c in omega arith

  pub once_head : (e : Change D A R) (es : List (Change D A R)) → Once K (e ∷ es) → T (not (has K es e))
  once_head e es o =
      not_from (has K es e)
      (λ h.
      let a = how_often_some e es h in
      let k = count_yes (alike K e e) (is_alike e) in
      let l = o e in
      absurd (omega arith))

  pub once_more : (e : Change D A R) (es : List (Change D A R)) → T (not (has K es e)) → Once K es → Once K (e ∷ es)
  once_more e es n o c =
      by_cases (alike K e c)
      (λ s.
      let z = how_often_none c es (subst (λ v. T (not (has K es v))) (alike_is e c s) n) in
      let k = count_yes (alike K e c) s in
      omega arith)
      (λ s.
      let k = count_no (alike K e c) s in
      let l = o c in
      omega arith)

  pub many_at_subset : (y : A) (cs us : List (Change D A R)) → Once K cs → InsideAt K y cs us → many_at below y cs ≤ many_at below y us
  many_at_subset y [] us o f = omega arith
  many_at_subset y (e ∷ es) us o f =
      by_cases (at_once below e.time y)
      (λ s.
      let m = many_at_removed y e us (f e s (or_left (alike K e e) (has K es e) (is_alike e))) s in
      let ih = many_at_subset y es (removed K e us) (once_tail e es o)
      (λ c w h. has_removed e us c (f c w (or_right (alike K e c) (has K es c) h)) (not_from (alike K e c) (λ p. not_both (has K es e) (once_head e es o) (subst (λ v. T (has K es v)) (sym (alike_is e c p)) h)))) in
      let k = count_yes (at_once below e.time y) s in
      omega arith)
      (λ s.
      let ih = many_at_subset y es us (once_tail e es o) (λ c w h. f c w (or_right (alike K e c) (has K es c) h)) in
      let k = count_no (at_once below e.time y) s in
      omega arith)

  pub many_at_full : (y : A) (cs us : List (Change D A R)) → Once K cs → InsideAt K y cs us → many_at below y us ≤ many_at below y cs → InsideAt K y us cs
  many_at_full y cs us o f le c w h =
      by_cases (has K cs c) (λ p. p)
      (λ n.
      let a = many_at_subset y (c ∷ cs) us (once_more c cs n o)
      (λ x v k. ⊎_elim (λ p. subst (λ u. T (has K us u)) (alike_is c x p) h) (λ p. f x v p) (or_cases (alike K c x) (has K cs x) k)) in
      let k = count_yes (at_once below c.time y) w in
      absurd (omega arith))

  alike_coincide : (x y : Change D A R) → T (alike K x y) → T (coincide K x y)
  alike_coincide x y h = and_left (coincide K x y) (K.same_amount x.amount y.amount) h

  one_each_head : (c : Change D A R) (cs : List (Change D A R)) → T (list_all (λ e. not (coincide K c e)) cs) → T (has K cs c) → ⊥
  one_each_head c [] h g = g
  one_each_head c (e ∷ es) h g =
      let first = not (coincide K c e) in
      let rest = list_all (λ u. not (coincide K c u)) es in
      ⊎_elim (λ p. not_both (coincide K c e) (and_left first rest h) (alike_coincide c e (subst (λ v. T (alike K c v)) (sym (alike_is e c p)) (is_alike c)))) (λ p. one_each_head c es (and_right first rest h) p) (or_cases (alike K e c) (has K es c) g)

  -- where no data stands twice at one time, no change does
  pub one_each_once : (cs : List (Change D A R)) → T (one_each K cs) → Once K cs
  one_each_once [] h = λ c. omega arith
  one_each_once (e ∷ es) h =
      let first = list_all (λ u. not (coincide K e u)) es in
      once_more e es (not_from (has K es e) (one_each_head e es (and_left first (one_each K es) h))) (one_each_once es (and_right first (one_each K es) h))

  pub many_length : (x : A) (cs : List (Change D A R)) → many_at below x cs ≤ length cs
  many_length x [] = omega arith
  many_length x (c ∷ cs) = let ih = many_length x cs in cond_both (λ n. n + many_at below x cs ≤ suc (length cs)) (at_once below c.time x) 1 0 (λ _. omega arith) (λ _. omega arith)

  pub once_left : (xs ys : List (Change D A R)) → Once K (xs ++ ys) → Once K xs
  once_left xs ys o c = let a = o c in let e = how_often_append c xs ys in omega arith

  -- what passes of each change of a list passes of one that stands in it, and of each at a time
  pub pass_has : (p : Change D A R → Bool) (cs : List (Change D A R)) (c : Change D A R) → T (list_all p cs) → T (has K cs c) → T (p c)
  pass_has p [] c h g = absurd g
  pass_has p (e ∷ cs) c h g =
      ⊎_elim (λ a. subst (λ v. T (p v)) (alike_is e c a) (and_left (p e) (list_all p cs) h)) (λ b. pass_has p cs c (and_right (p e) (list_all p cs) h) b) (or_cases (alike K e c) (has K cs c) g)

  pub pass_at : (p : A → Bool) (cs : List (Change D A R)) (x : A) → T (list_all (λ c. p c.time) cs) → (many_at below x cs ≡ 0) ⊎ T (p x)
  pass_at p [] x h = inl refl
  pass_at p (e ∷ cs) x h =
      let rest = list_all (λ c. p c.time) cs in
      by_cases (at_once below e.time x)
      (λ s. inr (subst (λ v. T (p v)) (same_is order e.time x s) (and_left (p e.time) rest h)))
      (λ s. ⊎_elim (λ ih. let z = count_no (at_once below e.time x) s in inl (omega arith)) (λ y. inr y) (pass_at p cs x (and_right (p e.time) rest h)))
