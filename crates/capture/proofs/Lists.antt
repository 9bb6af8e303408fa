-- Where a value stands in a list, and what changes when one place of a list is given another value.
use Rattle.std.proofs.Common.{◌≡◌, ℕ, suc, ◌≤◌, Bool, T, ◌⊎◌, List, [], ◌∷◌, ◌++◌, map, length, filter, sym, refl, ap, subst, inl, inr, ⊎_elim, arith}
use Rattle.lattice.proofs.Tests.{by_cases, cond_at_false, cond_at_true, cond_both, not_both}
use Rattle.capture.specs.Runs.{At, In, Turned}

pub in_left : {X : Type 0} {x : X} {xs : List X} (ys : List X) → In x xs → In x (xs ++ ys)
in_left ys In.here = In.here
in_left ys (In.there h) = In.there (in_left ys h)

pub in_right : {X : Type 0} {x : X} (xs : List X) {ys : List X} → In x ys → In x (xs ++ ys)
in_right [] h = h
in_right (y ∷ xs) h = In.there (in_right xs h)

pub in_cases : {X : Type 0} (x : X) (xs ys : List X) → In x (xs ++ ys) → In x xs ⊎ In x ys
in_cases x [] ys h = inr h
in_cases x (y ∷ xs) ys In.here = inl In.here
in_cases x (y ∷ xs) ys (In.there h) = ⊎_elim (λ a. inl (In.there a)) (λ b. inr b) (in_cases x xs ys h)

pub in_none : {X : Type 0} {x : X} → In x [] → ⊥
in_none h = elim h [ ]

pub in_one : {X : Type 0} {x y : X} → In x (y ∷ []) → x ≡ y
in_one In.here = refl
in_one (In.there h) = absurd (in_none h)

pub in_more : {X : Type 0} {x y : X} {xs : List X} → In x (y ∷ xs) → (x ≡ y) ⊎ In x xs
in_more In.here = inl refl
in_more (In.there h) = inr h

pub in_along : {X : Type 0} {x : X} {xs ys : List X} → xs ≡ ys → In x xs → In x ys
in_along {x = x} e h = subst (λ l. In x l) e h

pub in_same : {X : Type 0} {x y : X} {xs : List X} → x ≡ y → In x xs → In y xs
in_same {xs = xs} e h = subst (λ v. In v xs) e h

pub in_map : {X Y : Type 0} (f : X → Y) {x : X} {xs : List X} → In x xs → In (f x) (map f xs)
in_map f In.here = In.here
in_map f (In.there h) = In.there (in_map f h)

pub map_in : {X Y : Type 0} (f : X → Y) (y : Y) (xs : List X) → In y (map f xs) → (x : X) × (y ≡ f x) × In x xs
map_in f y [] h = absurd (in_none h)
map_in f y (x ∷ xs) h = ⊎_elim (λ e. (x, e, In.here)) (λ i. let j = map_in f y xs i in (j.0, j.1, In.there j.2)) (in_more h)

pub turned_at : {X : Type 0} {xs : List X} {i : ℕ} {x y : X} {ys : List X} → Turned xs i x y ys → At xs i x
turned_at Turned.here = At.here
turned_at (Turned.there τ) = At.there (turned_at τ)

pub turned_cases : {X : Type 0} {xs : List X} {i : ℕ} {x y : X} {ys : List X} (k : ℕ) (z : X) → Turned xs i x y ys → At ys k z → ((k ≡ i) × (z ≡ y)) ⊎ ((k ≡ i → ⊥) × At xs k z)
turned_cases k z Turned.here At.here = inl (refl, refl)
turned_cases k z Turned.here (At.there a) = inr (λ e. omega arith, At.there a)
turned_cases k z (Turned.there τ) At.here = inr (λ e. omega arith, At.here)
turned_cases k z (Turned.there τ) (At.there {i = j} a) =
    ⊎_elim (λ h. inl (ap suc h.0, h.1)) (λ h. inr (λ e. h.0 (omega arith), At.there h.1)) (turned_cases j z τ a)

pub at_same : {X : Type 0} {xs : List X} {k : ℕ} {x : X} (y : X) → At xs k x → At xs k y → x ≡ y
at_same y At.here At.here = refl
at_same y (At.there a) (At.there b) = at_same y a b

pub in_kept : {X : Type 0} (p : X → Bool) (xs : List X) (x : X) → In x xs → T (p x) → In x (filter p xs)
in_kept p [] x h q = absurd (in_none h)
in_kept p (y ∷ xs) x h q =
    ⊎_elim
    (λ e. cond_both (λ l. In x l) (p y) (y ∷ filter p xs) (filter p xs) (λ _. subst (λ v. In x (v ∷ filter p xs)) e In.here) (λ n. absurd (not_both (p y) n (subst (λ v. T (p v)) e q))))
    (λ i. let ih = in_kept p xs x i q in cond_both (λ l. In x l) (p y) (y ∷ filter p xs) (filter p xs) (λ _. In.there ih) (λ _. ih))
    (in_more h)

pub kept_in : {X : Type 0} (p : X → Bool) (xs : List X) (x : X) → In x (filter p xs) → In x xs × T (p x)
kept_in p [] x h = absurd (in_none h)
kept_in p (y ∷ xs) x h =
    by_cases (p y)
    (λ q. ⊎_elim
    (λ e. (subst (λ v. In x (v ∷ xs)) e In.here, subst (λ v. T (p v)) (sym e) q))
    (λ i. let ih = kept_in p xs x i in (In.there ih.0, ih.1))
    (in_more (cond_at_true (λ l. In x l) (p y) (y ∷ filter p xs) (filter p xs) q h)))
    (λ n. let ih = kept_in p xs x (cond_at_false (λ l. In x l) (p y) (y ∷ filter p xs) (filter p xs) n h) in (In.there ih.0, ih.1))

pub kept_length : {X : Type 0} (p : X → Bool) (xs : List X) → length (filter p xs) ≤ length xs
kept_length p [] = omega arith
kept_length p (y ∷ xs) = let ih = kept_length p xs in cond_both (λ l. length l ≤ suc (length xs)) (p y) (y ∷ filter p xs) (filter p xs) (λ _. omega arith) (λ _. omega arith)
