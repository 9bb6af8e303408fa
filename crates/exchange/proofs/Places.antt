-- Places of a list under a map, and with one of them written.
use Rattle.std.proofs.Common.{ℕ, List, [], ◌∷◌, map, set, sym, ⊎_elim}
use mathlib.Core.Logic.{∥∥₁_elim, ∥∥₁_map, ∥∥₁_prop}
use Rattle.capture.specs.Runs.{At, In, Turned}
use Rattle.capture.proofs.Lists.{in_more, in_none, in_same}

pub at_map : {X Y : Type 0} (f : X → Y) {xs : List X} {i : ℕ} {x : X} → At xs i x → At (map f xs) i (f x)
at_map f At.here = At.here
at_map f (At.there a) = At.there (at_map f a)

pub turned_map : {X Y : Type 0} (f : X → Y) {xs : List X} {i : ℕ} {x y : X} {ys : List X} → Turned xs i x y ys → Turned (map f xs) i (f x) (f y) (map f ys)
turned_map f Turned.here = Turned.here
turned_map f (Turned.there τ) = Turned.there (turned_map f τ)

pub turned_set : {X : Type 0} {xs : List X} {i : ℕ} {x : X} (y : X) → At xs i x → Turned xs i x y (set xs i y)
turned_set y At.here = Turned.here
turned_set y (At.there a) = Turned.there (turned_set y a)

-- where each of a list stands in another, they all do together
pub all_among : {X : Type 0} (xs ys : List X) → ((x : X) → In x xs → ∥ In x ys ∥₁) → ∥ ((x : X) → In x xs → In x ys) ∥₁
all_among [] ys f = ∣ (λ x i. absurd (in_none i)) ∣₁
all_among (z ∷ xs) ys f =
    ∥∥₁_elim (f z In.here) ∥∥₁_prop (λ h. ∥∥₁_map (all_among xs ys (λ x i. f x (In.there i))) (λ g x i. ⊎_elim (λ e. in_same (sym e) h) (λ j. g x j) (in_more i)))
