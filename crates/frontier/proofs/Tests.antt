-- A test of each entry of a table, and what the entries read as.
use Rattle.std.proofs.Common.{◌≡◌, ◌+◌, Bool, true, false, cond, not, ◌&&◌, ◌||◌, List, [], ◌∷◌, map, length, Some, None, nat_lt, sym, refl, ap, ◌∙◌, arith}
use Rattle.std.specs.List.{list_any, list_all, prefix_len, position}
use Rattle.std.specs.Option.{unwrap_or}
use Rattle.std.proofs.lemmas.List.Sums.{prefix_len-le-length}
use borrow.Author.Tests.{ltb-false}

module _ {X A : Type 0} (value : X → A) (F : List A → Bool) (p : A → Bool) where
  -- F says that some value passes p
  pub any_reads : F [] ≡ false → ((a : A) (rest : List A) → F (a ∷ rest) ≡ (p a || F rest)) → (xs : List X) → list_any (λ x. p (value x)) xs ≡ F (map value xs)
  any_reads none some [] = sym none
  any_reads none some (x ∷ xs) = ap (λ b. p (value x) || b) (any_reads none some xs) ∙ sym (some (value x) (map value xs))

  -- F says that every value passes p
  pub all_reads : F [] ≡ true → ((a : A) (rest : List A) → F (a ∷ rest) ≡ (p a && F rest)) → (xs : List X) → list_all (λ x. p (value x)) xs ≡ F (map value xs)
  all_reads none every [] = sym none
  all_reads none every (x ∷ xs) = ap (λ b. p (value x) && b) (all_reads none every xs) ∙ sym (every (value x) (map value xs))

-- the place of the first entry that fails the test, or the length
pub place_of : {X : Type 0} (q : X → Bool) (xs : List X) → unwrap_or (position q xs) (length xs) ≡ prefix_len (λ x. not (q x)) xs
place_of q xs = elim (nat_lt (prefix_len (λ x. not (q x)) xs) (length xs)) as (λ b. nat_lt (prefix_len (λ x. not (q x)) xs) (length xs) ≡ b → unwrap_or (cond b (Some (prefix_len (λ x. not (q x)) xs)) None) (length xs) ≡ prefix_len (λ x. not (q x)) xs) [
  | true ↦ λ e. refl
  | false ↦ λ e. omega (arith, ltb-false _ _ e, prefix_len-le-length (λ x. not (q x)) xs)
] refl

pub prefix_reads : {X A : Type 0} (value : X → A) (p : A → Bool) (xs : List X) → prefix_len (λ x. p (value x)) xs ≡ prefix_len p (map value xs)
prefix_reads value p [] = refl
prefix_reads value p (x ∷ xs) = ap (λ n. cond (p (value x)) (1 + n) 0) (prefix_reads value p xs)
