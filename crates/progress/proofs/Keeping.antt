-- How a loop goes through the elements that pass a test, by what stored values read as.
use Rattle.std.proofs.Common.{◌≡◌, ℕ, ◌+◌, ◌<◌, Bool, true, false, cond, List, [], ◌∷◌, ◌++◌, length, get_or, filter, sym, ap, ◌∙◌}
use Rattle.std.proofs.lemmas.List.Elements.{filter-append}
use Rattle.std.proofs.lemmas.List.{map_more, append-nil}
use Rattle.frontier.specs.Tables.{in_use}

module _ {X A : Type 0} (p : A → Bool) (value : X → A) (xs : List X) (i : ℕ) (x : X) (h : i < length xs) (read : x ≡ get_or xs i x) where
  more : filter p (in_use value (i + 1) xs) ≡ filter p (in_use value i xs) ++ cond (p (value x)) (value x ∷ []) []
  more = ap (filter p) (map_more value xs i x h ∙ ap (λ y. in_use value i xs ++ value y ∷ []) (sym read)) ∙ filter-append p (in_use value i xs) (value x ∷ [])

  pub kept_yes : p (value x) ≡ true → filter p (in_use value (i + 1) xs) ≡ filter p (in_use value i xs) ++ value x ∷ []
  kept_yes e = more ∙ ap (λ b. filter p (in_use value i xs) ++ cond b (value x ∷ []) []) e

  pub kept_no : p (value x) ≡ false → filter p (in_use value (i + 1) xs) ≡ filter p (in_use value i xs)
  kept_no e = more ∙ ap (λ b. filter p (in_use value i xs) ++ cond b (value x ∷ []) []) e ∙ append-nil (filter p (in_use value i xs))
