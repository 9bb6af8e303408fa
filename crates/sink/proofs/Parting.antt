-- The counts that are announced and those that stay: how the loops that part them go on.
use Rattle.std.proofs.Common.{◌≡◌, ℕ, Bool, true, false, cond, not, ◌&&◌, leb, List, [], ◌∷◌, ◌++◌, map, ℤ, filter, sym, refl, ap, ◌∙◌}
use Rattle.std.proofs.lemmas.List.{append_assoc}
use Rattle.frontier.specs.Frontiers.{beyond}
use Rattle.capture.specs.Sizes.{largest_count}
use Rattle.capture.specs.Statements.{small}
use Rattle.capture.specs.Sender.{told, announced}

-- what was written and what is left make all that is announced; nothing that was written is too large
pub record Announcing {A : Type 0} (below : A → A → Bool) (f : List A) (all left : List (A × ℤ)) (written : List (A × ℕ)) : Type 0 where
  pub made : announced below f all ≡ written ++ announced below f left
  pub few : small (announced below f all) ≡ small (announced below f left)

module _ {A : Type 0} (below : A → A → Bool) (f : List A) (c : A × ℤ) (rest : List (A × ℤ)) where
  announced_next : (b : Bool) → beyond below f c.0 ≡ b → announced below f (c ∷ rest) ≡ cond (not b) ((c.0, told c.1) ∷ announced below f rest) (announced below f rest)
  announced_next b e =
      let at : (v : Bool) → map (λ c. (c.0, told c.1)) (cond (not v) (c ∷ filter (λ c. not (beyond below f c.0)) rest) (filter (λ c. not (beyond below f c.0)) rest)) ≡ cond (not v) ((c.0, told c.1) ∷ announced below f rest) (announced below f rest) = λ v. elim v as (λ v. map (λ c. (c.0, told c.1)) (cond (not v) (c ∷ filter (λ c. not (beyond below f c.0)) rest) (filter (λ c. not (beyond below f c.0)) rest)) ≡ cond (not v) ((c.0, told c.1) ∷ announced below f rest) (announced below f rest)) [ true ↦ refl | false ↦ refl ] in
      at (beyond below f c.0) ∙ ap (λ v. cond (not v) ((c.0, told c.1) ∷ announced below f rest) (announced below f rest)) e

  module _ (all left : List (A × ℤ)) (written : List (A × ℕ)) (turn : left ≡ c ∷ rest) (so_far : Announcing below f all left written) where
    -- the count stays
    pub passes : beyond below f c.0 ≡ true → Announcing below f all rest written
    passes e =
        let same : announced below f left ≡ announced below f rest = ap (announced below f) turn ∙ announced_next true e in
        record { made = so_far.made ∙ ap (λ l. written ++ l) same; few = so_far.few ∙ ap small same }

    module _ (e : beyond below f c.0 ≡ false) where
      opens : announced below f left ≡ (c.0, told c.1) ∷ announced below f rest
      opens = ap (announced below f) turn ∙ announced_next false e

      -- the count is announced
      pub writes : (more : List (A × ℕ)) → more ≡ written ++ (c.0, told c.1) ∷ [] → leb (told c.1) largest_count ≡ true → Announcing below f all rest more
      writes more is h =
          record {
            made = so_far.made ∙ ap (λ l. written ++ l) opens ∙ sym (append_assoc written ((c.0, told c.1) ∷ []) (announced below f rest)) ∙ ap (λ l. l ++ announced below f rest) (sym is);
            few = so_far.few ∙ ap small opens ∙ ap (λ b. b && small (announced below f rest)) h;
          }
