-- Which changes of a message are new, one after the other.
use Rattle.std.proofs.Common.{◌≡◌, ◌≤◌, Bool, true, false, not, ◌&&◌, ◌||◌, List, [], ◌∷◌, ◌++◌, length, sym, refl, ap, ◌∙◌, arith}
use Rattle.std.proofs.lemmas.List.{append_assoc}
use Rattle.std.proofs.lemmas.Bool.{cond-true, cond-false, cond_both, and_right, or_left, or_right, or_from}
use Rattle.frontier.specs.Frontiers.{beyond}
use Rattle.capture.specs.Kinds.{Kinds}
use Rattle.capture.specs.Messages.{Change, alike, has, fresh}

regroup : (a b c : Bool) → (a || (b || c)) ≡ ((a || b) || c)
regroup true b c = refl
regroup false b c = refl

module _ {D A R : Type 0} (k : Kinds D A R) where
  pub has_append : (xs ys : List (Change D A R)) (c : Change D A R) → has k (xs ++ ys) c ≡ (has k xs c || has k ys c)
  has_append [] ys c = refl
  has_append (x ∷ xs) ys c = ap (λ b. alike k x c || b) (has_append xs ys c) ∙ regroup (alike k x c) (has k xs c) (has k ys c)

  -- the change is beyond the frontier f, and the same as none that is held or new
  abbrev pub is_new : List A → List (Change D A R) → List (Change D A R) → Change D A R → Bool
  is_new f held new c = beyond k.time.below f c.time && not (has k (held ++ new) c)

  module _ (f : List A) (held new : List (Change D A R)) (x : Change D A R) (rest : List (Change D A R)) where
    pub fresh_yes : is_new f held new x ≡ true → new ++ fresh k f (held ++ new) (x ∷ rest) ≡ (new ++ x ∷ []) ++ fresh k f (held ++ (new ++ x ∷ [])) rest
    fresh_yes e =
        ap (λ l. new ++ l) (cond-true (is_new f held new x) (x ∷ fresh k f ((held ++ new) ++ x ∷ []) rest) (fresh k f (held ++ new) rest) e)
        ∙ sym (append_assoc new (x ∷ []) (fresh k f ((held ++ new) ++ x ∷ []) rest))
        ∙ ap (λ l. (new ++ x ∷ []) ++ fresh k f l rest) (append_assoc held new (x ∷ []))

    pub fresh_no : is_new f held new x ≡ false → new ++ fresh k f (held ++ new) (x ∷ rest) ≡ new ++ fresh k f (held ++ new) rest
    fresh_no e = ap (λ l. new ++ l) (cond-false (is_new f held new x) (x ∷ fresh k f ((held ++ new) ++ x ∷ []) rest) (fresh k f (held ++ new) rest) e)

and_true : (b : Bool) → b ≡ (b && true)
and_true true = refl
and_true false = refl

-- the test by its parts
module _ {D A R : Type 0} (k : Kinds D A R) (f : List A) (held new : List (Change D A R)) (c : Change D A R) where
  pub held_already : has k held c ≡ true → false ≡ is_new k f held new c
  held_already e = sym (and_right (beyond k.time.below f c.time) (not (has k (held ++ new) c)) (ap not (has_append k held new c ∙ or_left (has k held c) (has k new c) e)))

  pub new_already : has k new c ≡ true → false ≡ is_new k f held new c
  new_already e = sym (and_right (beyond k.time.below f c.time) (not (has k (held ++ new) c)) (ap not (has_append k held new c ∙ or_right (has k held c) (has k new c) e)))

  pub not_yet : has k held c ≡ false → has k new c ≡ false → beyond k.time.below f c.time ≡ is_new k f held new c
  not_yet e h = and_true (beyond k.time.below f c.time) ∙ ap (λ b. beyond k.time.below f c.time && not b) (sym (has_append k held new c ∙ or_from (has k held c) (has k new c) e h))

module _ {D A R : Type 0} (k : Kinds D A R) where
  -- no more changes are new than came
  pub length_fresh : (f : List A) (held cs : List (Change D A R)) → length (fresh k f held cs) ≤ length cs
  length_fresh f held [] = omega arith
  length_fresh f held (c ∷ cs) =
      cond_both (beyond k.time.below f c.time && not (has k held c)) (c ∷ fresh k f (held ++ c ∷ []) cs) (fresh k f held cs) (λ l. length l ≤ length (c ∷ cs))
      (λ _. let h : length (fresh k f (held ++ c ∷ []) cs) ≤ length cs = length_fresh f (held ++ c ∷ []) cs in omega arith)
      (λ _. let h : length (fresh k f held cs) ≤ length cs = length_fresh f held cs in omega arith)
