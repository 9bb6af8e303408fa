-- Which waiting statement acts next, and what is left.
use Rattle.std.proofs.Common.{◌≡◌, suc, Bool, not, T, ◌⊎◌, List, [], ◌∷◌, length, Some, None, Option, refl, ap, subst, inl, inr, ⊎_elim}
use Rattle.lattice.proofs.Tests.{cond_both, not_both}
use Rattle.frontier.specs.Frontiers.{leq}
use Rattle.capture.specs.Messages.{Statement}
use Rattle.capture.specs.Runs.{In}
use Rattle.capture.specs.Statements.{first_ready}
use Rattle.capture.proofs.Lists.{in_more, in_none}

module _ {A : Type 0} (below : A → A → Bool) where
  -- s is the first that can act, and rest are the others
  pub record First (f : List A) (W : List (Statement A)) (s : Statement A) (rest : List (Statement A)) : Type 0 where
    pub can_act : T (leq below s.lower f)
    pub stood : In s W
    pub others : (u : Statement A) → In u W → (u ≡ s) ⊎ In u rest
    pub back : (u : Statement A) → In u rest → In u W
    pub fewer : length W ≡ suc (length rest)

  -- what the search for a ready statement found
  pub data View (f : List A) (W : List (Statement A)) : Option (Statement A × List (Statement A)) → Type 0 where
    nobody : ((u : Statement A) → In u W → T (leq below u.lower f) → ⊥) → View f W None
    found : {s : Statement A} {rest : List (Statement A)} → First f W s rest → View f W (Some (s, rest))

  view_more : (f : List A) (w : Statement A) (W : List (Statement A)) (o : Option (Statement A × List (Statement A))) → T (not (leq below w.lower f)) → View f W o → View f (w ∷ W) (elim o [ None ↦ None | Some q ↦ Some (q.0, w ∷ q.1) ])
  view_more f w W None n (nobody g) = nobody (λ u h k. ⊎_elim (λ e. not_both (leq below w.lower f) n (subst (λ v. T (leq below v.lower f)) e k)) (λ i. g u i k) (in_more h))
  view_more f w W (Some q) n (found v) = found (record {
    can_act = v.can_act;
    stood = In.there v.stood;
    others = λ u h. ⊎_elim (λ e. inr (subst (λ x. In u (x ∷ q.1)) e In.here)) (λ i. ⊎_elim (λ e. inl e) (λ j. inr (In.there j)) (v.others u i)) (in_more h);
    back = λ u h. ⊎_elim (λ e. subst (λ x. In u (x ∷ W)) e In.here) (λ i. In.there (v.back u i)) (in_more h);
    fewer = ap suc v.fewer;
  })

  pub view : (f : List A) (W : List (Statement A)) → View f W (first_ready below f W)
  view f [] = nobody (λ u h k. in_none h)
  view f (w ∷ W) =
      cond_both (λ o. View f (w ∷ W) o) (leq below w.lower f) (Some (w, W)) (elim (first_ready below f W) [ None ↦ None | Some q ↦ Some (q.0, w ∷ q.1) ])
      (λ p. found (record { can_act = p; stood = In.here; others = λ u h. in_more h; back = λ u h. In.there h; fewer = refl }))
      (λ n. view_more f w W (first_ready below f W) n (view f W))
