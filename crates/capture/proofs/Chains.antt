-- The sender's statements form a chain: each starts where the one before it ended, and moves on.
use Rattle.std.proofs.Common.{◌≡◌, Bool, not, T, List, [], ◌∷◌, ◌++◌, sym, refl, ap, ◌∙◌, subst, ⊎_elim}
use Rattle.lattice.proofs.Tests.{not_both}
use Rattle.lattice.specs.Orders.{Order}
use Rattle.frontier.proofs.Beyond.{leq_refl, leq_trans}
use Rattle.frontier.specs.Frontiers.{leq}
use Rattle.capture.specs.Messages.{Statement}
use Rattle.capture.specs.Runs.{In}
use Rattle.capture.proofs.Lists.{in_more}

module _ {A : Type 0} (below : A → A → Bool) where
  -- the statements lead from f to g: each starts where the one before it ended, and moves on
  abbrev pub Chain : List A → List (Statement A) → List A → Type 0
  Chain f [] g = f ≡ g
  Chain f (s ∷ ss) g = (f ≡ s.lower) × T (leq below f s.upper) × T (not (leq below s.upper f)) × Chain s.upper ss g

  -- what a chain from f to g says of a statement in it
  pub record Link (f g : List A) (s : Statement A) : Type 0 where
    pub from : T (leq below f s.lower)
    pub on : T (leq below s.lower s.upper)
    pub strict : T (not (leq below s.upper s.lower))
    pub to : T (leq below s.upper g)

module _ {A : Type 0} {below : A → A → Bool} (order : Order below) where
  pub chain_leq : (f : List A) (ss : List (Statement A)) (g : List A) → Chain below f ss g → T (leq below f g)
  chain_leq f [] g c = subst (λ l. T (leq below f l)) c (leq_refl order f)
  chain_leq f (s ∷ ss) g c = leq_trans order f s.upper g c.1 (chain_leq s.upper ss g c.3)

  pub chain_link : (f : List A) (ss : List (Statement A)) (g : List A) (s : Statement A) → Chain below f ss g → In s ss → Link below f g s
  chain_link f (u ∷ ss) g s c In.here =
      record {
        from = subst (λ l. T (leq below f l)) c.0 (leq_refl order f);
        on = subst (λ l. T (leq below l s.upper)) c.0 c.1;
        strict = subst (λ l. T (not (leq below s.upper l))) c.0 c.2;
        to = chain_leq s.upper ss g c.3;
      }
  chain_link f (u ∷ ss) g s c (In.there h) =
      let l = chain_link u.upper ss g s c.3 h in
      record { from = leq_trans order f u.upper s.lower c.1 l.from; on = l.on; strict = l.strict; to = l.to }
  chain_link f [] g s c h = elim h [ ]

  pub chain_append : (f : List A) (ss us : List (Statement A)) (g h : List A) → Chain below f ss g → Chain below g us h → Chain below f (ss ++ us) h
  chain_append f [] us g h c d = subst (λ l. Chain below l us h) (sym c) d
  chain_append f (s ∷ ss) us g h c d = (c.0, c.1, c.2, chain_append s.upper ss us g h c.3 d)

  pub chain_one : (s : Statement A) → T (leq below s.lower s.upper) → T (not (leq below s.upper s.lower)) → Chain below s.lower (s ∷ []) s.upper
  chain_one s a b = (refl, a, b, refl)

  -- a chain from f has one end
  pub chain_end : (f : List A) (ss : List (Statement A)) (g h : List A) → Chain below f ss g → Chain below f ss h → g ≡ h
  chain_end f [] g h a b = sym a ∙ b
  chain_end f (s ∷ ss) g h a b = chain_end s.upper ss g h a.3 b.3

  -- a statement of a chain from f whose lower is at or before f is its first
  pub chain_head : (f : List A) (ss : List (Statement A)) (g : List A) (s : Statement A) → Chain below f ss g → In s ss → T (leq below s.lower f) → (rest : List (Statement A)) × (ss ≡ s ∷ rest)
  chain_head f [] g s c h k = elim h [ ]
  chain_head f (u ∷ ss) g s c h k =
      ⊎_elim
      (λ e. (ss, ap (λ v. v ∷ ss) (sym e)))
      (λ i. absurd (not_both (leq below u.upper f) c.2 (leq_trans order u.upper s.lower f (chain_link u.upper ss g s c.3 i).from k)))
      (in_more h)
