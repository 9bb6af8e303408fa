-- What a close and a finish state and leave.
use Rattle.std.proofs.Common.{◌≡◌, ℕ, ◌≤◌, Bool, true, not, leb, List, [], ◌∷◌, ◌++◌, map, length, take, ℤ, None, filter, sym, refl, ap, ◌∙◌, arith}
use Rattle.std.proofs.lemmas.List.{length-map, length-take}
use Rattle.std.proofs.lemmas.Bool.{and_from, le-leb}
use Rattle.questions.specs.Questions.{first_no}
use Rattle.lattice.specs.Orders.{Order}
use Rattle.frontier.specs.Frontiers.{inserted_all}
use Rattle.frontier.specs.Tables.{in_use}
use Rattle.frontier.proofs.Beyond.{beyond_inserted_all}
use Rattle.capture.specs.Kinds.{Kinds}
use Rattle.capture.specs.Messages.{Message, statement, short_statement}
use Rattle.capture.specs.Views.{count_of}
use Rattle.capture.specs.Sender.{Sender, told, announced, retained, stating, moved, reduced, close_asks, close, finish_asks, finish}
use Rattle.sink.proofs.Sizes.{leaves}

-- what is behind the reduced list is behind the list
pub announced_reduced : {A : Type 0} {below : A → A → Bool} (order : Order below) (l : List A) (cs : List (A × ℤ)) → announced below l cs ≡ announced below (inserted_all below [] l) cs
announced_reduced order l cs = ap (λ (b : _ → Bool). map (λ c. (c.0, told c.1)) (filter (λ c. not (b c.0)) cs)) (λ i z. sym (beyond_inserted_all order [] l z) i)

-- nothing is beyond the empty frontier
pub retained_none : {A : Type 0} (below : A → A → Bool) (cs : List (A × ℤ)) → retained below [] cs ≡ []
retained_none below [] = refl
retained_none below (c ∷ cs) = retained_none below cs

-- a statement of the first entries of tables is short where they are few
module _ {Y A : Type 0} (value : Y → A) (xs ys : List Y) (zs : List (Y × ℕ)) (a b c : ℕ) where
  few : {X B : Type 0} (f : X → B) (ws : List X) (n m : ℕ) → n ≤ m → leb (length (in_use f n ws)) m ≡ true
  few f ws n m h = le-leb (length (in_use f n ws)) m (omega (arith, length-map (take n ws) f, length-take n ws))

  pub short_stated : a ≤ 32 → b ≤ 32 → c ≤ 256 → short_statement (record { lower = in_use value a xs; upper = in_use value b ys; counts = in_use (count_of value) c zs }) ≡ true
  short_stated ha hb hc = and_from _ _ (few value xs a 32 ha) (and_from _ _ (few value ys b 32 hb) (few (count_of value) zs c 256 hc))

module _ {D A R : Type 0} (k : Kinds D A R) (tables : Bool) (s : Sender D A R) where
  -- the sender moved on, from its parts
  moved_is : (f u g : List A) (cs : List (A × ℤ)) (ts : List (A × ℕ)) (q : List (Message D A R)) → u ≡ f → g ≡ f → cs ≡ retained k.time.below g s.counts → ts ≡ (stating k f s).counts → q ≡ s.queued_statements ++ statement (record { lower = s.frontier; upper = g; counts = ts }) ∷ []
      → record { frontier = u; counts = cs; queued_changes = s.queued_changes; queued_statements = q } ≡ moved k f s
  moved_is f u g cs ts q eu eg ec et eq =
      let state : List A → List (A × ℤ) → List (Message D A R) → Sender D A R = λ x y z. record { frontier = x; counts = y; queued_changes = s.queued_changes; queued_statements = z } in
      let ecs = ec ∙ ap (λ g. retained k.time.below g s.counts) eg in
      let eqs = eq ∙ ap (λ g. s.queued_statements ++ statement (record { lower = s.frontier; upper = g; counts = ts }) ∷ []) eg ∙ ap (λ ts. s.queued_statements ++ statement (record { lower = s.frontier; upper = f; counts = ts }) ∷ []) et in
      λ i. state (eu i) (ecs i) (eqs i)

  -- what an accepted close leaves
  pub closed : (l u g : List A) (cs : List (A × ℤ)) (ts : List (A × ℕ)) (q : List (Message D A R)) → first_no (close_asks k tables l s) ≡ None → u ≡ reduced k l → g ≡ reduced k l → cs ≡ retained k.time.below g s.counts → ts ≡ (stating k (reduced k l) s).counts → q ≡ s.queued_statements ++ statement (record { lower = s.frontier; upper = g; counts = ts }) ∷ []
      → record { frontier = u; counts = cs; queued_changes = s.queued_changes; queued_statements = q } ≡ (close k tables l s).1
  closed l u g cs ts q e eu eg ec et eq =
      let made : (Unit {0}) × Sender D A R = (tt, moved k (reduced k l) s) in moved_is (reduced k l) u g cs ts q eu eg ec et eq ∙ sym (leaves (close_asks k tables l s) s made e)

  -- what an accepted finish leaves
  pub finished : (q : List (Message D A R)) → first_no (finish_asks k tables s) ≡ None → q ≡ s.queued_statements ++ statement (stating k [] s) ∷ []
      → record { frontier = []; counts = []; queued_changes = s.queued_changes; queued_statements = q } ≡ (finish k tables s).1
  finished q e eq =
      let made : (Unit {0}) × Sender D A R = (tt, moved k [] s) in
      moved_is [] [] [] [] _ q refl refl (sym (retained_none k.time.below s.counts)) refl eq ∙ sym (leaves (finish_asks k tables s) s made e)
