-- How a call of feed comes to what the meaning says.
use Rattle.std.proofs.Common.{◌≡◌, ℕ, ◌-◌, ◌<◌, ◌≤◌, Bool, false, not, List, [], ◌∷◌, map, length, take, set, ℤ, Some, None, Ok, Err, Option, Result, sym, refl, ap, ◌∙◌, subst, arith}
use Rattle.std.proofs.lemmas.List.{length-map, length-take, take_more_set}
use Rattle.std.proofs.lemmas.List.Sums.{length-filter, count_by-le-length}
use Rattle.questions.specs.declared.Refusal.{Refusal}
use Rattle.questions.specs.Questions.{number_of, first_no}
use Rattle.frontier.specs.Frontiers.{beyond}
use Rattle.frontier.specs.Tables.{in_use, frontier_size}
use Rattle.capture.specs.Answers.{Answer, accepted, refused, answer}
use Rattle.capture.specs.Held.{Held as Meant, feed, feed_asks, taken_in, published}
use Rattle.capture.specs.Kinds.{Kinds}
use Rattle.capture.specs.Messages.{Change, Statement, Message, changes, statement, those_behind}
use Rattle.capture.specs.Sizes.{reader_changes}
use Rattle.capture.specs.Statements.{lower_edge}
use Rattle.capture.specs.declared.stored.StoredProgress.{StoredProgress}
use Rattle.iterator.specs.Intervals.{LetsOut}
use Rattle.iterator.specs.Readers.{Tables, tables, Few, after, held_in, Fed}
use Rattle.iterator.specs.declared.held.Held.{Held}
use Rattle.iterator.proofs.Published.{moved_to, stood, moved}

module _ {X S : Type 0} (asks : List (Bool × ℕ)) (s : S) (made : X × S) where
  abbrev outcome : Option ℕ → Answer X × S
  outcome o = elim o [ Some i ↦ (refused i, s) | None ↦ (accepted made.0, made.1) ]

  answer_no : (n : ℕ) → first_no asks ≡ Some n → answer asks s made ≡ (refused n, s)
  answer_no n e = ap outcome e

  answer_yes : first_no asks ≡ None → answer asks s made ≡ (accepted made.0, made.1)
  answer_yes e = ap outcome e

-- the first entry of a table is written
pub first_in_use : {X A : Type 0} (value : X → A) (xs : List X) (x : X) (v : A) → 0 < length xs → value x ≡ v → in_use value 1 (set xs 0 x) ≡ v ∷ []
first_in_use value xs x v h e = ap (map value) (take_more_set xs 0 x h) ∙ ap (λ y. y ∷ []) e

-- no more changes are behind a frontier than there are
fewer_behind : {X D A R : Type 0} (below : A → A → Bool) (edge : List A) (reads : X → Change D A R) (n : ℕ) (xs : List X) → length (those_behind below edge (in_use reads n xs)) ≤ n
fewer_behind {D = D} {A = A} {R = R} below edge reads n xs =
    let p : Change D A R → Bool = λ c. not (beyond below edge c.time) in
    omega (arith, length-filter p (in_use reads n xs), count_by-le-length p (in_use reads n xs), length-map (take n xs) reads, length-take n xs)

-- an interval is let out of a reader in tables, by its lower edge
module _ {X Y D A R : Type 0} (value : Y → A) (reads : X → Change D A R) (k : Kinds D A R) (hn : Held) (tn : Tables X Y) (E : List A) (edge : E ≡ lower_edge k.time (held_in value reads hn tn).progress) (R' : List Y) (U' P P' : List X) (Q Q' : List Y) where
  abbrev left : Tables X Y
  left = tables tn.frontier R' tn.counts U' tn.waiting

  abbrev mid : Meant D A R
  mid = held_in value reads hn tn

  let_out : (r : Option (ℕ × ℕ)) → LetsOut k.time.below value reads r E hn.reported hn.held tn.reported R' tn.updates U' P P' Q Q' → held_in value reads (after r hn) left ≡ (published k mid).1
  let_out None l =
      let e = stood k mid E edge l.0 in
      ap (λ rs. held_in value reads hn (tables tn.frontier rs tn.counts U' tn.waiting)) l.1 ∙ ap (λ us. held_in value reads hn (tables tn.frontier tn.reported tn.counts us tn.waiting)) l.2 ∙ sym (ap (λ z. z.1) e)
  let_out (Some q) l =
      let e = moved k mid E edge l.0 in
      ap (λ rs. record { progress = mid.progress; reported = rs; updates = in_use reads (hn.held - q.0) U'; drops = hn.drops }) l.1.0 ∙ ap (λ us. record { progress = mid.progress; reported = E; updates = us; drops = hn.drops }) l.2.0 ∙ sym (ap (λ z. z.1) e)

module _ {X Y D A R : Type 0} (value : Y → A) (reads : X → Change D A R) (k : Kinds D A R) (sizes : Bool) (m : Message D A R) (h : Held) (t : Tables X Y) where
  abbrev before : Meant D A R
  before = held_in value reads h t

  pub fed_refused : (f : Refusal) (P : List X) (Q : List Y) → first_no (feed_asks k sizes m before) ≡ Some (number_of f) → Fed value reads k sizes m (Err f) h t h t P P Q Q
  fed_refused f P Q e =
      let is = answer_no (feed_asks k sizes m before) before (published k (taken_in k m before)) (number_of f) e in
      (sym (ap (λ z. z.0) is), sym (ap (λ z. z.1) is), (refl, refl), (omega arith, omega arith, refl, refl))

  -- the reader and its tables once the message is taken in, and the lower edge then
  module _ (none : first_no (feed_asks k sizes m before) ≡ None) (hn : Held) (tn : Tables X Y) (taken : held_in value reads hn tn ≡ taken_in k m before) (few : Few hn) (E : List A) (edge : E ≡ lower_edge k.time (held_in value reads hn tn).progress) (short : length E ≤ frontier_size) (R' : List Y) (U' P P' : List X) (Q Q' : List Y) where
    abbrev leaves : Tables X Y
    leaves = tables tn.frontier R' tn.counts U' tn.waiting

    fed_as : (v : Option (List (Change D A R) × List A) × Meant D A R) → published k (held_in value reads hn tn) ≡ v → feed k sizes m before ≡ (accepted v.0, v.1)
    fed_as v e = answer_yes (feed_asks k sizes m before) before (published k (taken_in k m before)) none ∙ ap (λ z. (accepted z.0, z.1)) (sym (ap (published k) taken) ∙ e)

    left_is : (r : Option (ℕ × ℕ)) → LetsOut k.time.below value reads r E hn.reported hn.held tn.reported R' tn.updates U' P P' Q Q' → held_in value reads (after r hn) leaves ≡ (feed k sizes m before).1
    left_is r l = let_out value reads k hn tn E edge R' U' P P' Q Q' r l ∙ sym (ap (λ z. z.1) (fed_as (published k (held_in value reads hn tn)) refl))

    fed_out : (r : Option (ℕ × ℕ)) → LetsOut k.time.below value reads r E hn.reported hn.held tn.reported R' tn.updates U' P P' Q Q' → Fed value reads k sizes m (Ok r) h t (after r hn) leaves P P' Q Q'
    fed_out None l =
        let is = fed_as (None, held_in value reads hn tn) (stood k (held_in value reads hn tn) E edge l.0) in
        (sym (ap (λ z. z.0) is), left_is None l, few, (omega arith, omega arith, l.3, l.4))
    fed_out (Some q) l =
        let mid = held_in value reads hn tn in
        let behind = those_behind k.time.below E mid.updates in
        let is = fed_as (Some (behind, E), moved_to k mid E) (moved k mid E edge l.0) in
        let out : ◌≡◌ {A = Answer (Option (List (Change D A R) × List A))} (accepted (Some (in_use reads q.0 P', in_use value q.1 Q'))) (accepted (Some (behind, E))) = ap (λ cs. accepted (Some (cs, in_use value q.1 Q'))) l.3.0.0 ∙ ap (λ f. accepted (Some (behind, f))) l.4.0.0 in
        let times : q.1 ≤ frontier_size = omega (arith, l.1.1, short) in
        let gone : q.0 ≤ reader_changes = omega (arith, l.3.0.1, fewer_behind k.time.below E reads hn.held tn.updates, few.4) in
        (out ∙ sym (ap (λ z. z.0) is), left_is (Some q) l, (few.0, few.1, few.2, times, omega (arith, few.4)), (gone, times, l.3.1, l.4.1))

    -- where every question is answered yes, and the interval is let out
    pub fed_accepted : (r : Option (ℕ × ℕ)) (h' : Held) → h' ≡ after r hn → LetsOut k.time.below value reads r E hn.reported hn.held tn.reported R' tn.updates U' P P' Q Q' → Fed value reads k sizes m (Ok r) h t h' leaves P P' Q Q'
    fed_accepted r h' e l =
        let Goal : Held → Type 0 = λ x. Fed value reads k sizes m (Ok r) h t x leaves P P' Q Q' in
        subst Goal (sym e) (fed_out r l)

-- a table that is too short
pub short_refused : {D A R : Type 0} (k : Kinds D A R) (sizes : Bool) (m : Message D A R) (h : Meant D A R) → sizes ≡ false → first_no (feed_asks k sizes m h) ≡ Some 1
short_refused k sizes m h e = ap (λ b. first_no (feed_asks k b m h)) e ∙ at_once m
  where
    at_once : (m : Message _ _ _) → first_no (feed_asks k false m h) ≡ Some 1
    at_once (changes cs) = refl
    at_once (statement s) = refl

-- the same reader but for its counts, its changes and its tally
pub same_held : {D A R : Type 0} {f g : List A} {c c' : List (A × ℤ)} {w : List (Statement A)} {u u' : List (Change D A R)} {d d' : ℕ} → c ≡ c' → u ≡ u' → d ≡ d' → ◌≡◌ {A = Meant D A R} (record { progress = record { frontier = f; counts = c; waiting = w }; reported = g; updates = u; drops = d }) (record { progress = record { frontier = f; counts = c'; waiting = w }; reported = g; updates = u'; drops = d' })
same_held {f = f} {g = g} {c' = c'} {w = w} {u = u} {u' = u'} {d = d} e a b = ap (λ x. record { progress = record { frontier = f; counts = x; waiting = w }; reported = g; updates = u; drops = d }) e ∙ ap (λ x. record { progress = record { frontier = f; counts = c'; waiting = w }; reported = g; updates = x; drops = d }) a ∙ ap (λ x. record { progress = record { frontier = f; counts = c'; waiting = w }; reported = g; updates = u'; drops = x }) b

-- a call that hands on what another answers and leaves
module _ {X Y D A R : Type 0} (value : Y → A) (reads : X → Change D A R) (k : Kinds D A R) (h : Held) (t : Tables X Y) (P : List X) (Q : List Y) where
  abbrev FedSo : Bool → Message D A R → Result (Option (ℕ × ℕ)) Refusal → Held → List Y → List Y → List (Y × ℤ) → List X → List (StoredProgress Y) → List X → List Y → Type 0
  FedSo sizes m r h' F R' C U W P' Q' = Fed value reads k sizes m r h t h' (tables F R' C U W) P P' Q Q'

  pub fed_same :
      {s s₁ : Bool} {m m₁ : Message D A R} {r r₁ : Result (Option (ℕ × ℕ)) Refusal} {h' h₁ : Held} {F F₁ R' R₁ : List Y} {C C₁ : List (Y × ℤ)} {U U₁ : List X} {W W₁ : List (StoredProgress Y)} {P' P₁ : List X} {Q' Q₁ : List Y}
      → s ≡ s₁ → m ≡ m₁ → r ≡ r₁ → h' ≡ h₁ → F ≡ F₁ → R' ≡ R₁ → C ≡ C₁ → U ≡ U₁ → W ≡ W₁ → P' ≡ P₁ → Q' ≡ Q₁
      → FedSo s₁ m₁ r₁ h₁ F₁ R₁ C₁ U₁ W₁ P₁ Q₁ → FedSo s m r h' F R' C U W P' Q'
  fed_same {s} {s₁} {m} {m₁} {r} {r₁} {h'} {h₁} {F} {F₁} {R'} {R₁} {C} {C₁} {U} {U₁} {W} {W₁} {P'} {P₁} {Q'} {Q₁} es em er eh eF eR eC eU eW eP eQ f =
      subst (λ x. FedSo x m r h' F R' C U W P' Q') (sym es)
      (subst (λ x. FedSo s₁ x r h' F R' C U W P' Q') (sym em)
      (subst (λ x. FedSo s₁ m₁ x h' F R' C U W P' Q') (sym er)
      (subst (λ x. FedSo s₁ m₁ r₁ x F R' C U W P' Q') (sym eh)
      (subst (λ x. FedSo s₁ m₁ r₁ h₁ x R' C U W P' Q') (sym eF)
      (subst (λ x. FedSo s₁ m₁ r₁ h₁ F₁ x C U W P' Q') (sym eR)
      (subst (λ x. FedSo s₁ m₁ r₁ h₁ F₁ R₁ x U W P' Q') (sym eC)
      (subst (λ x. FedSo s₁ m₁ r₁ h₁ F₁ R₁ C₁ x W P' Q') (sym eU)
      (subst (λ x. FedSo s₁ m₁ r₁ h₁ F₁ R₁ C₁ U₁ x P' Q') (sym eW)
      (subst (λ x. FedSo s₁ m₁ r₁ h₁ F₁ R₁ C₁ U₁ W₁ x Q') (sym eP)
      (subst (λ x. FedSo s₁ m₁ r₁ h₁ F₁ R₁ C₁ U₁ W₁ P₁ x) (sym eQ) f))))))))))
