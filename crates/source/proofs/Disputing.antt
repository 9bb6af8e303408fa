-- Changes that are disputed, one after the other.
use Rattle.std.proofs.Common.{◌≡◌, ℕ, ◌+◌, ◌-◌, ◌<◌, ◌≤◌, Bool, true, false, not, ◌&&◌, ◌||◌, List, [], ◌∷◌, ◌++◌, map, length, get_or, take, drop, sym, refl, ap, ◌∙◌}
use Rattle.std.proofs.lemmas.List.{append_assoc, append-nil, map_more}
use Rattle.std.proofs.lemmas.Bool.{and_right, or_left, or_right, or_from}
use Rattle.frontier.specs.Frontiers.{beyond}
use Rattle.frontier.proofs.Tables.{sub_zero}
use Rattle.frontier.proofs.Walks.{next, walked}
use Rattle.capture.specs.Kinds.{Kinds}
use Rattle.capture.specs.Messages.{Change, coincide}
use Rattle.capture.specs.Prompt.{disputed, undisputed}

regroup : (a b c : Bool) → (a || (b || c)) ≡ ((a || b) || c)
regroup true b c = refl
regroup false b c = refl

and_true : (b : Bool) → b ≡ (b && true)
and_true true = refl
and_true false = refl

module _ {D A R : Type 0} (k : Kinds D A R) where
  -- the two have the same data and time, and different amounts
  abbrev pub differ : Change D A R → Change D A R → Bool
  differ e c = coincide k e c && not (k.same_amount e.amount c.amount)

  disputed_append : (xs ys : List (Change D A R)) (c : Change D A R) → disputed k (xs ++ ys) c ≡ (disputed k xs c || disputed k ys c)
  disputed_append [] ys c = refl
  disputed_append (x ∷ xs) ys c = ap (λ b. differ x c || b) (disputed_append xs ys c) ∙ regroup (differ x c) (disputed k xs c) (disputed k ys c)

  -- the change is beyond the frontier f, and disputed by a pending or an earlier one
  abbrev pub disputed_beyond : List A → List (Change D A R) → List (Change D A R) → Change D A R → Bool
  disputed_beyond f pending earlier c = beyond k.time.below f c.time && disputed k (pending ++ earlier) c

  module _ (f : List A) (pending earlier : List (Change D A R)) (c : Change D A R) where
    pub by_pending : disputed k pending c ≡ true → beyond k.time.below f c.time ≡ disputed_beyond f pending earlier c
    by_pending e = and_true (beyond k.time.below f c.time) ∙ ap (λ b. beyond k.time.below f c.time && b) (sym (disputed_append pending earlier c ∙ or_left (disputed k pending c) (disputed k earlier c) e))

    pub by_earlier : disputed k earlier c ≡ true → beyond k.time.below f c.time ≡ disputed_beyond f pending earlier c
    by_earlier e = and_true (beyond k.time.below f c.time) ∙ ap (λ b. beyond k.time.below f c.time && b) (sym (disputed_append pending earlier c ∙ or_right (disputed k pending c) (disputed k earlier c) e))

    pub by_none : disputed k pending c ≡ false → disputed k earlier c ≡ false → false ≡ disputed_beyond f pending earlier c
    by_none e h = sym (and_right (beyond k.time.below f c.time) (disputed k (pending ++ earlier) c) (disputed_append pending earlier c ∙ or_from (disputed k pending c) (disputed k earlier c) e h))

-- a loop over the changes of a message, the earlier of which are its front part
module _ {X D A R : Type 0} (k : Kinds D A R) (reads : X → Change D A R) (f : List A) (pending : List (Change D A R)) (xs : List X) where
  -- what is left answers for the whole
  abbrev pub UndisputedFrom : ℕ → Type 0
  UndisputedFrom i = undisputed k f (pending ++ map reads (take i xs)) (map reads (drop i xs)) ≡ undisputed k f pending (map reads xs)

  pub undisputed_first : UndisputedFrom 0
  undisputed_first = ap (λ l. undisputed k f l (map reads xs)) (append-nil pending)

  module _ (i : ℕ) (x : X) (h : i < length xs) (read : x ≡ get_or xs i x) (inv : UndisputedFrom i) where
    turn : undisputed k f (pending ++ map reads (take i xs)) (map reads (drop i xs)) ≡ (not (disputed_beyond k f pending (map reads (take i xs)) (reads x)) && undisputed k f ((pending ++ map reads (take i xs)) ++ reads x ∷ []) (map reads (drop (i + 1) xs)))
    turn = next reads xs i x h read (undisputed k f (pending ++ map reads (take i xs)))

    cut : disputed_beyond k f pending (map reads (take (i - 0) xs)) (reads x) ≡ disputed_beyond k f pending (map reads (take i xs)) (reads x)
    cut = ap (λ j. disputed_beyond k f pending (map reads (take j xs)) (reads x)) (sub_zero i)

    pub undisputed_stop : disputed_beyond k f pending (map reads (take (i - 0) xs)) (reads x) ≡ true → false ≡ undisputed k f pending (map reads xs)
    undisputed_stop e = sym (ap (λ b. not b && undisputed k f ((pending ++ map reads (take i xs)) ++ reads x ∷ []) (map reads (drop (i + 1) xs))) (sym cut ∙ e)) ∙ sym turn ∙ inv

    pub undisputed_on : disputed_beyond k f pending (map reads (take (i - 0) xs)) (reads x) ≡ false → UndisputedFrom (i + 1)
    undisputed_on e =
        ap (λ l. undisputed k f l (map reads (drop (i + 1) xs))) (ap (λ l. pending ++ l) (map_more reads xs i x h ∙ ap (λ y. map reads (take i xs) ++ reads y ∷ []) (sym read)) ∙ sym (append_assoc pending (map reads (take i xs)) (reads x ∷ [])))
        ∙ sym (ap (λ b. not b && undisputed k f ((pending ++ map reads (take i xs)) ++ reads x ∷ []) (map reads (drop (i + 1) xs))) (sym cut ∙ e)) ∙ sym turn ∙ inv

  pub undisputed_all : (i : ℕ) → length xs ≤ i → UndisputedFrom i → true ≡ undisputed k f pending (map reads xs)
  undisputed_all i h inv = sym (walked reads xs i (undisputed k f (pending ++ map reads (take i xs))) h) ∙ inv
