-- Lists of times, and lists of times as frontiers. `below x y` says that x is at or before y.
use Rattle.std.specs.Prelude.{ℕ, Bool, true, false, cond, not, ◌&&◌, ◌||◌, T, List, [], ◌∷◌, ◌++◌, map, length, filter, nat_le}
use Rattle.lattice.specs.Orders.{at_once}

module _ {A : Type 0} (below : A → A → Bool) where
  -- x is beyond the list: some element is at or before it; otherwise x is behind the list
  abbrev pub beyond : List A → A → Bool
  beyond [] x = false
  beyond (e ∷ es) x = below e x || beyond es x

  -- the first list is at or before the second: every element of the second is beyond the first
  abbrev pub leq : List A → List A → Bool
  leq es [] = true
  leq es (x ∷ xs) = beyond es x && leq es xs

  -- x stands in the list
  abbrev pub holds : List A → A → Bool
  holds [] x = false
  holds (e ∷ es) x = at_once below e x || holds es x

  -- every element of the first list stands in the second
  abbrev pub within : List A → List A → Bool
  within [] ys = true
  within (x ∷ xs) ys = holds ys x && within xs ys

  -- two frontiers are equal when they hold the same times
  abbrev pub equal : List A → List A → Bool
  equal xs ys = within xs ys && within ys xs

  -- the elements that are not at or after x, in their order
  abbrev pub without : A → List A → List A
  without x es = filter (λ e. not (below x e)) es

  -- x inserted: nothing happens where x is beyond the list; else it takes the place of the elements at or after it, and stands last
  abbrev pub inserted : List A → A → List A
  inserted es x = cond (beyond es x) es (without x es ++ x ∷ [])

  -- each time of the second list inserted in its turn
  abbrev pub inserted_all : List A → List A → List A
  inserted_all es [] = es
  inserted_all es (x ∷ xs) = inserted_all (inserted es x) xs

  -- no list on the way has more than n times
  abbrev pub fits : ℕ → List A → List A → Bool
  fits n es [] = true
  fits n es (x ∷ xs) = nat_le (length (inserted es x)) n && fits n (inserted es x) xs

  -- the meet of two frontiers: the first list inserted, then the second
  abbrev pub meet : List A → List A → List A
  meet xs ys = inserted_all [] (xs ++ ys)

  -- x is ordered neither way with any element
  abbrev pub Apart : A → List A → Type 0
  Apart x [] = Unit {0}
  Apart x (y ∷ ys) = (T (not (below x y)) × T (not (below y x))) × Apart x ys

  -- a frontier: no two of its times are ordered
  abbrev pub Antichain : List A → Type 0
  Antichain [] = Unit {0}
  Antichain (x ∷ xs) = Apart x xs × Antichain xs

-- each time of the first list joined with each of the second, the first list outermost
abbrev pub pairwise : {A : Type 0} → (A → A → A) → List A → List A → List A
pairwise joined [] ys = []
pairwise joined (x ∷ xs) ys = map (joined x) ys ++ pairwise joined xs ys

-- the join of two frontiers: all pairwise joins inserted
abbrev pub join : {A : Type 0} → (A → A → Bool) → (A → A → A) → List A → List A → List A
join below joined xs ys = inserted_all below [] (pairwise joined xs ys)
