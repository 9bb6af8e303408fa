-- What holds of frontiers of every kind of time.
use Rattle.std.specs.Prelude.{◌≡◌, Bool, ◌&&◌, ◌||◌, List}
use Rattle.frontier.specs.Frontiers.{beyond, leq, equal, inserted, meet, join, Antichain}

module _ {A : Type 0} (below : A → A → Bool) where
  -- a time is beyond the meet of two lists exactly when it is beyond either
  abbrev pub BeyondEither : Type 0
  BeyondEither = (xs ys : List A) (t : A) → beyond below (meet below xs ys) t ≡ (beyond below xs t || beyond below ys t)

  -- inserting a time into a frontier gives a frontier
  abbrev pub InsertKeeps : Type 0
  InsertKeeps = (xs : List A) (t : A) → Antichain below xs → Antichain below (inserted below xs t)

  -- the meet of any two lists is a frontier
  abbrev pub MeetKeeps : Type 0
  MeetKeeps = (xs ys : List A) → Antichain below (meet below xs ys)

  -- two frontiers are equal exactly when each is at or before the other
  abbrev pub EqualByOrder : Type 0
  EqualByOrder = (xs ys : List A) → Antichain below xs → Antichain below ys → equal below xs ys ≡ (leq below xs ys && leq below ys xs)

module _ {A : Type 0} (below : A → A → Bool) (joined : A → A → A) where
  -- a time is beyond the join of two lists exactly when it is beyond both
  abbrev pub BeyondBoth : Type 0
  BeyondBoth = (xs ys : List A) (t : A) → beyond below (join below joined xs ys) t ≡ (beyond below xs t && beyond below ys t)

  -- the join of any two lists is a frontier
  abbrev pub JoinKeeps : Type 0
  JoinKeeps = (xs ys : List A) → Antichain below (join below joined xs ys)
