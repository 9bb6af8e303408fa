-- What a kind of time shows: its order, its joins and meets, and its start.
use Rattle.std.specs.Prelude.{◌≡◌, Bool, ◌&&◌, T}

-- a partial order, as a test
pub record Order {A : Type 0} (below : A → A → Bool) : Type 0 where
  pub reflexive : (x : A) → T (below x x)
  pub antisymmetric : (x y : A) → T (below x y) → T (below y x) → x ≡ y
  pub transitive : (x y z : A) → T (below x y) → T (below y z) → T (below x z)

-- the join is the least time at or after both
pub record Joins {A : Type 0} (below : A → A → Bool) (join : A → A → A) : Type 0 where
  pub left : (x y : A) → T (below x (join x y))
  pub right : (x y : A) → T (below y (join x y))
  pub least : (x y z : A) → T (below x z) → T (below y z) → T (below (join x y) z)

-- the meet is the greatest time at or before both
pub record Meets {A : Type 0} (below : A → A → Bool) (meet : A → A → A) : Type 0 where
  pub left : (x y : A) → T (below (meet x y) x)
  pub right : (x y : A) → T (below (meet x y) y)
  pub greatest : (x y z : A) → T (below z x) → T (below z y) → T (below z (meet x y))

-- the start is at or before every time
abbrev pub Starts : {A : Type 0} → (A → A → Bool) → A → Type 0
Starts {A} below start = (x : A) → T (below start x)

-- two times are the same when each is at or before the other
abbrev pub at_once : {A : Type 0} → (A → A → Bool) → A → A → Bool
at_once below x y = below x y && below y x

-- pairs are ordered when both parts are
abbrev pub both : {A B : Type 0} → (A → A → Bool) → (B → B → Bool) → (A × B) → (A × B) → Bool
both f g p q = f p.0 q.0 && g p.1 q.1

-- pairs are joined and met part by part
abbrev pub parts : {A B : Type 0} → (A → A → A) → (B → B → B) → (A × B) → (A × B) → (A × B)
parts f g p q = (f p.0 q.0, g p.1 q.1)
