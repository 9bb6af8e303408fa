-- Posts, which take messages, and what a pump does for any post.
use Rattle.std.specs.Prelude.{◌≡◌, ℕ, Bool, true, false, not, List, [], ◌∷◌, ◌++◌, Some, None, Option}
use Rattle.questions.specs.Questions.{first_no}
use Rattle.capture.specs.Messages.{Message}
use Rattle.capture.specs.Answers.{Answer, refused, accepted, only_tables}

-- what a kind of post shows of its posts
pub record Post (D A R P : Type 0) : Type 0 where
  -- the messages that it took, in order
  pub taken : P → List (Message D A R)
  -- whether it would take the message now
  pub ready : P → Message D A R → Bool
  -- whether all that it took is committed
  pub committed : P → Bool

-- the post that these functions make
abbrev pub post : {D A R P : Type 0} → (P → List (Message D A R)) → (P → Message D A R → Bool) → (P → Bool) → Post D A R P
post taken ready committed = record { taken = taken; ready = ready; committed = committed }

module _ {D A R P : Type 0} (o : Post D A R P) where
  -- a pump offers messages in order until a wait or an empty queue: the queue and the post before, whether work remains, the wait, and both after
  pub data Pumped : List (Message D A R) → P → Bool → Option ℕ → List (Message D A R) → P → Type 0 where
    empty : {p : P} → Pumped [] p (not (o.committed p)) None [] p
    waits : {m : Message D A R} {ms : List (Message D A R)} {p q : P} {wait : ℕ} → o.ready p m ≡ false → o.taken q ≡ o.taken p → Pumped (m ∷ ms) p true (Some wait) (m ∷ ms) q
    takes : {m : Message D A R} {ms ns : List (Message D A R)} {p q s : P} {work : Bool} {wait : Option ℕ} → o.ready p m ≡ true → o.taken q ≡ o.taken p ++ m ∷ [] → Pumped ms q work wait ns s → Pumped (m ∷ ms) p work wait ns s

  -- the call of a pump: it is refused and leaves all as it was, or it pumps and tells whether work remains, and the wait
  pub data Pump (tables : Bool) : List (Message D A R) → P → Answer (Bool × Option ℕ) → List (Message D A R) → P → Type 0 where
    refuses : {ms : List (Message D A R)} {p : P} {n : ℕ} → first_no (only_tables tables) ≡ Some n → Pump tables ms p (refused n) ms p
    pumps : {ms ns : List (Message D A R)} {p q : P} {work : Bool} {wait : Option ℕ} → first_no (only_tables tables) ≡ None → Pumped ms p work wait ns q → Pump tables ms p (accepted (work, wait)) ns q

module _ {M : Type 0} where
  -- what an offer of the message m comes to: taken exactly where the post is ready for it, and then it stands last; else a wait
  abbrev pub Polled : Option ℕ → (M → Bool) → List M → M → List M → Type 0
  Polled None ready before m after = (ready m ≡ true) × (after ≡ before ++ m ∷ [])
  Polled (Some wait) ready before m after = (ready m ≡ false) × (after ≡ before)
