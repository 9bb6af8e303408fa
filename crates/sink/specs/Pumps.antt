-- What a pump answers.
use Rattle.std.specs.Prelude.{◌≡◌, ℕ, ◌<◌, Bool, true, not, List, length, Some, None, Ok, Err, Option, Result, nat_le}
use Rattle.questions.specs.declared.Refusal.{Refusal}
use Rattle.questions.specs.Questions.{number_of}
use Rattle.capture.specs.Answers.{Answer, refused, accepted}
use Rattle.capture.specs.Sizes.{queue_messages}
use Rattle.capture.specs.Posts.{Post, Pump}
use Rattle.capture.specs.Stored.{queued}
use Rattle.capture.specs.declared.stored.StoredMessage.{StoredMessage}

-- whether work remains: always after a wait, and else until all is committed
abbrev pub working : Option ℕ → Bool → Bool
working (Some wait) committed = true
working None committed = not committed

-- of n messages some are left after a wait, and else none
abbrev pub Left : Option ℕ → ℕ → ℕ → Type 0
Left (Some wait) taken n = taken < n
Left None taken n = taken ≡ n

-- what the call of a pump answers
abbrev pub pump_answer : Result (Bool × Option ℕ) Refusal → Answer (Bool × Option ℕ)
pump_answer (Ok told) = accepted told
pump_answer (Err f) = refused (number_of f)

-- the call of a pump on a queue: how many messages it has, its table and the post before, what is answered, and the same after
abbrev pub QueuePumped : {X D Y A Z R P : Type 0} → Post D A R P → (X → D) → (Y → A) → (Z → R) → ℕ → List (StoredMessage X Y Z) → P → Result (Bool × Option ℕ) Refusal → ℕ → List (StoredMessage X Y Z) → P → Type 0
QueuePumped o data_value time_value amount_value n table post result n' table' post' =
    Pump o (nat_le queue_messages (length table)) (queued data_value time_value amount_value n table) post (pump_answer result) (queued data_value time_value amount_value n' table') post'

-- a refusal leaves what it should
abbrev pub WhereRefused : {X : Type 0} → Result X Refusal → Type 0 → Type 0
WhereRefused (Ok x) untouched = Unit {0}
WhereRefused (Err f) untouched = untouched
