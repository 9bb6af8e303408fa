-- A run in which both sorts of reader come level with the sender, so that the law speaks of something.
use Rattle.std.specs.Prelude.{◌≡◌, ℕ, true, List, [], ◌∷◌, map, ℤ}
use Rattle.capture.specs.Messages.{Message}
use Rattle.capture.specs.Readers.{stands_at}
use Rattle.capture.specs.Posts.{Post, post}
use Rattle.capture.specs.Runs.{Call, World, Run}
use Rattle.capture.specs.Law.{all_recorded, given_out}
use Rattle.capture.specs.Deliveries.{rounds, change}

-- a post that is what it took, takes everything, and commits at once
abbrev pub open_post : Post ℕ ℕ ℤ (List (Message ℕ ℕ ℤ))
open_post = post (λ ms. ms) (λ ms m. true) (λ ms. true)

-- some run of the calls ks leads to the world w
abbrev pub Leads : List (Call ℕ ℕ ℤ) → World ℕ ℕ ℤ (List (Message ℕ ℕ ℤ)) (List (Message ℕ ℕ ℤ)) → Type 0
Leads ks w = Run rounds open_post open_post ks w

-- one change is recorded and closed; a held and a prompt reader give it out once each, and stand where the sender does
abbrev pub Sample : Type 0
Sample =
    (ks : List (Call ℕ ℕ ℤ)) × (w : World ℕ ℕ ℤ (List (Message ℕ ℕ ℤ)) (List (Message ℕ ℕ ℤ))) × Leads ks w × (all_recorded ks ≡ change 7 0 ∷ []) × (w.sender.frontier ≡ 1 ∷ []) ×
    (map stands_at w.readers ≡ (1 ∷ []) ∷ (1 ∷ []) ∷ []) × (given_out 0 ks ≡ change 7 0 ∷ []) × (given_out 1 ks ≡ change 7 0 ∷ [])
