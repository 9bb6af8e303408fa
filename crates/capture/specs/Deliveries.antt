-- Deliveries worked through, over rounds and pairs of rounds: each is said of the definitions that the law is about.
use Rattle.std.specs.Prelude.{◌≡◌, ℕ, max, true, List, [], ◌∷◌, ℤ, pos, Some, None, Option, nat_eq, nat_le}
use Rattle.lattice.specs.Orders.{both, parts}
use Rattle.lattice.specs.Sameness.{eqb_signed}
use Rattle.frontier.specs.Frontiers.{join}
use Rattle.capture.specs.Kinds.{Kinds, kinds}
use Rattle.capture.specs.Messages.{Change, Message, changes, statement}
use Rattle.capture.specs.Answers.{Answer, refused, accepted}
use Rattle.capture.specs.Held.{Held, feed, fresh_held}
use Rattle.capture.specs.Sender.{Sender, record_changes, close, fresh_sender}

-- plain rounds, with numbers as data and signed numbers as amounts
abbrev pub rounds : Kinds ℕ ℕ ℤ
rounds = kinds nat_eq nat_le max 0 eqb_signed

-- pairs of rounds
abbrev pub round_pairs : Kinds ℕ (ℕ × ℕ) ℤ
round_pairs = kinds nat_eq (both nat_le nat_le) (parts max max) (0, 0) eqb_signed

module _ {A : Type 0} where
  -- the data d at the time x, by 1
  abbrev pub change : ℕ → A → Change ℕ A ℤ
  change d x = record { what = d; time = x; amount = pos 1 }

  -- a message with this one change
  abbrev pub one : Change ℕ A ℤ → Message ℕ A ℤ
  one c = changes (c ∷ [])

  -- the statement from l to u with the counts c, as a message
  abbrev pub s : List A → List A → List (A × ℕ) → Message ℕ A ℤ
  s l u c = statement (record { lower = l; upper = u; counts = c })

  -- an interval with these changes and this frontier
  abbrev pub interval : List (Change ℕ A ℤ) → List A → Answer (Option (List (Change ℕ A ℤ) × List A))
  interval cs f = accepted (Some (cs, f))

  -- accepted, and the frontier stood still
  abbrev pub still : Answer (Option (List (Change ℕ A ℤ) × List A))
  still = accepted None

  -- a reader without waiting statements and held changes: its progress frontier, counts, reported frontier and drops
  abbrev pub reader : List A → List (A × ℤ) → List A → ℕ → Held ℕ A ℤ
  reader f c reported n = record { progress = record { frontier = f; counts = c; waiting = [] }; reported = reported; updates = []; drops = n }

  -- what a reader answers to messages fed one after the other, and what it is after them
  abbrev pub fed_all : Kinds ℕ A ℤ → Held ℕ A ℤ → List (Message ℕ A ℤ) → List (Answer (Option (List (Change ℕ A ℤ) × List A))) × Held ℕ A ℤ
  fed_all k h [] = ([], h)
  fed_all k h (m ∷ ms) = ((feed k true m h).0 ∷ (fed_all k (feed k true m h).1 ms).0, (fed_all k (feed k true m h).1 ms).1)

  -- the same of a fresh reader
  abbrev pub from_fresh : Kinds ℕ A ℤ → List (Message ℕ A ℤ) → List (Answer (Option (List (Change ℕ A ℤ) × List A))) × Held ℕ A ℤ
  from_fresh k ms = fed_all k (fresh_held k) ms

-- a sender after one change at 4 and a close at 5
abbrev pub closed_at_5 : Sender ℕ ℕ ℤ
closed_at_5 = (close rounds true (5 ∷ []) (record_changes rounds true (change 1 4 ∷ []) (fresh_sender rounds)).1).1

-- what comes of each delivery
pub record Deliveries : Type 0 where
  -- a change at 0, then the statement that counts it, which publishes it; the change again is dropped
  pub in_order : from_fresh rounds (one (change 1 0) ∷ s (0 ∷ []) (1 ∷ []) ((0, 1) ∷ []) ∷ one (change 1 0) ∷ []) ≡ (still ∷ interval (change 1 0 ∷ []) (1 ∷ []) ∷ still ∷ [], reader (1 ∷ []) [] (1 ∷ []) 1)
  -- the statement first: the same, at the second message
  pub other_way : from_fresh rounds (s (0 ∷ []) (1 ∷ []) ((0, 1) ∷ []) ∷ one (change 1 0) ∷ []) ≡ (still ∷ interval (change 1 0 ∷ []) (1 ∷ []) ∷ [], reader (1 ∷ []) [] (1 ∷ []) 0)
  -- a statement from 1 waits for that from 0, then both act: the progress frontier is {2}, and the reported one {0}
  pub out_of_order : from_fresh rounds (s (1 ∷ []) (2 ∷ []) [] ∷ s (0 ∷ []) (1 ∷ []) ((0, 1) ∷ []) ∷ []) ≡ (still ∷ still ∷ [], reader (2 ∷ []) ((0, pos 1) ∷ []) (0 ∷ []) 0)
  -- then comes the change at 0: the frontier is {2}
  pub then_change : from_fresh rounds (s (1 ∷ []) (2 ∷ []) [] ∷ s (0 ∷ []) (1 ∷ []) ((0, 1) ∷ []) ∷ one (change 1 0) ∷ []) ≡ (still ∷ still ∷ interval (change 1 0 ∷ []) (2 ∷ []) ∷ [], reader (2 ∷ []) [] (2 ∷ []) 0)
  -- a statement counts one change at (0, 0), which is missing: the reported frontier is {(0, 0)}
  pub pair_missing : from_fresh round_pairs (s ((0, 0) ∷ []) ((1, 0) ∷ (0, 1) ∷ []) (((0, 0), 1) ∷ []) ∷ []) ≡ (still ∷ [], reader ((1, 0) ∷ (0, 1) ∷ []) (((0, 0), pos 1) ∷ []) ((0, 0) ∷ []) 0)
  -- and after it {(1, 0), (0, 1)}
  pub pair_there : from_fresh round_pairs (s ((0, 0) ∷ []) ((1, 0) ∷ (0, 1) ∷ []) (((0, 0), 1) ∷ []) ∷ one (change 1 (0, 0)) ∷ []) ≡ (still ∷ interval (change 1 (0, 0) ∷ []) ((1, 0) ∷ (0, 1) ∷ []) ∷ [], reader ((1, 0) ∷ (0, 1) ∷ []) [] ((1, 0) ∷ (0, 1) ∷ []) 0)
  -- a sender records a change at 4 and closes at 5, and states that
  pub stated : closed_at_5.queued_statements ≡ s (0 ∷ []) (5 ∷ []) ((4, 1) ∷ []) ∷ []
  -- then a change at 4 is refused by 3, and a close at 5 by 4
  pub too_late : (record_changes rounds true (change 2 4 ∷ []) closed_at_5).0 ≡ refused 3
  pub no_advance : (close rounds true (5 ∷ []) closed_at_5).0 ≡ refused 4
  -- the upper list {(0, 1)} is joined to the progress frontier {(2, 0)}, and does not take its place
  pub joins_parts : join (both nat_le nat_le) (parts max max) ((0, 1) ∷ []) ((2, 0) ∷ []) ≡ (2, 1) ∷ []
