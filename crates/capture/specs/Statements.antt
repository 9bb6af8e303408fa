-- How statements act on a reader's progress: on its progress frontier and on its counts.
use Rattle.std.specs.Prelude.{ℕ, zero, suc, Bool, cond, not, ◌&&◌, List, [], ◌∷◌, ◌++◌, map, length, ℤ, pos, negsuc, Some, None, filter, Option, nat_le, nat_lt}
use Rattle.std.specs.List.{list_all}
use Rattle.capture.specs.Distinct.{is_distinct}
use Rattle.lattice.specs.Orders.{at_once}
use Rattle.frontier.specs.Frontiers.{beyond, leq, inserted_all, fits, pairwise, join}
use Rattle.frontier.specs.Counts.{added_all, room, positives}
use Rattle.frontier.specs.Tables.{frontier_size}
use Rattle.capture.specs.Kinds.{Time}
use Rattle.capture.specs.Sizes.{largest_count, reader_statements, reader_counts}
use Rattle.capture.specs.Messages.{Change, Statement, short_statement}

-- how far a reader has got along the statements
pub record Progress (A : Type 0) : Type 0 where
  -- the progress frontier: the statements that acted reach to it without a gap
  pub frontier : List A
  -- for each time the changes announced less the distinct ones that came; a change may come before it is announced
  pub counts : List (A × ℤ)
  -- the statements that cannot act yet, in order of arrival
  pub waiting : List (Statement A)

-- one change at its time has come
abbrev pub lowered : {D A R : Type 0} → List (Change D A R) → List (A × ℤ)
lowered cs = map (λ c. (c.time, negsuc 0)) cs

-- the progress with other statements waiting
abbrev pub with_waiting : {A : Type 0} → Progress A → List (Statement A) → Progress A
with_waiting p ss = record { frontier = p.frontier; counts = p.counts; waiting = ss }

-- no count is over the largest
abbrev pub small : {A : Type 0} → List (A × ℕ) → Bool
small cs = list_all (λ c. nat_le c.1 largest_count) cs

module _ {A : Type 0} (below : A → A → Bool) where
  -- each counted time is beyond the lower list and behind the upper one
  abbrev pub inside : List A → List A → List (A × ℕ) → Bool
  inside lower upper cs = list_all (λ c. beyond below lower c.0 && not (beyond below upper c.0)) cs

  -- no time is counted twice
  abbrev pub counted_once : List (A × ℕ) → Bool
  counted_once cs = is_distinct (λ c e. at_once below c.0 e.0) cs

  -- a statement whose upper is at or before the progress frontier f says nothing new, and is dropped
  abbrev pub passed : List A → Statement A → Bool
  passed f s = leq below s.upper f

  -- a statement can act when its lower is at or before the progress frontier f, so that it leaves no gap
  abbrev pub ready : List A → Statement A → Bool
  ready f s = leq below s.lower f

  -- the counts that an act adds: those that are not behind the progress frontier f
  abbrev pub counts_beyond : List A → List (A × ℕ) → List (A × ℤ)
  counts_beyond f cs = map (λ c. (c.0, pos c.1)) (filter (λ c. beyond below f c.0) cs)

  -- the statements that are not passed, in their order
  abbrev pub not_passed : List A → List (Statement A) → List (Statement A)
  not_passed f ss = filter (λ s. not (passed f s)) ss

  -- the first waiting statement that can act, and the others in their order
  abbrev pub first_ready : List A → List (Statement A) → Option (Statement A × List (Statement A))
  first_ready f [] = None
  first_ready f (s ∷ ss) = cond (ready f s) (Some (s, ss)) (elim (first_ready f ss) [ None ↦ None | Some q ↦ Some (q.0, s ∷ q.1) ])

module _ {A : Type 0} (t : Time A) where
  -- the progress of a fresh reader
  abbrev pub fresh_progress : Progress A
  fresh_progress = record { frontier = t.start ∷ []; counts = []; waiting = [] }

  -- the statement acts: its counts are added, its upper is joined to the progress frontier, and passed statements no longer wait
  abbrev pub act : Statement A → Progress A → Progress A
  act s p =
      let f = join t.below t.joined s.upper p.frontier in
      record { frontier = f; counts = added_all t.below p.counts (counts_beyond t.below p.frontier s.counts); waiting = not_passed t.below f p.waiting }

  -- what an act asks: that the counts fit entry by entry, and the progress frontier after each insert
  abbrev pub act_asks : Statement A → Progress A → List (Bool × ℕ)
  act_asks s p = (room t.below reader_counts p.counts (counts_beyond t.below p.frontier s.counts), 11) ∷ (fits t.below frontier_size [] (pairwise t.joined s.upper p.frontier), 12) ∷ []

  -- waiting statements act in turn until none can; each act takes one away at least, so that n = how many wait is enough
  abbrev pub drained : ℕ → Progress A → Progress A
  drained zero p = p
  drained (suc n) p = elim (first_ready t.below p.frontier p.waiting) [ None ↦ p | Some q ↦ drained n (act q.0 (with_waiting p q.1)) ]

  -- what those acts ask, one act after the other
  abbrev pub drain_asks : ℕ → Progress A → List (Bool × ℕ)
  drain_asks zero p = []
  drain_asks (suc n) p = elim (first_ready t.below p.frontier p.waiting) [ None ↦ [] | Some q ↦ act_asks q.0 (with_waiting p q.1) ++ drain_asks n (act q.0 (with_waiting p q.1)) ]

  -- a statement comes: it is dropped, or acts and lets others act, or waits
  abbrev pub advanced : Statement A → Progress A → Progress A
  advanced s p =
      cond (passed t.below p.frontier s) p
      (cond (ready t.below p.frontier s) (drained (length p.waiting) (act s p)) (with_waiting p (p.waiting ++ s ∷ [])))

  -- what a statement is asked: of all 2, 5, 6 and 7; of one that acts 11 and 12 at each act; of one that must wait 10
  abbrev pub statement_asks : Statement A → Progress A → List (Bool × ℕ)
  statement_asks s p =
      (short_statement s, 2) ∷ (small s.counts, 5) ∷ (inside t.below s.lower s.upper s.counts, 6) ∷ (counted_once t.below s.counts, 7) ∷
      cond (passed t.below p.frontier s) []
      (cond (ready t.below p.frontier s) (act_asks s p ++ drain_asks (length p.waiting) (act s p))
      ((nat_lt (length p.waiting) reader_statements, 10) ∷ []))

  -- the lower edge: the progress frontier with the times inserted at which announced changes are missing
  abbrev pub lower_edge : Progress A → List A
  lower_edge p = inserted_all t.below p.frontier (positives p.counts)

  -- whether the lower edge has room after each insert
  abbrev pub edge_fits : Progress A → Bool
  edge_fits p = fits t.below frontier_size p.frontier (positives p.counts)
