-- The held reader, which holds changes back until its frontier is past them.
use Rattle.std.specs.Prelude.{ℕ, ◌+◌, ◌-◌, min, Bool, cond, List, [], ◌∷◌, ◌++◌, length, Some, None, Option, nat_le}
use Rattle.frontier.specs.Frontiers.{equal}
use Rattle.frontier.specs.Counts.{added_all, room}
use Rattle.capture.specs.Kinds.{Kinds}
use Rattle.capture.specs.Sizes.{reader_changes, reader_counts, largest_tally}
use Rattle.capture.specs.Messages.{Change, Message, changes, statement, short_changes, fresh, those_behind, those_beyond}
use Rattle.capture.specs.Answers.{Answer, answer}
use Rattle.capture.specs.Statements.{Progress, fresh_progress, lowered, advanced, statement_asks, lower_edge, edge_fits}

-- a held reader between calls
pub record Held (D A R : Type 0) : Type 0 where
  -- what the statements and changes so far come to
  pub progress : Progress A
  -- the frontier that it reported last, which is this reader's frontier: all changes behind it are published
  pub reported : List A
  -- the changes held, all of them beyond the reported frontier, in order of arrival
  pub updates : List (Change D A R)
  -- how many changes were dropped
  pub drops : ℕ

module _ {D A R : Type 0} (k : Kinds D A R) where
  -- the changes of a message that a held reader keeps
  abbrev pub news : List (Change D A R) → Held D A R → List (Change D A R)
  news cs h = fresh k h.reported h.updates cs

  -- what changes make of its progress: each that is kept lowers its time's count
  abbrev pub lowered_by : List (Change D A R) → Progress A → Progress A
  lowered_by new p = record { frontier = p.frontier; counts = added_all k.time.below p.counts (lowered new); waiting = p.waiting }

  -- what a message makes of the reader before anything is published
  abbrev pub taken_in : Message D A R → Held D A R → Held D A R
  taken_in (changes cs) h =
      record {
        progress = lowered_by (news cs h) h.progress;
        reported = h.reported;
        updates = h.updates ++ news cs h;
        drops = min (h.drops + (length cs - length (news cs h))) largest_tally;
      }
  taken_in (statement s) h = record { progress = advanced k.time s h.progress; reported = h.reported; updates = h.updates; drops = h.drops }

  -- what feed asks, in order
  abbrev pub feed_asks : Bool → Message D A R → Held D A R → List (Bool × ℕ)
  feed_asks tables (changes cs) h =
      (tables, 1) ∷ (short_changes cs, 2) ∷ (nat_le (length (h.updates ++ news cs h)) reader_changes, 9) ∷
      (room k.time.below reader_counts h.progress.counts (lowered (news cs h)), 11) ∷ (edge_fits k.time (lowered_by (news cs h) h.progress), 12) ∷ []
  feed_asks tables (statement s) h = (tables, 1) ∷ statement_asks k.time s h.progress ++ (edge_fits k.time (advanced k.time s h.progress), 12) ∷ []

  -- where the lower edge differs from the reported frontier, the held changes behind it are published and it is reported
  abbrev pub published : Held D A R → Option (List (Change D A R) × List A) × Held D A R
  published h =
      let edge = lower_edge k.time h.progress in
      cond (equal k.time.below edge h.reported) (None, h)
      (Some (those_behind k.time.below edge h.updates, edge), record { progress = h.progress; reported = edge; updates = those_beyond k.time.below edge h.updates; drops = h.drops })

  -- feed takes one message, and tells the interval that it lets out: the published changes and the new frontier
  abbrev pub feed : Bool → Message D A R → Held D A R → Answer (Option (List (Change D A R) × List A)) × Held D A R
  feed tables m h = answer (feed_asks tables m h) h (published (taken_in m h))

  -- a held reader that got nothing yet
  abbrev pub fresh_held : Held D A R
  fresh_held = record { progress = fresh_progress k.time; reported = k.time.start ∷ []; updates = []; drops = 0 }
