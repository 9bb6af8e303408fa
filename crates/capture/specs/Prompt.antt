-- The prompt reader, which ships each change as it comes.
use Rattle.std.specs.Prelude.{ℕ, Bool, true, false, not, ◌&&◌, ◌||◌, List, [], ◌∷◌, ◌++◌, length, ℤ, nat_le}
use Rattle.frontier.specs.Frontiers.{beyond}
use Rattle.frontier.specs.Counts.{added_all, room}
use Rattle.capture.specs.Kinds.{Kinds}
use Rattle.capture.specs.Sizes.{reader_changes, reader_counts}
use Rattle.capture.specs.Messages.{Change, Statement, short_changes, coincide, fresh, those_beyond}
use Rattle.capture.specs.Answers.{Answer, answer, only_tables}
use Rattle.capture.specs.Statements.{Progress, fresh_progress, lowered, advanced, statement_asks, lower_edge, edge_fits}

-- a prompt reader between calls
pub record Prompt (D A R : Type 0) : Type 0 where
  -- what the statements, and the changes up to the last settle, come to
  pub progress : Progress A
  -- the frontier that it reported last, which is this reader's frontier
  pub reported : List A
  -- the frontier that it heeded last; a change behind it is dropped, since it was shipped
  pub heeded : List A
  -- the changes shipped that are beyond the heeded frontier, so that a repeat is known
  pub pending : List (Change D A R)
  -- what the changes since the last settle will add to the counts
  pub waiting_counts : List (A × ℤ)

module _ {D A R : Type 0} (k : Kinds D A R) where
  -- the changes of a message that a prompt reader ships
  abbrev pub shipped : List (Change D A R) → Prompt D A R → List (Change D A R)
  shipped cs p = fresh k p.heeded p.pending cs

  -- some change of the list has the data and time of c and another amount
  abbrev pub disputed : List (Change D A R) → Change D A R → Bool
  disputed [] c = false
  disputed (e ∷ es) c = (coincide k e c && not (k.same_amount e.amount c.amount)) || disputed es c

  -- no change beyond the heeded frontier f is disputed by a pending or an earlier one
  abbrev pub undisputed : List A → List (Change D A R) → List (Change D A R) → Bool
  undisputed f kept [] = true
  undisputed f kept (c ∷ cs) = not (beyond k.time.below f c.time && disputed kept c) && undisputed f (kept ++ c ∷ []) cs

  -- what sift asks, in order
  abbrev pub sift_asks : Bool → List (Change D A R) → Prompt D A R → List (Bool × ℕ)
  sift_asks tables cs p =
      (tables, 1) ∷ (short_changes cs, 2) ∷ (undisputed p.heeded p.pending cs, 8) ∷ (nat_le (length (p.pending ++ shipped cs p)) reader_changes, 9) ∷
      (room k.time.below reader_counts p.waiting_counts (lowered (shipped cs p)), 11) ∷ []

  -- sift takes changes, and tells those that it ships
  abbrev pub sift : Bool → List (Change D A R) → Prompt D A R → Answer (List (Change D A R)) × Prompt D A R
  sift tables cs p =
      answer (sift_asks tables cs p) p
      (shipped cs p, record { progress = p.progress; reported = p.reported; heeded = p.heeded; pending = p.pending ++ shipped cs p; waiting_counts = added_all k.time.below p.waiting_counts (lowered (shipped cs p)) })

  -- what note asks, in order
  abbrev pub note_asks : Bool → Statement A → Prompt D A R → List (Bool × ℕ)
  note_asks tables s p = (tables, 1) ∷ statement_asks k.time s p.progress

  -- note takes a statement
  abbrev pub note : Bool → Statement A → Prompt D A R → Answer (Unit {0}) × Prompt D A R
  note tables s p =
      answer (note_asks tables s p) p
      (tt, record { progress = advanced k.time s p.progress; reported = p.reported; heeded = p.heeded; pending = p.pending; waiting_counts = p.waiting_counts })

  -- the progress with the waiting counts added
  abbrev pub brought_in : Prompt D A R → Progress A
  brought_in p = record { frontier = p.progress.frontier; counts = added_all k.time.below p.progress.counts p.waiting_counts; waiting = p.progress.waiting }

  -- what settle asks, in order
  abbrev pub settle_asks : Bool → Prompt D A R → List (Bool × ℕ)
  settle_asks tables p = (tables, 1) ∷ (room k.time.below reader_counts p.progress.counts p.waiting_counts, 11) ∷ (edge_fits k.time (brought_in p), 12) ∷ []

  -- settle adds the waiting counts, and tells the lower edge, which it reports
  abbrev pub settle : Bool → Prompt D A R → Answer (List A) × Prompt D A R
  settle tables p =
      let edge = lower_edge k.time (brought_in p) in
      answer (settle_asks tables p) p (edge, record { progress = brought_in p; reported = edge; heeded = p.heeded; pending = p.pending; waiting_counts = [] })

  -- heed makes the reported frontier the heeded one, and forgets the pending changes behind it
  abbrev pub heed : Bool → Prompt D A R → Answer (Unit {0}) × Prompt D A R
  heed tables p =
      answer (only_tables tables) p
      (tt, record { progress = p.progress; reported = p.reported; heeded = p.reported; pending = those_beyond k.time.below p.reported p.pending; waiting_counts = p.waiting_counts })

  -- a prompt reader that got nothing yet
  abbrev pub fresh_prompt : Prompt D A R
  fresh_prompt = record { progress = fresh_progress k.time; reported = k.time.start ∷ []; heeded = k.time.start ∷ []; pending = []; waiting_counts = [] }
