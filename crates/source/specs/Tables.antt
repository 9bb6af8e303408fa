-- The tables of a prompt reader: what they read as, and whether they have their sizes.
use Rattle.std.specs.Prelude.{Bool, ◌&&◌, List, length, ℤ}
use Rattle.frontier.specs.Tables.{in_use, sized, counted, frontier_size}
use Rattle.capture.specs.Messages.{Change}
use Rattle.capture.specs.Prompt.{Prompt as Meant}
use Rattle.capture.specs.Sizes.{reader_changes, reader_counts}
use Rattle.capture.specs.Statements.{Progress}
use Rattle.capture.specs.declared.stored.StoredProgress.{StoredProgress}
use Rattle.progress.specs.Tables.{progress_of, progress_sized}
use Rattle.progress.specs.declared.statements.Lengths.{Lengths}
use Rattle.source.specs.declared.prompt.Prompt.{Prompt}

-- nothing is in use
abbrev pub no_lengths : Lengths
no_lengths = record { frontier = 0; counts = 0; waiting = 0 }

-- how many entries a progress takes of each table
abbrev pub lengths_of : {A : Type 0} → Progress A → Lengths
lengths_of p = record { frontier = length p.frontier; counts = length p.counts; waiting = length p.waiting }

module _ {X Y D A R : Type 0} (value : Y → A) (reads : X → Change D A R) where
  -- the reader that stands in the first entries of its tables: progress, reported and heeded frontier, counts and waiting counts, pending changes, waiting statements
  abbrev pub prompt_of : Prompt → List Y → List Y → List Y → List (Y × ℤ) → List (Y × ℤ) → List X → List (StoredProgress Y) → Meant D A R
  prompt_of p frontier reported heeded counts sums pending waiting =
      record { progress = progress_of value p.progress frontier counts waiting; reported = in_use value p.reported reported; heeded = in_use value p.heeded heeded; pending = in_use reads p.pending pending; waiting_counts = in_use (counted value) p.waiting_counts sums }

-- Whether each table handed to a call is at least its size, and no more of it is in use; answer and scratch tables have nothing in use.
module _ {X Y : Type 0} where
  -- a new reader: progress, reported and heeded frontier, counts and waiting counts, pending changes, waiting statements
  abbrev pub new_sized : List Y → List Y → List Y → List (Y × ℤ) → List (Y × ℤ) → List X → List (StoredProgress Y) → Bool
  new_sized frontier reported heeded counts sums pending waiting = progress_sized no_lengths frontier counts waiting reported && (sized frontier_size 0 (length heeded) && (sized reader_counts 0 (length sums) && sized reader_changes 0 (length pending)))

  -- sift: heeded frontier, waiting counts, pending changes, the answer, scratch for changes and for counts
  abbrev pub sift_sized : Prompt → List Y → List (Y × ℤ) → List X → List X → List X → List (Y × ℤ) → Bool
  sift_sized p heeded sums pending answer new scratch =
      sized frontier_size p.heeded (length heeded) && (sized reader_counts p.waiting_counts (length sums) && (sized reader_changes p.pending (length pending)
      && (sized reader_changes 0 (length answer) && (sized reader_changes 0 (length new) && sized reader_counts 0 (length scratch)))))

  -- heed: reported and heeded frontier, pending changes
  abbrev pub heed_sized : Prompt → List Y → List Y → List X → Bool
  heed_sized p reported heeded pending = sized frontier_size p.reported (length reported) && (sized frontier_size p.heeded (length heeded) && sized reader_changes p.pending (length pending))

-- note: progress frontier, counts, waiting statements, scratch for each of them, and for a join
abbrev pub note_sized : {Y : Type 0} → Prompt → List Y → List (Y × ℤ) → List (StoredProgress Y) → List Y → List (Y × ℤ) → List (StoredProgress Y) → List Y → Bool
note_sized p frontier counts waiting frontier₂ counts₂ waiting₂ join = progress_sized p.progress frontier counts waiting join && progress_sized no_lengths frontier₂ counts₂ waiting₂ join

-- settle: progress and reported frontier, counts and waiting counts, scratch for counts and for a frontier
abbrev pub settle_sized : {Y : Type 0} → Prompt → List Y → List Y → List (Y × ℤ) → List (Y × ℤ) → List (Y × ℤ) → List Y → Bool
settle_sized p frontier reported counts sums scratch edge =
    sized frontier_size p.progress.frontier (length frontier) && (sized frontier_size p.reported (length reported) && (sized reader_counts p.progress.counts (length counts)
    && (sized reader_counts p.waiting_counts (length sums) && (sized reader_counts 0 (length scratch) && sized frontier_size 0 (length edge)))))
