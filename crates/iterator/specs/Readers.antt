-- A held reader, by what its numbers and tables read as, and what a call on it answers.
use Rattle.std.specs.Prelude.{◌≡◌, ℕ, ◌-◌, ◌≤◌, Bool, ◌&&◌, List, [], ◌∷◌, ◌++◌, length, drop, ℤ, Some, None, Ok, Err, Option, Result, nat_le}
use Rattle.std.specs.Borrow.{MutBor}
use Rattle.questions.specs.declared.Refusal.{Refusal}
use Rattle.questions.specs.Questions.{number_of}
use Rattle.frontier.specs.Counts.{room}
use Rattle.frontier.specs.Tables.{in_use, frontier_size}
use Rattle.capture.specs.Answers.{Answer, refused, accepted}
use Rattle.capture.specs.Held.{Held as Meant, feed, news, lowered_by}
use Rattle.capture.specs.Kinds.{Kinds}
use Rattle.capture.specs.Messages.{Change, Message, short_changes}
use Rattle.capture.specs.Sizes.{reader_changes, reader_counts, reader_statements}
use Rattle.capture.specs.Statements.{lowered, edge_fits}
use Rattle.capture.specs.declared.stored.StoredProgress.{StoredProgress}
use Rattle.progress.specs.Tables.{progress_of}
use Rattle.iterator.specs.declared.held.Held.{Held}
use Rattle.iterator.specs.declared.held.HeldTables.{HeldTables}

-- a reader's own tables: progress frontier, reported frontier, counts, changes held, waiting statements
pub record Tables (X Y : Type 0) : Type 0 where
  pub frontier : List Y
  pub reported : List Y
  pub counts : List (Y × ℤ)
  pub updates : List X
  pub waiting : List (StoredProgress Y)

abbrev pub tables : {X Y : Type 0} → List Y → List Y → List (Y × ℤ) → List X → List (StoredProgress Y) → Tables X Y
tables frontier reported counts updates waiting = record { frontier = frontier; reported = reported; counts = counts; updates = updates; waiting = waiting }

-- what the tables that are lent to a call hold, with the waiting statements
abbrev pub lent : {D T R : Type 0} → HeldTables D T R → List (StoredProgress T) → Tables (D × T × R) T
lent t waiting = tables t.frontier.now t.reported.now t.counts.now t.held.now waiting

-- what the call leaves in them
abbrev pub left : {X Y : Type 0} → MutBor (List Y) × (MutBor (List Y) × (MutBor (List (Y × ℤ)) × (MutBor (List X) × Unit {0}))) → List (StoredProgress Y) → Tables X Y
left t waiting = tables t.0.now t.1.0.now t.1.1.0.now t.1.1.1.0.now waiting

-- no more of a reader's tables is in use than their sizes, as a test and as numbers
abbrev pub few : Held → Bool
few h = nat_le h.progress.frontier frontier_size && (nat_le h.progress.counts reader_counts && (nat_le h.progress.waiting reader_statements && (nat_le h.reported frontier_size && nat_le h.held reader_changes)))

abbrev pub Few : Held → Type 0
Few h = (h.progress.frontier ≤ frontier_size) × (h.progress.counts ≤ reader_counts) × (h.progress.waiting ≤ reader_statements) × (h.reported ≤ frontier_size) × (h.held ≤ reader_changes)

-- the reader's own tables are at least their sizes
abbrev pub own_sized : {X Y : Type 0} → Tables X Y → Bool
own_sized t = nat_le frontier_size (length t.frontier) && (nat_le frontier_size (length t.reported) && (nat_le reader_counts (length t.counts) && (nat_le reader_changes (length t.updates) && nat_le reader_statements (length t.waiting))))

-- the answer tables are at least their sizes
abbrev pub answers_sized : {X Y : Type 0} → List X → List Y → Bool
answers_sized published told = nat_le reader_changes (length published) && nat_le frontier_size (length told)

-- the scratch tables are at least their sizes
abbrev pub scratch_sized : {X Y : Type 0} → List Y → List (Y × ℤ) → List (StoredProgress Y) → List Y → List X → Bool
scratch_sized frontier counts waiting edge changes = nat_le frontier_size (length frontier) && (nat_le reader_counts (length counts) && (nat_le reader_statements (length waiting) && (nat_le frontier_size (length edge) && nat_le reader_changes (length changes))))

-- question 1: of a reader's own tables, the answer tables and the scratch tables
abbrev pub all_sized : {X Y : Type 0} → Held → Tables X Y → List X → List Y → List Y → List (Y × ℤ) → List (StoredProgress Y) → List Y → List X → Bool
all_sized h t published told frontier counts waiting edge changes = few h && (own_sized t && (answers_sized published told && scratch_sized frontier counts waiting edge changes))

-- the reader's own tables and the answer tables are at least their sizes, and no more is in use
abbrev pub Sized : {X Y : Type 0} → Held → Tables X Y → List X → List Y → Type 0
Sized h t published told = Few h × (frontier_size ≤ length t.frontier) × (frontier_size ≤ length t.reported) × (reader_counts ≤ length t.counts) × (reader_changes ≤ length t.updates) × (reader_statements ≤ length t.waiting) × (reader_changes ≤ length published) × (frontier_size ≤ length told)

-- the numbers of a reader after it let out an interval, or none
abbrev pub after : Option (ℕ × ℕ) → Held → Held
after None h = h
after (Some q) h = record { progress = h.progress; reported = q.1; held = h.held - q.0; drops = h.drops }

-- how many entries of the answer tables are told: changes, times
abbrev pub entries_told : Result (Option (ℕ × ℕ)) Refusal → ℕ × ℕ
entries_told (Ok None) = (0, 0)
entries_told (Ok (Some q)) = q
entries_told (Err f) = (0, 0)

-- a refusal leaves the reader and its tables as they were; else no more is in use than the sizes
abbrev pub Leaves : {X Y : Type 0} → Result (Option (ℕ × ℕ)) Refusal → Held → Tables X Y → Held → Tables X Y → Type 0
Leaves (Ok o) h t h' t' = Few h'
Leaves (Err f) h t h' t' = (h' ≡ h) × (t' ≡ t)

-- so many entries are told, no more than the sizes, and the answer tables beyond them are untouched
abbrev pub Untouched : {X Y : Type 0} → ℕ × ℕ → List X → List X → List Y → List Y → Type 0
Untouched n published published' told told' = (n.0 ≤ reader_changes) × (n.1 ≤ frontier_size) × (drop n.0 published' ≡ drop n.0 published) × (drop n.1 told' ≡ drop n.1 told)

module _ {X Y D A R : Type 0} (value : Y → A) (reads : X → Change D A R) where
  -- the reader that stands in the first entries of its tables
  abbrev pub held_in : Held → Tables X Y → Meant D A R
  held_in h t = record { progress = progress_of value h.progress t.frontier t.counts t.waiting; reported = in_use value h.reported t.reported; updates = in_use reads h.held t.updates; drops = h.drops }

  -- what an answer says, by the answer tables' first entries: a refusal's number; or an interval, with its changes and its frontier, or none
  abbrev pub answer_of : Result (Option (ℕ × ℕ)) Refusal → List X → List Y → Answer (Option (List (Change D A R) × List A))
  answer_of (Ok None) published told = accepted None
  answer_of (Ok (Some q)) published told = accepted (Some (in_use reads q.0 published, in_use value q.1 told))
  answer_of (Err f) published told = refused (number_of f)

  -- feed of a message, where the tables are at least their sizes or not: answer and reader afterwards are what the meaning says of the reader before; a refusal leaves every table as it was, and the answer tables are untouched beyond what is told
  abbrev pub Fed : Kinds D A R → Bool → Message D A R → Result (Option (ℕ × ℕ)) Refusal → Held → Tables X Y → Held → Tables X Y → List X → List X → List Y → List Y → Type 0
  Fed k sizes m r h t h' t' published published' told told' =
      (answer_of r published' told' ≡ (feed k sizes m (held_in h t)).0) × (held_in h' t' ≡ (feed k sizes m (held_in h t)).1)
      × Leaves r h t h' t' × Untouched (entries_told r) published published' told told'

-- what feed asks of changes once the tables are at least their sizes
abbrev pub changes_asks : {D A R : Type 0} → Kinds D A R → List (Change D A R) → Meant D A R → List (Bool × ℕ)
changes_asks k cs h =
    (short_changes cs, 2) ∷ (nat_le (length (h.updates ++ news k cs h)) reader_changes, 9) ∷
    (room k.time.below reader_counts h.progress.counts (lowered (news k cs h)), 11) ∷ (edge_fits k.time (lowered_by k (news k cs h) h.progress), 12) ∷ []
