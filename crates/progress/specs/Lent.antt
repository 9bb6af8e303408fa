-- Tables of a reader's progress that are lent together.
use Rattle.std.specs.Prelude.{◌≡◌, take}
use Rattle.capture.specs.Statements.{Progress}
use Rattle.capture.specs.declared.stored.StoredProgress.{StoredProgress}
use Rattle.progress.specs.Tables.{progress_of}
use Rattle.progress.specs.declared.tables.ProgressTables.{ProgressTables}

-- what the tables read as
abbrev pub progress_in : {X A : Type 0} → (X → A) → ProgressTables X (StoredProgress X) → Progress A
progress_in value t = progress_of value t.lengths t.frontier.now t.counts.now t.waiting.now

-- the tables that were lent are still those
abbrev pub SameTables : {X Y : Type 0} → ProgressTables X Y → ProgressTables X Y → Type 0
SameTables old new = (new.frontier.ghost_name ≡ old.frontier.ghost_name) × (new.counts.ghost_name ≡ old.counts.ghost_name) × (new.waiting.ghost_name ≡ old.waiting.ghost_name)

-- the same entries are in use
abbrev pub SameEntries : {X Y : Type 0} → ProgressTables X Y → ProgressTables X Y → Type 0
SameEntries one other =
    (other.lengths ≡ one.lengths)
    × (take one.lengths.frontier other.frontier.now ≡ take one.lengths.frontier one.frontier.now)
    × (take one.lengths.counts other.counts.now ≡ take one.lengths.counts one.counts.now)
    × (take one.lengths.waiting other.waiting.now ≡ take one.lengths.waiting one.waiting.now)
