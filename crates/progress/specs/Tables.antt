-- The tables of a reader's progress, by what they read as.
use Rattle.std.specs.Prelude.{◌≡◌, ℕ, ◌≤◌, Bool, cond, ◌&&◌, List, [], ◌∷◌, ◌++◌, length, ℤ, nat_lt}
use Rattle.frontier.specs.Tables.{in_use, sized, counted, frontier_size}
use Rattle.capture.specs.Kinds.{Time}
use Rattle.capture.specs.Messages.{Statement, short_statement}
use Rattle.capture.specs.Sizes.{reader_counts, reader_statements}
use Rattle.capture.specs.Statements.{Progress, small, inside, counted_once, passed, ready, act, act_asks, drain_asks}
use Rattle.capture.specs.Stored.{stored_statement}
use Rattle.capture.specs.declared.stored.StoredProgress.{StoredProgress}
use Rattle.progress.specs.declared.statements.Lengths.{Lengths}

-- the kind of time that these tests and functions make
abbrev pub time_of : {A : Type 0} → (A → A → Bool) → (A → A → A) → A → Time A
time_of below joined start = record { below = below; joined = joined; start = start }

-- each table is at least its size, and no more of it is in use; a scratch table for a frontier has nothing in use
abbrev pub progress_sized : {X Y Z : Type 0} → Lengths → List X → List Y → List Z → List X → Bool
progress_sized n frontier counts waiting scratch = sized frontier_size n.frontier (length frontier) && (sized reader_counts n.counts (length counts) && (sized reader_statements n.waiting (length waiting) && sized frontier_size 0 (length scratch)))

-- what every statement is asked, whatever comes of it
abbrev pub made_asks : {A : Type 0} → (A → A → Bool) → Statement A → List (Bool × ℕ)
made_asks below s = (short_statement s, 2) ∷ (small s.counts, 5) ∷ (inside below s.lower s.upper s.counts, 6) ∷ (counted_once below s.counts, 7) ∷ []

-- what a statement is asked that acts, and lets up to n waiting ones act
abbrev pub turns_asks : {A : Type 0} → Time A → ℕ → Statement A → Progress A → List (Bool × ℕ)
turns_asks t n s p = act_asks t s p ++ drain_asks t n (act t s p)

-- what is asked of a statement by what comes of it: nothing where it is dropped, room where it acts, and a place where it waits
abbrev pub course_asks : {A : Type 0} → Time A → Statement A → Progress A → List (Bool × ℕ)
course_asks t s p =
    cond (passed t.below p.frontier s) []
    (cond (ready t.below p.frontier s) (turns_asks t (length p.waiting) s p)
    ((nat_lt (length p.waiting) reader_statements, 10) ∷ []))

module _ {X A : Type 0} (value : X → A) where
  -- the progress that stands in the first entries of the tables
  abbrev pub progress_of : Lengths → List X → List (X × ℤ) → List (StoredProgress X) → Progress A
  progress_of n frontier counts waiting = record { frontier = in_use value n.frontier frontier; counts = in_use (counted value) n.counts counts; waiting = in_use (stored_statement value) n.waiting waiting }

  -- the tables hold the progress, in as many entries as their sizes allow
  abbrev pub HoldsProgress : Lengths → List X → List (X × ℤ) → List (StoredProgress X) → Progress A → Type 0
  HoldsProgress n frontier counts waiting p = (progress_of n frontier counts waiting ≡ p) × (n.frontier ≤ frontier_size) × (n.counts ≤ reader_counts) × (n.waiting ≤ reader_statements)

-- the sizes of the tables, as numbers
abbrev pub ProgressSized : {X Y Z : Type 0} → Lengths → List X → List Y → List Z → Type 0
ProgressSized n frontier counts waiting = (n.frontier ≤ frontier_size) × (frontier_size ≤ length frontier) × (n.counts ≤ reader_counts) × (reader_counts ≤ length counts) × (n.waiting ≤ reader_statements) × (reader_statements ≤ length waiting)
