-- A held reader at work, by what its tables hold before and after.
use Rattle.std.specs.Prelude.{◌≡◌, ℕ, ◌≤◌, true, List, [], ◌∷◌, ◌++◌, length, ℤ, Option, Result}
use Rattle.std.specs.Borrow.{MutBor}
use Rattle.questions.specs.declared.Refusal.{Refusal}
use Rattle.questions.specs.Answers.{Answered}
use Rattle.frontier.specs.Tables.{in_use, counted, frontier_size}
use Rattle.capture.specs.Held.{Held as Meant, news, lowered_by}
use Rattle.capture.specs.Kinds.{Kinds, Time}
use Rattle.capture.specs.Messages.{Change, Message, Statement}
use Rattle.capture.specs.Sizes.{message_changes, reader_counts}
use Rattle.capture.specs.Statements.{Progress, advanced, statement_asks, lower_edge, edge_fits}
use Rattle.capture.specs.declared.stored.StoredProgress.{StoredProgress}
use Rattle.progress.specs.Tables.{HoldsProgress}
use Rattle.progress.specs.declared.statements.Lengths.{Lengths}
use Rattle.progress.specs.declared.weighing.Weighed.{Weighed}
use Rattle.iterator.specs.Readers.{Tables, tables, Sized, changes_asks, Fed}
use Rattle.iterator.specs.declared.held.Held.{Held}
use Rattle.iterator.specs.declared.held.feeding.Feeding.{Feeding}

-- what the reader's own tables hold
abbrev pub own : {D T R : Type 0} → Feeding D T R → Tables (D × T × R) T
own f = tables f.frontier.now f.reported.now f.counts.now f.held.now f.waiting.now

-- no more of each table is in use than its size, and it is at least that long
abbrev pub Ready : {D T R : Type 0} → Feeding D T R → Type 0
Ready f = Sized f.reader.now (own f) f.published.now f.told.now

-- what a call leaves behind the references, in their order
abbrev pub Back : Type 0 → Type 0 → Type 0 → Type 0
Back D T R = MutBor Held × (MutBor (List T) × (MutBor (List T) × (MutBor (List (T × ℤ)) × (MutBor (List (D × T × R)) × (MutBor (List (StoredProgress T)) × (MutBor (List (D × T × R)) × (MutBor (List T) × Unit {0})))))))

-- the first n entries are in use, no more than the size, and read as xs
abbrev pub Reads : {X A : Type 0} → (X → A) → ℕ → ℕ → List X → List A → Type 0
Reads value n size table xs = (in_use value n table ≡ xs) × (length xs ≡ n) × (n ≤ size)

module _ {Y A : Type 0} (t : Time A) (value : Y → A) where
  -- the statement s comes to the progress p: what feed asks of it; and the scratch tables hold the progress after it and, in a frontier of its own, the lower edge
  abbrev pub WeighsStatement : Result (Lengths × ℕ) Refusal → Statement A → Progress A → List Y → List (Y × ℤ) → List (StoredProgress Y) → List Y → Type 0
  WeighsStatement r s p frontier counts waiting edge =
      Answered r (statement_asks t s p ++ (edge_fits t (advanced t s p), 12) ∷ [])
      (λ w. HoldsProgress value w.0 frontier counts waiting (advanced t s p) × Reads value w.1 frontier_size edge (lower_edge t (advanced t s p)))
      (Unit {0})

module _ {X Y D A R : Type 0} (k : Kinds D A R) (value : Y → A) (reads : X → Change D A R) where
  -- the changes cs come to the reader h: what feed asks of them; and the scratch tables hold the new ones, the counts that they leave and, in a frontier of its own, the lower edge then
  abbrev pub WeighsChanges : Result (Weighed × ℕ) Refusal → List (Change D A R) → Meant D A R → List X → List (Y × ℤ) → List Y → Type 0
  WeighsChanges r cs h new sums edge =
      let then = lowered_by k (news k cs h) h.progress in
      Answered r (changes_asks k cs h)
      (λ w. Reads reads w.0.new message_changes new (news k cs h) × Reads (counted value) w.0.counts reader_counts sums then.counts × Reads value w.1 frontier_size edge (lower_edge k.time then))
      (Unit {0})

module _ {D T R C A B : Type 0} (k : Kinds C A B) (value : T → A) (reads : D × T × R → Change C A B) where
  -- feed of a message to a reader that is ready
  abbrev pub Takes : Message C A B → Result (Option (ℕ × ℕ)) Refusal → Feeding D T R → Back D T R → Type 0
  Takes m r f b =
      Fed value reads k true m r f.reader.now (own f) b.0.now (tables b.1.0.now b.1.1.0.now b.1.1.1.0.now b.1.1.1.1.0.now b.1.1.1.1.1.0.now)
      f.published.now b.1.1.1.1.1.1.0.now f.told.now b.1.1.1.1.1.1.1.0.now

-- changes leave the progress frontier and the waiting statements as they were, also beyond what is in use
abbrev pub Rests : {D T R : Type 0} → Feeding D T R → Back D T R → Type 0
Rests f b = (b.1.0.now ≡ f.frontier.now) × (b.1.1.1.1.1.0.now ≡ f.waiting.now)
