-- Question 1: tables that are at least their sizes, as tests and as numbers.
use Rattle.std.proofs.Common.{◌≡◌, ℕ, ◌≤◌, true, ◌&&◌, leb, List, length, ℤ}
use Rattle.std.proofs.lemmas.Bool.{and_parts, leb-true}
use Rattle.frontier.specs.Tables.{frontier_size}
use Rattle.capture.specs.Sizes.{reader_changes, reader_counts, reader_statements}
use Rattle.capture.specs.declared.stored.StoredProgress.{StoredProgress}
use Rattle.iterator.specs.Readers.{Tables, few, own_sized, answers_sized, scratch_sized, all_sized, Sized}
use Rattle.iterator.specs.declared.held.Held.{Held}

-- five numbers, each at most its bound
module _ (a x b y c z d v e w : ℕ) where
  five_tell : (leb a x && (leb b y && (leb c z && (leb d v && leb e w)))) ≡ true → (a ≤ x) × (b ≤ y) × (c ≤ z) × (d ≤ v) × (e ≤ w)
  five_tell h =
      let p = and_parts (leb a x) (leb b y && (leb c z && (leb d v && leb e w))) h in
      let q = and_parts (leb b y) (leb c z && (leb d v && leb e w)) p.1 in
      let r = and_parts (leb c z) (leb d v && leb e w) q.1 in
      let s = and_parts (leb d v) (leb e w) r.1 in
      (leb-true a x p.0, leb-true b y q.0, leb-true c z r.0, leb-true d v s.0, leb-true e w s.1)

module _ {X Y : Type 0} (t : Tables X Y) where
  pub own_tells : own_sized t ≡ true → (frontier_size ≤ length t.frontier) × (frontier_size ≤ length t.reported) × (reader_counts ≤ length t.counts) × (reader_changes ≤ length t.updates) × (reader_statements ≤ length t.waiting)
  own_tells e = five_tell frontier_size (length t.frontier) frontier_size (length t.reported) reader_counts (length t.counts) reader_changes (length t.updates) reader_statements (length t.waiting) e

module _ {X Y : Type 0} (h : Held) (t : Tables X Y) (P : List X) (Q : List Y) (F : List Y) (C : List (Y × ℤ)) (W : List (StoredProgress Y)) (E : List Y) (N : List X) where
  -- the scratch tables are at least their sizes
  abbrev pub Spare : Type 0
  Spare = (frontier_size ≤ length F) × (reader_counts ≤ length C) × (reader_statements ≤ length W) × (frontier_size ≤ length E) × (reader_changes ≤ length N)

  pub all_tell : all_sized h t P Q F C W E N ≡ true → Sized h t P Q × Spare
  all_tell e =
      let a = and_parts (few h) (own_sized t && (answers_sized P Q && scratch_sized F C W E N)) e in
      let b = and_parts (own_sized t) (answers_sized P Q && scratch_sized F C W E N) a.1 in
      let d = and_parts (answers_sized P Q) (scratch_sized F C W E N) b.1 in
      let answers = and_parts (leb reader_changes (length P)) (leb frontier_size (length Q)) d.0 in
      let own = own_tells t b.0 in
      let numbers = five_tell h.progress.frontier frontier_size h.progress.counts reader_counts h.progress.waiting reader_statements h.reported frontier_size h.held reader_changes a.0 in
      let spare = five_tell frontier_size (length F) reader_counts (length C) reader_statements (length W) frontier_size (length E) reader_changes (length N) d.1 in
      ((numbers, own.0, own.1, own.2, own.3, own.4, leb-true reader_changes (length P) answers.0, leb-true frontier_size (length Q) answers.1), spare)
