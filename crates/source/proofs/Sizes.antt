-- What it tells that the tables of a call have their sizes.
use Rattle.std.proofs.Common.{◌≡◌, ℕ, ◌≤◌, Bool, true, ◌&&◌, List, length, ℤ}
use Rattle.std.proofs.lemmas.Bool.{and_parts}
use Rattle.frontier.specs.Tables.{sized, frontier_size}
use Rattle.frontier.proofs.Tables.{sized_tells}
use Rattle.capture.specs.Sizes.{reader_changes, reader_counts}
use Rattle.capture.specs.declared.stored.StoredProgress.{StoredProgress}
use Rattle.progress.specs.Tables.{progress_sized, ProgressSized}
use Rattle.progress.proofs.Acting.{progress_room}
use Rattle.source.specs.declared.prompt.Prompt.{Prompt}
use Rattle.source.specs.Tables.{no_lengths, new_sized, sift_sized, note_sized, settle_sized, heed_sized}

-- of two tests, the first of a table
next : (size used n : ℕ) (b : Bool) → (sized size used n && b) ≡ true → ((used ≤ size) × (size ≤ n)) × (b ≡ true)
next size used n b e = let both = and_parts (sized size used n) b e in (sized_tells size used n both.0, both.1)

module _ {X Y : Type 0} where
  pub heed_told : (p : Prompt) (reported heeded : List Y) (pending : List X) → heed_sized p reported heeded pending ≡ true
      → (p.reported ≤ frontier_size) × (frontier_size ≤ length reported) × (frontier_size ≤ length heeded) × (p.pending ≤ reader_changes) × (reader_changes ≤ length pending)
  heed_told p reported heeded pending e =
      let one = next frontier_size p.reported (length reported) _ e in
      let two = next frontier_size p.heeded (length heeded) _ one.1 in
      let three = sized_tells reader_changes p.pending (length pending) two.1 in
      (one.0.0, one.0.1, two.0.1, three.0, three.1)

  pub new_told : (frontier reported heeded : List Y) (counts sums : List (Y × ℤ)) (pending : List X) (waiting : List (StoredProgress Y)) → new_sized frontier reported heeded counts sums pending waiting ≡ true
      → (frontier_size ≤ length frontier) × (frontier_size ≤ length reported) × (frontier_size ≤ length heeded)
  new_told frontier reported heeded counts sums pending waiting e =
      let both = and_parts (progress_sized no_lengths frontier counts waiting reported) _ e in
      let room = progress_room no_lengths frontier counts waiting reported both.0 in
      (room.0.1, room.1, (next frontier_size 0 (length heeded) _ both.1).0.1)

  pub sift_told : (p : Prompt) (heeded : List Y) (sums : List (Y × ℤ)) (pending answer new : List X) (scratch : List (Y × ℤ)) → sift_sized p heeded sums pending answer new scratch ≡ true
      → ((p.heeded ≤ frontier_size) × (frontier_size ≤ length heeded)) × ((p.waiting_counts ≤ reader_counts) × (reader_counts ≤ length sums)) × ((p.pending ≤ reader_changes) × (reader_changes ≤ length pending))
      × (reader_changes ≤ length answer) × (reader_changes ≤ length new) × (reader_counts ≤ length scratch)
  sift_told p heeded sums pending answer new scratch e =
      let one = next frontier_size p.heeded (length heeded) _ e in
      let two = next reader_counts p.waiting_counts (length sums) _ one.1 in
      let three = next reader_changes p.pending (length pending) _ two.1 in
      let four = next reader_changes 0 (length answer) _ three.1 in
      let five = next reader_changes 0 (length new) _ four.1 in
      (one.0, two.0, three.0, four.0.1, five.0.1, (sized_tells reader_counts 0 (length scratch) five.1).1)

module _ {Y : Type 0} where
  pub note_told : (p : Prompt) (frontier : List Y) (counts : List (Y × ℤ)) (waiting : List (StoredProgress Y)) (frontier₂ : List Y) (counts₂ : List (Y × ℤ)) (waiting₂ : List (StoredProgress Y)) (join : List Y) → note_sized p frontier counts waiting frontier₂ counts₂ waiting₂ join ≡ true
      → ProgressSized p.progress frontier counts waiting × ProgressSized p.progress frontier₂ counts₂ waiting₂ × (frontier_size ≤ length join)
  note_told p frontier counts waiting frontier₂ counts₂ waiting₂ join e =
      let both = and_parts (progress_sized p.progress frontier counts waiting join) (progress_sized no_lengths frontier₂ counts₂ waiting₂ join) e in
      let room = progress_room p.progress frontier counts waiting join both.0 in
      let spare = progress_room no_lengths frontier₂ counts₂ waiting₂ join both.1 in
      (room.0, (room.0.0, spare.0.1, room.0.2, spare.0.3, room.0.4, spare.0.5), room.1)

  pub settle_told : (p : Prompt) (frontier reported : List Y) (counts sums scratch : List (Y × ℤ)) (edge : List Y) → settle_sized p frontier reported counts sums scratch edge ≡ true
      → ((p.progress.frontier ≤ frontier_size) × (frontier_size ≤ length frontier)) × ((p.reported ≤ frontier_size) × (frontier_size ≤ length reported)) × ((p.progress.counts ≤ reader_counts) × (reader_counts ≤ length counts))
      × ((p.waiting_counts ≤ reader_counts) × (reader_counts ≤ length sums)) × (reader_counts ≤ length scratch) × (frontier_size ≤ length edge)
  settle_told p frontier reported counts sums scratch edge e =
      let one = next frontier_size p.progress.frontier (length frontier) _ e in
      let two = next frontier_size p.reported (length reported) _ one.1 in
      let three = next reader_counts p.progress.counts (length counts) _ two.1 in
      let four = next reader_counts p.waiting_counts (length sums) _ three.1 in
      let five = next reader_counts 0 (length scratch) _ four.1 in
      (one.0, two.0, three.0, four.0, five.0.1, (sized_tells frontier_size 0 (length edge) five.1).1)
