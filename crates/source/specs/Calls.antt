-- What the calls of a prompt reader come to.
--
-- A call is handed only the tables that it needs. Whatever the reader's other tables hold, it asks what the meaning asks of the reader that stands in all of them.
-- Accepted, it leaves the numbers p' and the tables so that they hold what the meaning makes of that reader; refused, it leaves them as they were.
use Rattle.std.specs.Prelude.{◌≡◌, ℕ, Bool, true, List, map, length, drop, ℤ, Ok, Err, Result}
use Rattle.questions.specs.declared.Refusal.{Refusal}
use Rattle.questions.specs.Questions.{number_of}
use Rattle.questions.specs.Answers.{Answered}
use Rattle.frontier.specs.Tables.{Holds, sized}
use Rattle.capture.specs.Kinds.{Kinds, kinds}
use Rattle.capture.specs.Messages.{Change, Statement}
use Rattle.capture.specs.Answers.{refused, accepted, only_tables}
use Rattle.capture.specs.Prompt.{Prompt as Meant, shipped, sift_asks, sift, note_asks, note, settle_asks, settle, heed, fresh_prompt}
use Rattle.capture.specs.Readers.{put_away}
use Rattle.capture.specs.Sizes.{reader_changes}
use Rattle.capture.specs.declared.stored.StoredProgress.{StoredProgress}
use Rattle.source.specs.declared.prompt.Prompt.{Prompt}
use Rattle.source.specs.Tables.{prompt_of, lengths_of, new_sized, sift_sized, note_sized, settle_sized, heed_sized}

-- the numbers of a reader after a call that left m, of which only some tables could change: by a sift, a note, a settle, a heed
module _ {D A R : Type 0} (p : Prompt) (m : Meant D A R) where
  abbrev pub after_sift : Prompt
  after_sift = record { progress = p.progress; reported = p.reported; heeded = p.heeded; pending = length m.pending; waiting_counts = length m.waiting_counts }

  abbrev pub after_note : Prompt
  after_note = record { progress = lengths_of m.progress; reported = p.reported; heeded = p.heeded; pending = p.pending; waiting_counts = p.waiting_counts }

  abbrev pub after_settle : Prompt
  after_settle = record { progress = record { frontier = p.progress.frontier; counts = length m.progress.counts; waiting = p.progress.waiting }; reported = length m.reported; heeded = p.heeded; pending = p.pending; waiting_counts = length m.waiting_counts }

  abbrev pub after_heed : Prompt
  after_heed = record { progress = p.progress; reported = p.reported; heeded = length m.heeded; pending = length m.pending; waiting_counts = p.waiting_counts }

-- Note and settle do not look at data or amounts, and their code knows no types for them. So what they come to is said of changes without either; it is the same for all.
abbrev pub timed : {A : Type 0} → (A → A → Bool) → (A → A → A) → A → Kinds (Unit {0}) A (Unit {0})
timed below joined start = kinds (λ _ _. true) below joined start (λ _ _. true)

-- such a change reads as itself
abbrev pub bare : {A : Type 0} → Change (Unit {0}) A (Unit {0}) → Change (Unit {0}) A (Unit {0})
bare c = c

-- the numbers of a fresh reader: the start in each frontier
abbrev pub fresh_numbers : Prompt
fresh_numbers = record { progress = record { frontier = 1; counts = 0; waiting = 0 }; reported = 1; heeded = 1; pending = 0; waiting_counts = 0 }

module _ {X Y D A R : Type 0} (k : Kinds D A R) (value : Y → A) (reads : X → Change D A R) where
  -- a new reader over these tables is a fresh one
  unfoldable pub Started : Result Prompt Refusal → (frontier frontier' reported reported' heeded heeded' : List Y) (counts sums : List (Y × ℤ)) → List X → List (StoredProgress Y) → Type 0
  Started r frontier frontier' reported reported' heeded heeded' counts sums pending waiting =
      Answered r (only_tables (new_sized frontier reported heeded counts sums pending waiting))
      (λ p. (p ≡ fresh_numbers) × (prompt_of value reads p frontier' reported' heeded' counts sums pending waiting ≡ fresh_prompt k))
      ((frontier' ≡ frontier) × (reported' ≡ reported) × (heeded' ≡ heeded))

  -- a sift of these changes tells how many it shipped; those stand first in the answer table, which is untouched beyond them
  unfoldable pub Sifted : Result ℕ Refusal → (cs : List X) (p p' : Prompt) (heeded : List Y) (sums sums' : List (Y × ℤ)) (pending pending' answer answer' new : List X) (scratch : List (Y × ℤ)) → Type 0
  Sifted r cs p p' heeded sums sums' pending pending' answer answer' new scratch =
      (frontier reported : List Y) (counts : List (Y × ℤ)) (waiting : List (StoredProgress Y)) →
      let tables = sift_sized p heeded sums pending answer new scratch in
      let before = prompt_of value reads p frontier reported heeded counts sums pending waiting in
      let after = (sift k tables (map reads cs) before).1 in
      Answered r (sift_asks k tables (map reads cs) before)
      (λ n. (p' ≡ after_sift p after) × (prompt_of value reads p' frontier reported heeded counts sums' pending' waiting ≡ after) × Holds reads n answer' (shipped k (map reads cs) before) × (drop n answer' ≡ drop n answer))
      ((p' ≡ p) × (sums' ≡ sums) × (pending' ≡ pending) × (answer' ≡ answer))

  -- a note of this statement
  unfoldable pub Noted : {U : Type 0} → Result U Refusal → Statement A → (p p' : Prompt) (frontier frontier' : List Y) (counts counts' : List (Y × ℤ)) (waiting waiting' : List (StoredProgress Y)) (frontier₂ : List Y) (counts₂ : List (Y × ℤ)) (waiting₂ : List (StoredProgress Y)) (join : List Y) → Type 0
  Noted r s p p' frontier frontier' counts counts' waiting waiting' frontier₂ counts₂ waiting₂ join =
      (reported heeded : List Y) (sums : List (Y × ℤ)) (pending : List X) →
      let tables = note_sized p frontier counts waiting frontier₂ counts₂ waiting₂ join in
      let before = prompt_of value reads p frontier reported heeded counts sums pending waiting in
      let after = (note k tables s before).1 in
      Answered r (note_asks k tables s before)
      (λ _. (p' ≡ after_note p after) × (prompt_of value reads p' frontier' reported heeded counts' sums pending waiting' ≡ after))
      ((p' ≡ p) × (frontier' ≡ frontier) × (counts' ≡ counts) × (waiting' ≡ waiting))

  -- a settle tells how many times the frontier has that it reports
  unfoldable pub Settled : Result ℕ Refusal → (p p' : Prompt) (frontier reported reported' : List Y) (counts counts' sums scratch : List (Y × ℤ)) (edge : List Y) → Type 0
  Settled r p p' frontier reported reported' counts counts' sums scratch edge =
      (heeded : List Y) (pending : List X) (waiting : List (StoredProgress Y)) →
      let tables = settle_sized p frontier reported counts sums scratch edge in
      let before = prompt_of value reads p frontier reported heeded counts sums pending waiting in
      let after = (settle k tables before).1 in
      Answered r (settle_asks k tables before)
      (λ n. (p' ≡ after_settle p after) × (prompt_of value reads p' frontier reported' heeded counts' sums pending waiting ≡ after) × (n ≡ length after.reported))
      ((p' ≡ p) × (reported' ≡ reported) × (counts' ≡ counts))

  -- a heed
  unfoldable pub Heeded : {U : Type 0} → Result U Refusal → (p p' : Prompt) (reported heeded heeded' : List Y) (pending pending' : List X) → Type 0
  Heeded r p p' reported heeded heeded' pending pending' =
      (frontier : List Y) (counts sums : List (Y × ℤ)) (waiting : List (StoredProgress Y)) →
      let tables = heed_sized p reported heeded pending in
      let before = prompt_of value reads p frontier reported heeded counts sums pending waiting in
      let after = (heed k tables before).1 in
      Answered r (only_tables tables)
      (λ _. (p' ≡ after_heed p after) × (prompt_of value reads p' frontier reported heeded' counts sums pending' waiting ≡ after))
      ((p' ≡ p) × (heeded' ≡ heeded) × (pending' ≡ pending))

-- putting away tells how many changes are pending, or hands the reader back as it was; it is handed the pending changes
module _ {X Y D A R : Type 0} (value : Y → A) (reads : X → Change D A R) where
  unfoldable pub PutAway : Result ℕ (Prompt × Refusal) → Prompt → List X → Type 0
  PutAway (Ok n) p pending =
      (frontier reported heeded : List Y) (counts sums : List (Y × ℤ)) (waiting : List (StoredProgress Y)) →
      (put_away (sized reader_changes p.pending (length pending)) (prompt_of value reads p frontier reported heeded counts sums pending waiting)).0 ≡ accepted n
  PutAway (Err e) p pending =
      ((frontier reported heeded : List Y) (counts sums : List (Y × ℤ)) (waiting : List (StoredProgress Y)) →
      (put_away (sized reader_changes p.pending (length pending)) (prompt_of value reads p frontier reported heeded counts sums pending waiting)).0 ≡ refused (number_of e.1))
      × (e.0 ≡ p)
