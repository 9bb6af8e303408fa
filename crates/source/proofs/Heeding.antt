-- What a heed and putting away come to.
use Rattle.std.proofs.Common.{◌≡◌, ℕ, ◌-◌, Bool, true, false, List, [], map, length, take, Ok, Err, sym, refl, ap, ◌∙◌, arith}
use Rattle.questions.specs.declared.Refusal.TheVariants.{ShortTable}
use Rattle.questions.proofs.Asking.{ask_next, ask_here}
use Rattle.frontier.specs.Tables.{in_use, Holds, sized}
use Rattle.frontier.proofs.Tables.{sub_zero, length_in_use, sized_tells}
use Rattle.capture.specs.Answers.{accepted, only_tables}
use Rattle.capture.specs.Kinds.{Kinds}
use Rattle.capture.specs.Messages.{Change, those_beyond}
use Rattle.capture.specs.Prompt.{Prompt as Meant, heed}
use Rattle.capture.specs.Readers.{prompt, away}
use Rattle.capture.specs.Sizes.{reader_changes}
use Rattle.capture.proofs.Answering.{answer_made, answer_refused}
use Rattle.source.specs.declared.prompt.Prompt.{Prompt}
use Rattle.source.specs.Tables.{prompt_of, heed_sized}
use Rattle.source.specs.Calls.{Heeded, PutAway, after_heed}
use Rattle.source.proofs.Sizes.{heed_told}

module _ {X Y D A R : Type 0} (k : Kinds D A R) (value : Y → A) (reads : X → Change D A R) (p : Prompt) (reported heeded : List Y) (pending : List X) where
  pub heed_short : (U : Type 0) → heed_sized p reported heeded pending ≡ false → Heeded k value reads {U = U} (Err ShortTable) p p reported heeded heeded pending pending
  unfolding Heeded
  heed_short U e = λ frontier counts sums waiting. (ask_here _ 1 [] e, (refl, refl, refl))

  -- the numbers of the reader that is left
  abbrev pub heeding : ℕ → Prompt
  heeding n = record { progress = p.progress; reported = p.reported; heeded = p.reported; pending = n; waiting_counts = p.waiting_counts }

  pub heed_done : {U : Type 0} (u : U) → heed_sized p reported heeded pending ≡ true → (heeded' : List Y) (pending' : List X) (n : ℕ) → take p.reported heeded' ≡ take p.reported reported
      → Holds reads n pending' (those_beyond k.time.below (map value (take (p.reported - 0) reported)) (in_use reads p.pending pending)) → Heeded k value reads (Ok u) p (heeding n) reported heeded heeded' pending pending'
  unfolding Heeded
  heed_done u fit heeded' pending' n copied kept = λ frontier counts sums waiting.
      let sizes = heed_told p reported heeded pending fit in
      let m = prompt_of value reads p frontier reported heeded counts sums pending waiting in
      let stay = those_beyond k.time.below m.reported m.pending in
      let made : Meant D A R = record { progress = m.progress; reported = m.reported; heeded = m.reported; pending = stay; waiting_counts = m.waiting_counts } in
      let none = ask_next (heed_sized p reported heeded pending) 1 [] fit in
      let left : (heed k (heed_sized p reported heeded pending) m).1 ≡ made = ap (λ z. z.1) (answer_made (only_tables (heed_sized p reported heeded pending)) m (tt, made) none) in
      let times : in_use value p.reported heeded' ≡ m.reported = ap (map value) copied in
      let same : those_beyond k.time.below (map value (take (p.reported - 0) reported)) m.pending ≡ stay = ap (λ j. those_beyond k.time.below (in_use value j reported) m.pending) (sub_zero p.reported) in
      let numbers : heeding n ≡ after_heed p made = ap (λ j. record { progress = p.progress; reported = p.reported; heeded = j; pending = n; waiting_counts = p.waiting_counts }) (sym (length_in_use value p.reported reported (omega arith))) ∙ ap (λ j. record { progress = p.progress; reported = p.reported; heeded = length m.reported; pending = j; waiting_counts = p.waiting_counts }) (sym kept.1 ∙ ap length same) in
      (none, (numbers ∙ sym (ap (after_heed p) left), ap (λ h. record { progress = m.progress; reported = m.reported; heeded = h; pending = in_use reads n pending'; waiting_counts = m.waiting_counts }) times ∙ ap (λ c. record { progress = m.progress; reported = m.reported; heeded = m.reported; pending = c; waiting_counts = m.waiting_counts }) (kept.0 ∙ same) ∙ sym left))

module _ {X Y D A R : Type 0} (value : Y → A) (reads : X → Change D A R) (p : Prompt) (pending : List X) where
  abbrev long : Bool
  long = sized reader_changes p.pending (length pending)

  pub away_short : long ≡ false → PutAway value reads (Err (p, ShortTable)) p pending
  unfolding PutAway
  away_short e = ((λ frontier reported heeded counts sums waiting. let m = prompt_of value reads p frontier reported heeded counts sums pending waiting in ap (λ z. z.0) (answer_refused (only_tables long) (prompt m) (length m.pending, away m) 1 (ask_here long 1 [] e))), refl)

  pub away_done : long ≡ true → PutAway value reads (Ok p.pending) p pending
  unfolding PutAway
  away_done e = λ frontier reported heeded counts sums waiting.
      let m = prompt_of value reads p frontier reported heeded counts sums pending waiting in
      let sizes = sized_tells reader_changes p.pending (length pending) e in
      ap (λ z. z.0) (answer_made (only_tables long) (prompt m) (length m.pending, away m) (ask_next long 1 [] e)) ∙ ap accepted (length_in_use reads p.pending pending (omega arith))
