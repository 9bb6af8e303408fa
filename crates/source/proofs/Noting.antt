-- What a note comes to.
use Rattle.std.proofs.Common.{◌≡◌, ◌≤◌, Bool, true, false, List, [], ◌∷◌, map, length, take, ℤ, Some, None, Ok, Err, sym, refl, ap, ◌∙◌, arith}
use Rattle.std.proofs.lemmas.Bool.{and_from}
use Rattle.questions.specs.declared.Refusal.{Refusal}
use Rattle.questions.specs.declared.Refusal.TheVariants.{ShortTable}
use Rattle.questions.specs.Questions.{first_no, number_of}
use Rattle.questions.proofs.Asking.{ask_next, ask_here}
use Rattle.frontier.specs.Tables.{in_use, counted, sized, frontier_size}
use Rattle.frontier.proofs.Tables.{length_in_use, sized_yes}
use Rattle.capture.specs.Kinds.{Kinds}
use Rattle.capture.specs.Messages.{Change, Statement}
use Rattle.capture.specs.Prompt.{Prompt as Meant, note_asks, note}
use Rattle.capture.specs.Sizes.{reader_counts, reader_statements}
use Rattle.capture.specs.Statements.{Progress, advanced, statement_asks}
use Rattle.capture.specs.Stored.{stored_statement}
use Rattle.capture.specs.declared.stored.StoredProgress.{StoredProgress}
use Rattle.capture.proofs.Answering.{answer_made}
use Rattle.progress.specs.Tables.{progress_of, progress_sized, ProgressSized}
use Rattle.progress.specs.declared.statements.Lengths.{Lengths}
use Rattle.progress.proofs.Acting.{same_progress}
use Rattle.source.specs.declared.prompt.Prompt.{Prompt}
use Rattle.source.specs.Tables.{prompt_of, lengths_of, note_sized}
use Rattle.source.specs.Calls.{Noted, after_note}

-- tables that are at least their sizes are told so
pub progress_fits : {X Y Z : Type 0} (n : Lengths) (F : List X) (C : List Y) (W : List Z) (S : List X) → ProgressSized n F C W → frontier_size ≤ length S → progress_sized n F C W S ≡ true
progress_fits n F C W S h l =
    and_from (sized frontier_size n.frontier (length F)) _ (sized_yes frontier_size n.frontier (length F) h.0 h.1)
    (and_from (sized reader_counts n.counts (length C)) _ (sized_yes reader_counts n.counts (length C) h.2 h.3)
    (and_from (sized reader_statements n.waiting (length W)) _ (sized_yes reader_statements n.waiting (length W) h.4 h.5) (sized_yes frontier_size 0 (length S) (omega arith) l)))

-- a progress is copied to other tables
module _ {Y A : Type 0} (value : Y → A) (n : Lengths) (F F' : List Y) (C C' : List (Y × ℤ)) (W W' : List (StoredProgress Y)) where
  pub progress_copied : take n.frontier F' ≡ take n.frontier F → take n.counts C' ≡ take n.counts C → take n.waiting W' ≡ take n.waiting W → progress_of value n F' C' W' ≡ progress_of value n F C W
  progress_copied f c w = same_progress (ap (map value) f) (ap (map (counted value)) c) (ap (map (stored_statement value)) w)

-- tables that hold a progress ask the same of a statement, whichever of their sizes is asked first
module _ {Y D A R : Type 0} (k : Kinds D A R) (s : Statement A) (value : Y → A) {n n₀ : Lengths} (F : List Y) (C : List (Y × ℤ)) (W : List (StoredProgress Y)) (join : List Y) (e : n ≡ n₀) where
  pub asked_alike : frontier_size ≤ length join → progress_sized n₀ F C W join ≡ true
      → first_no ((progress_sized n₀ F C W join, 1) ∷ statement_asks k.time s (progress_of value n₀ F C W)) ≡ first_no ((sized frontier_size 0 (length join), 1) ∷ statement_asks k.time s (progress_of value n F C W))
  asked_alike spare roomy =
      ask_next (progress_sized n₀ F C W join) 1 (statement_asks k.time s (progress_of value n₀ F C W)) roomy
      ∙ ap (λ m. first_no (statement_asks k.time s (progress_of value m F C W))) (sym e)
      ∙ sym (ask_next (sized frontier_size 0 (length join)) 1 (statement_asks k.time s (progress_of value n F C W)) (sized_yes frontier_size 0 (length join) (omega arith) spare))

-- the numbers of tables that hold a progress are its lengths
pub progress_lengths : {Y A : Type 0} (value : Y → A) (n : Lengths) (F : List Y) (C : List (Y × ℤ)) (W : List (StoredProgress Y)) (q : Progress A) → ProgressSized n F C W → progress_of value n F C W ≡ q → n ≡ lengths_of q
progress_lengths value n F C W q h e =
    ap (λ j. record { frontier = j; counts = n.counts; waiting = n.waiting }) (sym (length_in_use value n.frontier F (omega (arith, h.0, h.1))))
    ∙ ap (λ j. record { frontier = length (in_use value n.frontier F); counts = j; waiting = n.waiting }) (sym (length_in_use (counted value) n.counts C (omega (arith, h.2, h.3))))
    ∙ ap (λ j. record { frontier = length (in_use value n.frontier F); counts = length (in_use (counted value) n.counts C); waiting = j }) (sym (length_in_use (stored_statement value) n.waiting W (omega (arith, h.4, h.5))))
    ∙ ap lengths_of e

module _ {X Y D A R : Type 0} (k : Kinds D A R) (value : Y → A) (reads : X → Change D A R) (s : Statement A) (p : Prompt) (frontier : List Y) (counts : List (Y × ℤ)) (waiting : List (StoredProgress Y)) (frontier₂ : List Y) (counts₂ : List (Y × ℤ)) (waiting₂ : List (StoredProgress Y)) (join : List Y) where
  abbrev tables : Bool
  tables = note_sized p frontier counts waiting frontier₂ counts₂ waiting₂ join

  abbrev q : Progress A
  q = progress_of value p.progress frontier counts waiting

  -- the numbers of the reader that is left
  abbrev pub noting : Lengths → Prompt
  noting n = record { progress = n; reported = p.reported; heeded = p.heeded; pending = p.pending; waiting_counts = p.waiting_counts }

  pub note_short : (U : Type 0) → tables ≡ false → Noted k value reads {U = U} (Err ShortTable) s p p frontier frontier counts counts waiting waiting frontier₂ counts₂ waiting₂ join
  unfolding Noted
  note_short U e = λ reported heeded sums pending. (ask_here tables 1 (statement_asks k.time s q) e, (refl, refl, refl, refl))

  -- the statement came to the progress in scratch tables that hold what the reader's do
  module _ (fit : tables ≡ true) (F : List Y) (C : List (Y × ℤ)) (W : List (StoredProgress Y)) (roomy : progress_sized p.progress F C W join ≡ true) (same : progress_of value p.progress F C W ≡ q) where
    asked : first_no (note_asks k tables s (prompt_of value reads p frontier [] [] counts [] [] waiting)) ≡ first_no ((progress_sized p.progress F C W join, 1) ∷ statement_asks k.time s (progress_of value p.progress F C W))
    asked =
        ask_next tables 1 (statement_asks k.time s q) fit
        ∙ ap (λ x. first_no (statement_asks k.time s x)) (sym same)
        ∙ sym (ask_next (progress_sized p.progress F C W join) 1 (statement_asks k.time s (progress_of value p.progress F C W)) roomy)

    pub note_refused : (U : Type 0) (f : Refusal) → first_no ((progress_sized p.progress F C W join, 1) ∷ statement_asks k.time s (progress_of value p.progress F C W)) ≡ Some (number_of f)
        → Noted k value reads {U = U} (Err f) s p p frontier frontier counts counts waiting waiting frontier₂ counts₂ waiting₂ join
    unfolding Noted
    note_refused U f e = λ reported heeded sums pending. (asked ∙ e, (refl, refl, refl, refl))

    pub note_done : {U : Type 0} (u : U) → first_no ((progress_sized p.progress F C W join, 1) ∷ statement_asks k.time s (progress_of value p.progress F C W)) ≡ None
        → (n : Lengths) (F₂ : List Y) (C₂ : List (Y × ℤ)) (W₂ : List (StoredProgress Y)) → progress_of value n F₂ C₂ W₂ ≡ advanced k.time s (progress_of value p.progress F C W)
        → (frontier' : List Y) (counts' : List (Y × ℤ)) (waiting' : List (StoredProgress Y)) → ProgressSized n frontier' counts' waiting'
        → progress_of value n frontier' counts' waiting' ≡ progress_of value n F₂ C₂ W₂
        → Noted k value reads (Ok u) s p (noting n) frontier frontier' counts counts' waiting waiting' frontier₂ counts₂ waiting₂ join
    unfolding Noted
    note_done u e n F₂ C₂ W₂ came frontier' counts' waiting' sizes copied = λ reported heeded sums pending.
        let before = prompt_of value reads p frontier reported heeded counts sums pending waiting in
        let state : Progress A → Meant D A R = λ x. record { progress = x; reported = before.reported; heeded = before.heeded; pending = before.pending; waiting_counts = before.waiting_counts } in
        let made : Meant D A R = state (advanced k.time s q) in
        let none : first_no (note_asks k tables s before) ≡ None = asked ∙ e in
        let left : (note k tables s before).1 ≡ made = ap (λ z. z.1) (answer_made (note_asks k tables s before) before (tt, made) none) in
        let end : progress_of value n frontier' counts' waiting' ≡ advanced k.time s q = copied ∙ came ∙ ap (advanced k.time s) same in
        (none, (ap noting (progress_lengths value n frontier' counts' waiting' (advanced k.time s q) sizes end) ∙ sym (ap (after_note p) left), ap state end ∙ sym left))
