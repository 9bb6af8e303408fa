-- What a sift comes to.
use Rattle.std.proofs.Common.{◌≡◌, ℕ, ◌+◌, ◌-◌, ◌≤◌, Bool, true, false, leb, List, [], ◌∷◌, ◌++◌, map, length, take, drop, ℤ, None, Ok, Err, sym, refl, ap, ◌∙◌, arith}
use Rattle.std.proofs.lemmas.List.{length-append, map-append}
use Rattle.std.proofs.lemmas.Bool.{leb-true}
use Rattle.questions.specs.declared.Refusal.{Refusal}
use Rattle.questions.specs.declared.Refusal.TheVariants.{ShortTable}
use Rattle.questions.specs.Questions.{first_no}
use Rattle.questions.proofs.Asking.{ask_next, ask_here, asked_all}
use Rattle.frontier.specs.Counts.{room}
use Rattle.frontier.specs.Tables.{in_use, Holds, counted}
use Rattle.frontier.proofs.Tables.{sub_zero, length_in_use}
use Rattle.capture.specs.Kinds.{Kinds}
use Rattle.capture.specs.Messages.{Change, short_changes, fresh}
use Rattle.capture.specs.Prompt.{Prompt as Meant, undisputed, sift_asks, sift}
use Rattle.capture.specs.Sizes.{reader_changes, reader_counts}
use Rattle.capture.specs.Statements.{lowered}
use Rattle.capture.proofs.Answering.{answer_made}
use Rattle.source.specs.declared.prompt.Prompt.{Prompt}
use Rattle.source.specs.Tables.{prompt_of, sift_sized}
use Rattle.source.specs.Calls.{Sifted, after_sift}
use Rattle.progress.specs.Weighing.{counts_left}
use Rattle.progress.specs.declared.weighing.Weighed.{Weighed}
use Rattle.source.specs.Weighing.{ChangesWeighed, changes_asks}
use Rattle.source.proofs.Sizes.{sift_told}

module _ {X Y D A R : Type 0} (k : Kinds D A R) (value : Y → A) (reads : X → Change D A R) (cs : List X) (p : Prompt) (heeded : List Y) (sums : List (Y × ℤ)) (pending : List X) where
  -- what the parts in use read as
  abbrev H : List A
  H = in_use value p.heeded heeded

  abbrev P : List (Change D A R)
  P = in_use reads p.pending pending

  abbrev S : List (A × ℤ)
  S = in_use (counted value) p.waiting_counts sums

  abbrev C : List (Change D A R)
  C = map reads cs

  -- the parts as they are handed on
  cut : {B : Type 0} (F : List A → List (Change D A R) → List (A × ℤ) → B) → F (map value (take (p.heeded - 0) heeded)) (map reads (take (p.pending - 0) pending)) (map (counted value) (take (p.waiting_counts - 0) sums)) ≡ F H P S
  cut F =
      ap (λ a. F (in_use value a heeded) (map reads (take (p.pending - 0) pending)) (map (counted value) (take (p.waiting_counts - 0) sums))) (sub_zero p.heeded)
      ∙ ap (λ b. F H (in_use reads b pending) (map (counted value) (take (p.waiting_counts - 0) sums))) (sub_zero p.pending)
      ∙ ap (λ c. F H P (in_use (counted value) c sums)) (sub_zero p.waiting_counts)

  -- changes that were weighed by those parts
  module _ (w : Weighed) (new : List X) (scratch : List (Y × ℤ)) (fact : ChangesWeighed k value reads (Ok w) cs (take (p.heeded - 0) heeded) (take (p.pending - 0) pending) (take (p.waiting_counts - 0) sums) new scratch) where
    pub weighed_tells : (first_no (changes_asks k H P S C) ≡ None) × Holds reads w.new new (fresh k H P C) × Holds (counted value) w.counts scratch (counts_left k H P S C)
    unfolding ChangesWeighed
    weighed_tells =
        let news = cut (λ h p _. fresh k h p C) in
        let left = cut (λ h p s. counts_left k h p s C) in
        (sym (cut (λ h p s. first_no (changes_asks k h p s C))) ∙ fact.0, (fact.1.0.0 ∙ news, sym (ap length news) ∙ fact.1.0.1), (fact.1.1.0 ∙ left, sym (ap length left) ∙ fact.1.1.1))

    -- they fit
    pub weighed_fits : p.pending ≤ length pending → (p.pending + w.new ≤ reader_changes) × (w.counts ≤ reader_counts)
    unfolding ChangesWeighed
    weighed_fits h =
        let told = weighed_tells in
        let few = leb (length (P ++ fresh k H P C)) reader_changes in
        let roomy = room k.time.below reader_counts S (lowered (fresh k H P C)) in
        let after-2 = asked_all (short_changes C) 2 ((undisputed k H P C, 8) ∷ (few, 9) ∷ (roomy, 11) ∷ []) told.0 in
        let after-8 = asked_all (undisputed k H P C) 8 ((few, 9) ∷ (roomy, 11) ∷ []) after-2.1 in
        let after-9 = asked_all few 9 ((roomy, 11) ∷ []) after-8.1 in
        (omega (arith, leb-true (length (P ++ fresh k H P C)) reader_changes after-9.0, length-append P (fresh k H P C), length_in_use reads p.pending pending h, told.1.1), fact.1.3)

  -- the numbers of the reader that is left
  abbrev pub sifting : ℕ → ℕ → Prompt
  sifting n m = record { progress = p.progress; reported = p.reported; heeded = p.heeded; pending = p.pending + n; waiting_counts = m }

  module _ (answer new : List X) (scratch : List (Y × ℤ)) where
    abbrev tables : Bool
    tables = sift_sized p heeded sums pending answer new scratch

    pub sift_short : tables ≡ false → Sifted k value reads (Err ShortTable) cs p p heeded sums sums pending pending answer answer new scratch
    unfolding Sifted
    sift_short e = λ frontier reported counts waiting. (ask_here tables 1 (changes_asks k H P S C) e, (refl, refl, refl, refl))

    module _ (fit : tables ≡ true) where
      pub sift_refused : (f : Refusal) (new' : List X) (scratch' : List (Y × ℤ)) → ChangesWeighed k value reads (Err f) cs (take (p.heeded - 0) heeded) (take (p.pending - 0) pending) (take (p.waiting_counts - 0) sums) new' scratch'
          → Sifted k value reads (Err f) cs p p heeded sums sums pending pending answer answer new scratch
      unfolding ChangesWeighed Sifted
      sift_refused f new' scratch' w = λ frontier reported counts waiting.
          (ask_next tables 1 (changes_asks k H P S C) fit ∙ sym (cut (λ h p s. first_no (changes_asks k h p s C))) ∙ w.0, (refl, refl, refl, refl))

      module _ (w : Weighed) (new' : List X) (scratch' : List (Y × ℤ)) (fact : ChangesWeighed k value reads (Ok w) cs (take (p.heeded - 0) heeded) (take (p.pending - 0) pending) (take (p.waiting_counts - 0) sums) new' scratch') where
        pub sift_done : (sums' : List (Y × ℤ)) (pending' answer' : List X) → take w.counts sums' ≡ take w.counts scratch' → take (p.pending + w.new) pending' ≡ take p.pending pending ++ take w.new new' → take w.new answer' ≡ take w.new new' → drop w.new answer' ≡ drop w.new answer
            → Sifted k value reads (Ok w.new) cs p (sifting w.new w.counts) heeded sums sums' pending pending' answer answer' new scratch
        unfolding Sifted
        sift_done sums' pending' answer' copied appended told rest = λ frontier reported counts waiting.
            let sizes = sift_told p heeded sums pending answer new scratch fit in
            let before = prompt_of value reads p frontier reported heeded counts sums pending waiting in
            let ws = weighed_tells w new' scratch' fact in
            let news = fresh k H P C in
            let made : Meant D A R = record { progress = before.progress; reported = before.reported; heeded = H; pending = P ++ news; waiting_counts = counts_left k H P S C } in
            let none : first_no (sift_asks k tables C before) ≡ None = ask_next tables 1 (changes_asks k H P S C) fit ∙ ws.0 in
            let left : (sift k tables C before).1 ≡ made = ap (λ z. z.1) (answer_made (sift_asks k tables C before) before (news, made) none) in
            let kept : length P ≡ p.pending = length_in_use reads p.pending pending (omega arith) in
            let all_are : in_use reads (p.pending + w.new) pending' ≡ P ++ news = ap (map reads) appended ∙ map-append reads (take p.pending pending) (take w.new new') ∙ ap (λ l. P ++ l) ws.1.0 in
            let sums_are : in_use (counted value) w.counts sums' ≡ counts_left k H P S C = ap (map (counted value)) copied ∙ ws.2.0 in
            let many : p.pending + w.new ≡ length (P ++ news) = omega (arith, length-append P news, ws.1.1) in
            let numbers : sifting w.new w.counts ≡ after_sift p made = ap (λ j. record { progress = p.progress; reported = p.reported; heeded = p.heeded; pending = j; waiting_counts = w.counts }) many ∙ ap (λ j. record { progress = p.progress; reported = p.reported; heeded = p.heeded; pending = length (P ++ news); waiting_counts = j }) (sym ws.2.1) in
            let state : List (Change D A R) → List (A × ℤ) → Meant D A R = λ us ss. record { progress = before.progress; reported = before.reported; heeded = H; pending = us; waiting_counts = ss } in
            (none, (numbers ∙ sym (ap (after_sift p) left), ap (λ us. state us (in_use (counted value) w.counts sums')) all_are ∙ ap (state (P ++ news)) sums_are ∙ sym left, (ap (map reads) told ∙ ws.1.0, ws.1.1), rest))
