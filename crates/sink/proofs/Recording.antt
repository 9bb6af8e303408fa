-- What a record asks and leaves.
use Rattle.std.proofs.Common.{◌≡◌, Bool, leb, List, [], ◌∷◌, ◌++◌, ℤ, None, ap, sym, ◌∙◌}
use Rattle.std.specs.List.{list_all}
use Rattle.questions.specs.Questions.{first_no}
use Rattle.capture.specs.Kinds.{Kinds}
use Rattle.capture.specs.Sizes.{largest_count}
use Rattle.capture.specs.Messages.{Change, Message, changes}
use Rattle.capture.specs.Sender.{Sender, told, count_at, counts_with, record_asks, record_changes}
use Rattle.sink.proofs.Sizes.{leaves}

-- question 5: the count of each change's time is not too large
abbrev pub all_small : {D A R : Type 0} → (A → A → Bool) → List (Change D A R) → List (A × ℤ) → Bool
all_small below cs es = list_all (λ c. leb (told (count_at below es c.time)) largest_count) cs

-- what an accepted record leaves
module _ {D A R : Type 0} (k : Kinds D A R) (tables : Bool) (cs : List (Change D A R)) (s : Sender D A R) (e : first_no (record_asks k tables cs s) ≡ None) where
  pub recorded : (counts : List (A × ℤ)) (queue : List (Message D A R)) → counts ≡ counts_with k cs s → queue ≡ s.queued_changes ++ changes cs ∷ []
      → record { frontier = s.frontier; counts = counts; queued_changes = queue; queued_statements = s.queued_statements } ≡ (record_changes k tables cs s).1
  recorded counts queue c q =
      let made : (Unit {0}) × Sender D A R = (tt, record { frontier = s.frontier; counts = counts_with k cs s; queued_changes = s.queued_changes ++ changes cs ∷ []; queued_statements = s.queued_statements }) in
      let state : List (A × ℤ) → List (Message D A R) → Sender D A R = λ c q. record { frontier = s.frontier; counts = c; queued_changes = q; queued_statements = s.queued_statements } in
      ap (λ c. state c queue) c ∙ ap (state (counts_with k cs s)) q ∙ sym (leaves (record_asks k tables cs s) s made e)
