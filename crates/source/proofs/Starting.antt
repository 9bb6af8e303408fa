-- What starting a reader comes to.
use Rattle.std.proofs.Common.{◌≡◌, ◌<◌, true, false, List, [], ◌∷◌, map, length, set, ℤ, Ok, Err, refl, ap, ◌∙◌, arith}
use Rattle.std.proofs.lemmas.List.{take_more_set}
use Rattle.questions.specs.declared.Refusal.TheVariants.{ShortTable}
use Rattle.questions.proofs.Asking.{ask_next, ask_here}
use Rattle.frontier.specs.Tables.{in_use}
use Rattle.capture.specs.Kinds.{Kinds}
use Rattle.capture.specs.Messages.{Change}
use Rattle.capture.specs.Prompt.{Prompt as Meant}
use Rattle.capture.specs.declared.stored.StoredProgress.{StoredProgress}
use Rattle.source.specs.Tables.{new_sized}
use Rattle.source.specs.Calls.{Started, fresh_numbers}
use Rattle.source.proofs.Sizes.{new_told}

-- a time is written first
written : {Y A : Type 0} (value : Y → A) (xs : List Y) (x : Y) (a : A) → 0 < length xs → value x ≡ a → in_use value 1 (set xs 0 x) ≡ a ∷ []
written value xs x a h e = ap (map value) (take_more_set xs 0 x h) ∙ ap (λ y. y ∷ []) e

module _ {X Y D A R : Type 0} (k : Kinds D A R) (value : Y → A) (reads : X → Change D A R) (frontier reported heeded : List Y) (counts sums : List (Y × ℤ)) (pending : List X) (waiting : List (StoredProgress Y)) where
  pub new_short : new_sized frontier reported heeded counts sums pending waiting ≡ false → Started k value reads (Err ShortTable) frontier frontier reported reported heeded heeded counts sums pending waiting
  unfolding Started
  new_short e = (ask_here _ 1 [] e, (refl, refl, refl))

  pub new_done : new_sized frontier reported heeded counts sums pending waiting ≡ true → (x y z : Y) → value x ≡ k.time.start → value y ≡ k.time.start → value z ≡ k.time.start
      → Started k value reads (Ok fresh_numbers) frontier (set frontier 0 x) reported (set reported 0 y) heeded (set heeded 0 z) counts sums pending waiting
  unfolding Started
  new_done fit x y z ex ey ez =
      let sizes = new_told frontier reported heeded counts sums pending waiting fit in
      let s = k.time.start in
      let state : List A → List A → List A → Meant D A R = λ a b c. record { progress = record { frontier = a; counts = []; waiting = [] }; reported = b; heeded = c; pending = []; waiting_counts = [] } in
      let one = written value frontier x s (omega arith) ex in
      let two = written value reported y s (omega arith) ey in
      let three = written value heeded z s (omega arith) ez in
      (ask_next _ 1 [] fit, (refl, ap (λ a. state a (in_use value 1 (set reported 0 y)) (in_use value 1 (set heeded 0 z))) one ∙ ap (λ b. state (s ∷ []) b (in_use value 1 (set heeded 0 z))) two ∙ ap (state (s ∷ []) (s ∷ [])) three))
