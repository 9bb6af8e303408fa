-- What changes come to when they are weighed in scratch tables.
use Rattle.std.proofs.Common.{◌≡◌, ℕ, ◌+◌, ◌-◌, ◌<◌, ◌≤◌, Bool, leb, List, [], ◌∷◌, ◌++◌, map, length, take, ℤ, Some, None, Ok, Err, sym, ap, ◌∙◌, arith}
use Rattle.std.proofs.lemmas.List.{length-map, length-append, take_all}
use Rattle.std.proofs.lemmas.Bool.{le-leb, lt-leb}
use Rattle.questions.specs.declared.Refusal.{Refusal}
use Rattle.questions.specs.declared.Refusal.TheVariants.{ManyChanges}
use Rattle.questions.specs.Questions.{first_no, number_of}
use Rattle.questions.proofs.Asking.{ask_next, ask_here}
use Rattle.frontier.specs.Counts.{added_all, room}
use Rattle.frontier.specs.Tables.{in_use, Holds, counted, table_asks}
use Rattle.frontier.proofs.Filling.{fit_length, adding}
use Rattle.frontier.proofs.Tables.{sub_zero, length_in_use, accepted, refused_full}
use Rattle.capture.specs.Kinds.{Kinds}
use Rattle.capture.specs.Messages.{Change, fresh}
use Rattle.capture.specs.Sizes.{reader_changes, reader_counts}
use Rattle.capture.specs.Statements.{lowered}
use Rattle.progress.specs.Weighing.{FreshWeighed}

module _ {X Y D A R : Type 0} (k : Kinds D A R) (value : Y → A) (reads : X → Change D A R) (cs : List X) (frontier : List Y) (kept : List X) (counts : List (Y × ℤ)) where
  -- the changes that are new
  abbrev news : List (Change D A R)
  news = fresh k (map value frontier) (map reads kept) (map reads cs)

  abbrev few : Bool
  few = leb (length (map reads kept ++ news)) reader_changes

  abbrev roomy : Bool
  roomy = room k.time.below reader_counts (map (counted value) counts) (lowered news)

  -- they stand first in a table
  module _ (n : ℕ) (new : List X) (made : in_use reads n new ≡ news) (long : n ≤ length new) where
    as_many : length news ≡ n
    as_many = ap length (sym made) ∙ length_in_use reads n new long

    all_many : length (map reads kept ++ news) ≡ length kept + n
    all_many = omega (arith, length-append (map reads kept) news, length-map kept reads, as_many)

    pub fresh_many : reader_changes < length kept + n → (new' : List X) (sums : List (Y × ℤ)) → FreshWeighed k value reads (Err ManyChanges) cs frontier kept counts new' sums
    fresh_many h new' sums = (ask_here few 9 ((roomy, 11) ∷ []) (lt-leb (length (map reads kept ++ news)) reader_changes (omega (arith, all_many))), tt)

    -- the counts stand first in another, and are lowered there
    module _ (fits : length kept + n ≤ reader_changes) (within : length counts ≤ reader_counts) (table : List (Y × ℤ)) (wide : reader_counts ≤ length table) (copied : take (length counts) table ≡ take (length counts) counts) where
      abbrev start : List (A × ℤ)
      start = in_use (counted value) (length counts) table

      abbrev steps : List (A × ℤ)
      steps = lowered (map reads (take (n - 0) new))

      past_9 : first_no ((few, 9) ∷ (roomy, 11) ∷ []) ≡ first_no ((roomy, 11) ∷ [])
      past_9 = ask_next few 9 ((roomy, 11) ∷ []) (le-leb (length (map reads kept ++ news)) reader_changes (omega (arith, all_many)))

      start_is : start ≡ map (counted value) counts
      start_is = ap (map (counted value)) (copied ∙ take_all (length counts) counts (omega arith))

      steps_are : steps ≡ lowered news
      steps_are = ap lowered (ap (λ j. in_use reads j new) (sub_zero n) ∙ made)

      room_is : room k.time.below reader_counts start steps ≡ roomy
      room_is = ap (λ es. room k.time.below reader_counts es steps) start_is ∙ ap (room k.time.below reader_counts (map (counted value) counts)) steps_are

      abbrev asks : List (Bool × ℕ)
      asks = table_asks reader_counts 11 (length table) (length counts) (room k.time.below reader_counts start steps)

      pub fresh_full : (f : Refusal) → first_no asks ≡ Some (number_of f) → (new' : List X) (sums : List (Y × ℤ)) → FreshWeighed k value reads (Err f) cs frontier kept counts new' sums
      fresh_full f e new' sums =
          let full = refused_full reader_counts 11 (length table) (length counts) (room k.time.below reader_counts start steps) within wide (number_of f) e in
          (past_9 ∙ ask_here roomy 11 [] (sym room_is ∙ full.0) ∙ ap Some (sym full.1), tt)

      pub fresh_weighed : n ≤ length cs → (m : ℕ) (sums : List (Y × ℤ)) → first_no asks ≡ None → Holds (counted value) m sums (added_all k.time.below start steps) → FreshWeighed k value reads (Ok (record { new = n; counts = m })) cs frontier kept counts new sums
      fresh_weighed h m sums e sum =
          let fit = (accepted reader_counts 11 (length table) (length counts) (room k.time.below reader_counts start steps) e).2 in
          let sums_are : added_all k.time.below start steps ≡ added_all k.time.below (map (counted value) counts) (lowered news) = ap (λ es. added_all k.time.below es steps) start_is ∙ ap (added_all k.time.below (map (counted value) counts)) steps_are in
          let short = fit_length (adding k.time.below reader_counts) start steps (omega (arith, length_in_use (counted value) (length counts) table (omega arith))) fit in
          (past_9 ∙ ask_next roomy 11 [] (sym room_is ∙ fit), ((made, as_many), (sum.0 ∙ sums_are, sym (ap length sums_are) ∙ sum.1), h, omega (arith, sum.1, short)))
