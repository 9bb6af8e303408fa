-- What changes, and the waiting counts, come to when they are weighed in scratch tables.
use Rattle.std.proofs.Common.{◌≡◌, ℕ, ◌-◌, ◌<◌, ◌≤◌, Bool, true, false, List, [], ◌∷◌, map, length, take, ℤ, Some, None, Ok, Err, Result, sym, ap, ◌∙◌, arith}
use Rattle.std.proofs.lemmas.List.{length-map, take_all}
use Rattle.std.proofs.lemmas.Bool.{le-leb, lt-leb}
use Rattle.questions.specs.declared.Refusal.{Refusal}
use Rattle.questions.specs.declared.Refusal.TheVariants.{LongMessage, OtherAmount}
use Rattle.questions.specs.Questions.{first_no, number_of}
use Rattle.questions.proofs.Asking.{ask_next, ask_here, answered_so}
use Rattle.frontier.specs.Counts.{added_all, room, positives}
use Rattle.frontier.specs.Frontiers.{inserted_all, fits}
use Rattle.frontier.specs.Tables.{in_use, Holds, counted, table_asks, frontier_asks, frontier_size}
use Rattle.frontier.proofs.Filling.{fit_length, adding}
use Rattle.frontier.proofs.Tables.{sub_zero, length_in_use, accepted, refused_full}
use Rattle.capture.specs.Kinds.{Kinds}
use Rattle.capture.specs.Messages.{Change, short_changes}
use Rattle.capture.specs.Prompt.{undisputed}
use Rattle.capture.specs.Sizes.{message_changes, reader_counts}
use Rattle.progress.specs.Weighing.{fresh_asks, FreshWeighed}
use Rattle.progress.specs.declared.weighing.Weighed.{Weighed}
use Rattle.source.specs.Weighing.{ChangesWeighed, Brought, sums_asks}

-- changes by the parts of a reader's tables that are in use
module _ {X Y D A R : Type 0} (k : Kinds D A R) (value : Y → A) (reads : X → Change D A R) (cs : List X) (heeded : List Y) (pending : List X) (sums : List (Y × ℤ)) where
  abbrev brief : Bool
  brief = short_changes (map reads cs)

  abbrev clear : Bool
  clear = undisputed k (map value heeded) (map reads pending) (map reads cs)

  abbrev asks : List (Bool × ℕ)
  asks = fresh_asks k (map value heeded) (map reads pending) (map (counted value) sums) (map reads cs)

  -- a refusal leaves anything in the scratch tables
  module _ (new : List X) (scratch : List (Y × ℤ)) where
    pub weighed_long : message_changes < length cs → ChangesWeighed k value reads (Err LongMessage) cs heeded pending sums new scratch
    unfolding ChangesWeighed
    weighed_long h = (ask_here brief 2 ((clear, 8) ∷ asks) (lt-leb (length (map reads cs)) message_changes (omega (arith, length-map cs reads))), tt)

    module _ (h : length cs ≤ message_changes) where
      past_2 : first_no ((brief, 2) ∷ (clear, 8) ∷ asks) ≡ first_no ((clear, 8) ∷ asks)
      past_2 = ask_next brief 2 ((clear, 8) ∷ asks) (le-leb (length (map reads cs)) message_changes (omega (arith, length-map cs reads)))

      pub weighed_disputed : clear ≡ false → ChangesWeighed k value reads (Err OtherAmount) cs heeded pending sums new scratch
      unfolding ChangesWeighed
      weighed_disputed e = (past_2 ∙ ask_here clear 8 asks e, tt)

      -- the new ones are weighed
      pub weighed : clear ≡ true → (r : Result Weighed Refusal) → FreshWeighed k value reads r cs heeded pending sums new scratch → ChangesWeighed k value reads r cs heeded pending sums new scratch
      unfolding ChangesWeighed
      weighed e r = answered_so r asks ((brief, 2) ∷ (clear, 8) ∷ asks) (sym (past_2 ∙ ask_next clear 8 asks e)) (λ _ w. w) (λ u. u)

-- waiting counts are brought in: the counts stand first in a table
module _ {Y A : Type 0} (below : A → A → Bool) (value : Y → A) (frontier : List Y) (counts sums : List (Y × ℤ)) (few : length frontier ≤ frontier_size) (within : length counts ≤ reader_counts) (table : List (Y × ℤ)) (wide : reader_counts ≤ length table) (copied : take (length counts) table ≡ take (length counts) counts) where
  abbrev pub before : List (A × ℤ)
  before = in_use (counted value) (length counts) table

  abbrev pub more : List (A × ℤ)
  more = map (counted value) sums

  before_is : before ≡ map (counted value) counts
  before_is = ap (map (counted value)) (copied ∙ take_all (length counts) counts (omega arith))

  room_same : room below reader_counts before more ≡ room below reader_counts (map (counted value) counts) more
  room_same = ap (λ es. room below reader_counts es more) before_is

  -- whether the lower edge then has room
  abbrev near : Bool
  near = fits below frontier_size (map value frontier) (positives (added_all below (map (counted value) counts) more))

  pub brought_full : (f : Refusal) → first_no (table_asks reader_counts 11 (length table) (length counts) (room below reader_counts before more)) ≡ Some (number_of f) → (scratch : List (Y × ℤ)) (edge : List Y) → Brought below value (Err f) frontier counts sums scratch edge
  unfolding Brought
  brought_full f e scratch edge =
      let full = refused_full reader_counts 11 (length table) (length counts) (room below reader_counts before more) within wide (number_of f) e in
      (ask_here (room below reader_counts (map (counted value) counts) more) 11 ((near, 12) ∷ []) (sym room_same ∙ full.0) ∙ ap Some (sym full.1), tt)

  -- and are added to there
  module _ (n : ℕ) (scratch : List (Y × ℤ)) (e : first_no (table_asks reader_counts 11 (length table) (length counts) (room below reader_counts before more)) ≡ None) (sum : Holds (counted value) n scratch (added_all below before more)) where
    fit : room below reader_counts before more ≡ true
    fit = (accepted reader_counts 11 (length table) (length counts) (room below reader_counts before more) e).2

    pub brought_few : n ≤ reader_counts
    brought_few = omega (arith, sum.1, fit_length (adding below reader_counts) before more (omega (arith, length_in_use (counted value) (length counts) table (omega arith))) fit)

    sums_are : in_use (counted value) n scratch ≡ added_all below (map (counted value) counts) more
    sums_are = sum.0 ∙ ap (λ es. added_all below es more) before_is

    -- the times at which changes are missing then
    abbrev pub missing : List A
    missing = positives (map (counted value) (take (n - 0) scratch))

    missing_are : missing ≡ positives (added_all below (map (counted value) counts) more)
    missing_are = ap positives (ap (λ j. in_use (counted value) j scratch) (sub_zero n) ∙ sums_are)

    near_same : fits below frontier_size (map value frontier) missing ≡ near
    near_same = ap (fits below frontier_size (map value frontier)) missing_are

    past_11 : first_no (sums_asks below value (map value frontier) (map (counted value) counts) more) ≡ first_no ((near, 12) ∷ [])
    past_11 = ask_next (room below reader_counts (map (counted value) counts) more) 11 ((near, 12) ∷ []) (sym room_same ∙ fit)

    module _ (l : ℕ) (wide₂ : frontier_size ≤ l) where
      pub brought_many : (f : Refusal) → first_no (frontier_asks l (length frontier) (fits below frontier_size (map value frontier) missing)) ≡ Some (number_of f) → (scratch' : List (Y × ℤ)) (edge : List Y) → Brought below value (Err f) frontier counts sums scratch' edge
      unfolding Brought
      brought_many f h scratch' edge =
          let full = refused_full frontier_size 12 l (length frontier) (fits below frontier_size (map value frontier) missing) few wide₂ (number_of f) h in
          (past_11 ∙ ask_here near 12 [] (sym near_same ∙ full.0) ∙ ap Some (sym full.1), tt)

      pub brought : (m : ℕ) (edge : List Y) → first_no (frontier_asks l (length frontier) (fits below frontier_size (map value frontier) missing)) ≡ None → Holds value m edge (inserted_all below (map value frontier) missing) → Brought below value (Ok (n, m)) frontier counts sums scratch edge
      unfolding Brought
      brought m edge h made =
          let all_Near = (accepted frontier_size 12 l (length frontier) (fits below frontier_size (map value frontier) missing) h).2 in
          let edge_is = ap (inserted_all below (map value frontier)) missing_are in
          (past_11 ∙ ask_next near 12 [] (sym near_same ∙ all_Near), ((sums_are, sym (ap (λ es. length (added_all below es more)) before_is) ∙ sum.1), (made.0 ∙ edge_is, sym (ap length edge_is) ∙ made.1)))
