-- What a statement or changes would make of a reader, in scratch tables.
use Rattle.std.proofs.Common.{◌≡◌, ℕ, ◌-◌, ◌≤◌, Bool, true, ◌&&◌, List, [], ◌∷◌, ◌++◌, map, length, take, ℤ, Some, None, Ok, Err, Result, sym, ap, ◌∙◌, subst, arith}
use Rattle.std.proofs.lemmas.List.{length-map, length-take}
use Rattle.std.proofs.lemmas.Bool.{and_from, le-leb}
use Rattle.questions.specs.declared.Refusal.{Refusal}
use Rattle.questions.specs.Questions.{first_no, number_of}
use Rattle.questions.proofs.Asking.{ask_next, ask_here}
use Rattle.frontier.specs.Counts.{positives}
use Rattle.frontier.specs.Frontiers.{inserted_all, fits}
use Rattle.frontier.specs.Tables.{in_use, Holds, sized, counted, frontier_size, frontier_asks}
use Rattle.frontier.proofs.Tables.{sub_zero, sized_yes, accepted, refused_full}
use Rattle.frontier.proofs.Filling.{fit_length, inserting}
use Rattle.capture.specs.Held.{Held as Meant, news, lowered_by}
use Rattle.capture.specs.Kinds.{Kinds, Time}
use Rattle.capture.specs.Messages.{Change, Statement, short_changes}
use Rattle.capture.specs.Sizes.{message_changes, reader_counts, reader_statements}
use Rattle.capture.specs.Statements.{Progress, advanced, statement_asks, lower_edge, edge_fits}
use Rattle.capture.specs.declared.stored.StoredProgress.{StoredProgress}
use Rattle.progress.specs.Tables.{progress_of, progress_sized}
use Rattle.progress.specs.Weighing.{fresh_asks, FreshWeighed}
use Rattle.progress.specs.declared.statements.Lengths.{Lengths}
use Rattle.progress.specs.declared.weighing.Weighed.{Weighed}
use Rattle.iterator.specs.Feeding.{Reads, WeighsChanges}
use Rattle.iterator.specs.Readers.{Tables, held_in, changes_asks}
use Rattle.iterator.specs.declared.held.Held.{Held}
use Rattle.progress.proofs.Acting.{asked_on_from, asked_until}

-- the scratch tables of a progress are at least their sizes
pub all_sized : {X Y Z : Type 0} (n : Lengths) (F : List X) (C : List Y) (W : List Z) (S : List X) → n.frontier ≤ frontier_size → frontier_size ≤ length F → n.counts ≤ reader_counts → reader_counts ≤ length C → n.waiting ≤ reader_statements → reader_statements ≤ length W → frontier_size ≤ length S → progress_sized n F C W S ≡ true
all_sized n F C W S f F-long c C-long w W-long S-long =
    let times = sized frontier_size n.frontier (length F) in
    let sums = sized reader_counts n.counts (length C) in
    let statements = sized reader_statements n.waiting (length W) in
    let spare = sized frontier_size 0 (length S) in
    and_from times (sums && (statements && spare)) (sized_yes frontier_size n.frontier (length F) f F-long)
    (and_from sums (statements && spare) (sized_yes reader_counts n.counts (length C) c C-long)
    (and_from statements spare (sized_yes reader_statements n.waiting (length W) w W-long) (sized_yes frontier_size 0 (length S) (omega arith) S-long)))

module _ {A : Type 0} (t : Time A) (s : Statement A) (p p' : Progress A) (same : p' ≡ p) (sizes : Bool) (yes : sizes ≡ true) where
  abbrev near : Bool
  near = edge_fits t (advanced t s p)

  asked : first_no ((sizes, 1) ∷ statement_asks t s p') ≡ first_no (statement_asks t s p)
  asked = ask_next sizes 1 (statement_asks t s p') yes ∙ ap (λ x. first_no (statement_asks t s x)) same

  -- the statement is refused
  pub statement_no : (m : ℕ) → first_no ((sizes, 1) ∷ statement_asks t s p') ≡ Some m → first_no (statement_asks t s p ++ (near, 12) ∷ []) ≡ Some m
  statement_no m e = asked_until ((near, 12) ∷ []) (statement_asks t s p) m (sym asked ∙ e)

  -- the statement is accepted, and the question of the lower edge is left
  pub statement_yes : first_no ((sizes, 1) ∷ statement_asks t s p') ≡ None → first_no (statement_asks t s p ++ (near, 12) ∷ []) ≡ first_no ((near, 12) ∷ [])
  statement_yes e = asked_on_from ((near, 12) ∷ []) (statement_asks t s p) (sym asked ∙ e)

-- the lower edge of a progress that stands in tables, which are handed on as parts
module _ {Y A : Type 0} (t : Time A) (value : Y → A) (n : Lengths) (F : List Y) (C : List (Y × ℤ)) (W : List (StoredProgress Y)) (q : Progress A) (holds : progress_of value n F C W ≡ q) where
  abbrev times : List A
  times = map value (take (n.frontier - 0) F)

  abbrev sums : List (A × ℤ)
  sums = map (counted value) (take (n.counts - 0) C)

  times_are : times ≡ q.frontier
  times_are = ap (λ j. in_use value j F) (sub_zero n.frontier) ∙ ap (λ x. x.frontier) holds

  sums_are : sums ≡ q.counts
  sums_are = ap (λ j. in_use (counted value) j C) (sub_zero n.counts) ∙ ap (λ x. x.counts) holds

  near_is : fits t.below frontier_size times (positives sums) ≡ edge_fits t q
  near_is = ap (λ f. fits t.below frontier_size f (positives sums)) times_are ∙ ap (λ c. fits t.below frontier_size q.frontier (positives c)) sums_are

  edge_is : inserted_all t.below times (positives sums) ≡ lower_edge t q
  edge_is = ap (λ f. inserted_all t.below f (positives sums)) times_are ∙ ap (λ c. inserted_all t.below q.frontier (positives c)) sums_are

  -- what the making of the lower edge is asked, and tells
  module _ (l : ℕ) where
    abbrev pub edge_asks : List (Bool × ℕ)
    edge_asks = frontier_asks l (length (take (n.frontier - 0) F)) (fits t.below frontier_size times (positives sums))

    pub edge_no : n.frontier ≤ frontier_size → frontier_size ≤ l → (m : ℕ) → first_no edge_asks ≡ Some m → first_no ((edge_fits t q, 12) ∷ []) ≡ Some m
    edge_no h long m e =
        let few : length (take (n.frontier - 0) F) ≤ frontier_size = omega (arith, length-take (n.frontier - 0) F) in
        let full = refused_full frontier_size 12 l (length (take (n.frontier - 0) F)) (fits t.below frontier_size times (positives sums)) few long m e in
        ask_here (edge_fits t q) 12 [] (sym near_is ∙ full.0) ∙ ap Some (sym full.1)

    pub edge_yes : (m : ℕ) (E : List Y) → first_no edge_asks ≡ None → Holds value m E (inserted_all t.below times (positives sums)) → (first_no ((edge_fits t q, 12) ∷ []) ≡ None) × Reads value m frontier_size E (lower_edge t q)
    edge_yes m E e made =
        let told = accepted frontier_size 12 l (length (take (n.frontier - 0) F)) (fits t.below frontier_size times (positives sums)) e in
        let few : length times ≤ frontier_size = omega (arith, length-map (take (n.frontier - 0) F) value, told.0) in
        let short = fit_length (inserting t.below) times (positives sums) few told.2 in
        (ask_next (edge_fits t q) 12 [] (sym near_is ∙ told.2), (made.0 ∙ edge_is, sym (ap length edge_is) ∙ made.1, omega (arith, made.1, short)))

-- the weighing of changes, by the parts of a reader's tables that are in use
module _ {X Y D A R : Type 0} (k : Kinds D A R) (value : Y → A) (reads : X → Change D A R) (s : Held) (t : Tables X Y) (cs : List X) where
  abbrev before : Meant D A R
  before = held_in value reads s t

  abbrev then : Progress A
  then = lowered_by k (news k (map reads cs) before) before.progress

  abbrev asks : List (Bool × ℕ)
  asks = fresh_asks k before.reported before.updates before.progress.counts (map reads cs)

  pub uncut : (r : Result Weighed Refusal) (new : List X) (sums : List (Y × ℤ)) → FreshWeighed k value reads r cs (take (s.reported - 0) t.reported) (take (s.held - 0) t.updates) (take (s.progress.counts - 0) t.counts) new sums → FreshWeighed k value reads r cs (take s.reported t.reported) (take s.held t.updates) (take s.progress.counts t.counts) new sums
  uncut r new sums f =
      subst (λ i. FreshWeighed k value reads r cs (take s.reported t.reported) (take s.held t.updates) (take i t.counts) new sums) (sub_zero s.progress.counts)
      (subst (λ i. FreshWeighed k value reads r cs (take s.reported t.reported) (take i t.updates) (take (s.progress.counts - 0) t.counts) new sums) (sub_zero s.held)
      (subst (λ i. FreshWeighed k value reads r cs (take i t.reported) (take (s.held - 0) t.updates) (take (s.progress.counts - 0) t.counts) new sums) (sub_zero s.reported) f))

  module _ (short : length cs ≤ message_changes) where
    past_2 : first_no (changes_asks k (map reads cs) before) ≡ first_no (asks ++ (edge_fits k.time then, 12) ∷ [])
    past_2 = ask_next (short_changes (map reads cs)) 2 (asks ++ (edge_fits k.time then, 12) ∷ []) (le-leb (length (map reads cs)) message_changes (omega (arith, length-map cs reads)))

    -- they were refused before the lower edge was made
    pub changes_refused : (f : Refusal) (new : List X) (sums : List (Y × ℤ)) (edge : List Y) → FreshWeighed k value reads (Err f) cs (take s.reported t.reported) (take s.held t.updates) (take s.progress.counts t.counts) new sums → WeighsChanges k value reads (Err f) (map reads cs) before new sums edge
    changes_refused f new sums edge told = (past_2 ∙ asked_until ((edge_fits k.time then, 12) ∷ []) asks (number_of f) told.0, tt)

  module _ (short : length cs ≤ message_changes) (w : Weighed) (new : List X) (sums : List (Y × ℤ)) (told : FreshWeighed k value reads (Ok w) cs (take s.reported t.reported) (take s.held t.updates) (take s.progress.counts t.counts) new sums) where
    abbrev left : Lengths
    left = record { frontier = s.progress.frontier; counts = w.counts; waiting = s.progress.waiting }

    on : first_no (changes_asks k (map reads cs) before) ≡ first_no ((edge_fits k.time then, 12) ∷ [])
    on = past_2 short ∙ asked_on_from ((edge_fits k.time then, 12) ∷ []) asks told.0

    pub made : progress_of value left t.frontier sums t.waiting ≡ then
    made = ap (λ c. record { frontier = before.progress.frontier; counts = c; waiting = before.progress.waiting }) told.1.1.0

    module _ (l : ℕ) (few : s.progress.frontier ≤ frontier_size) (long : frontier_size ≤ l) where
      pub changes_no : (f : Refusal) (edge : List Y) → first_no (edge_asks k.time value left t.frontier sums t.waiting then made l) ≡ Some (number_of f) → WeighsChanges k value reads (Err f) (map reads cs) before new sums edge
      changes_no f edge e = (on ∙ edge_no k.time value left t.frontier sums t.waiting then made l few long (number_of f) e, tt)

      pub changes_yes : (m : ℕ) (edge : List Y) → first_no (edge_asks k.time value left t.frontier sums t.waiting then made l) ≡ None → Holds value m edge (inserted_all k.time.below (map value (take (s.progress.frontier - 0) t.frontier)) (positives (map (counted value) (take (w.counts - 0) sums)))) → WeighsChanges k value reads (Ok (w, m)) (map reads cs) before new sums edge
      changes_yes m edge e h =
          let end = edge_yes k.time value left t.frontier sums t.waiting then made l m edge e h in
          (on ∙ end.0, ((told.1.0.0, told.1.0.1, omega (arith, told.1.2, short)), (told.1.1.0, told.1.1.1, told.1.3), end.1))
