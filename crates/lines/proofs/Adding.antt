-- One line more of a statement.
use Rattle.std.proofs.Common.{◌≡◌, ℕ, Bool, true, false, ◌&&◌, ltb, leb, [], ◌∷◌, ◌++◌, map, length, take, sym, refl, ap, ◌∙◌}
use Rattle.std.proofs.Math.Bool.{and-true, and-false}
use Rattle.std.proofs.lemmas.Bool.{true≢false, cond-true}
use Rattle.lattice.specs.declared.product.Product.{Product}
use Rattle.timetable.specs.declared.week.Week.{Week}
use Rattle.capture.specs.Messages.{Statement, statement, short_statement}
use Rattle.capture.specs.Sizes.{statement_times, statement_counts}
use Rattle.capture.specs.Views.{count_of}
use Rattle.capture.specs.Stored.{stored_statement}
use Rattle.capture.specs.Rows.{row}
use Rattle.capture.specs.declared.row.Row.{Row}
use Rattle.capture.specs.declared.stored.StoredProgress.{StoredProgress}
use Rattle.lines.specs.Said.{a_lower, an_upper, a_count}
use Rattle.lines.specs.Format.{in_statement, goes_on, step, until_lower, until_upper}
use Rattle.lines.specs.Blocks.{front_of}
use Rattle.lines.specs.Values.{time_value}
use Rattle.lines.specs.declared.part.Part.{Part}
use Rattle.lines.specs.declared.part.Part.TheVariants.{Lower, Upper, Counts}
use Rattle.lines.proofs.Reading.{pushed}

-- the rows have the first of each list of the statement, as many as they have places for, and it is told whether that is all
pub record Keeps (rows : StoredProgress (Product ℕ Week)) (whole : Bool) (s : Statement (ℕ × ℕ)) : Type 0 where
  pub lower : map time_value (row rows.lower) ≡ take statement_times s.lower
  pub upper : map time_value (row rows.upper) ≡ take statement_times s.upper
  pub counts : map (count_of time_value) (row rows.counts) ≡ take statement_counts s.counts
  pub fits : whole ≡ short_statement s

-- what the rows read as then
pub kept_front : (rows : StoredProgress (Product ℕ Week)) (whole : Bool) (s : Statement (ℕ × ℕ)) → Keeps rows whole s → statement (stored_statement time_value rows) ≡ front_of (statement s)
kept_front rows whole s keeps = let lower = keeps.lower in let upper = keeps.upper in let counts = keeps.counts in cc

-- a test more at one of three
first_of : (r a b c : Bool) → ((a && (b && c)) && r) ≡ ((a && r) && (b && c))
first_of true true b c = and-true (b && c)
first_of false true b c = and-false (b && c)
first_of r false b c = refl

second_of : (r a b c : Bool) → ((a && (b && c)) && r) ≡ (a && ((b && r) && c))
second_of true true true c = and-true c
second_of false true true c = and-false c
second_of r true false c = refl
second_of r false b c = refl

third_of : (r a b c : Bool) → ((a && (b && c)) && r) ≡ (a && (b && (c && r)))
third_of r true true c = refl
third_of r true false c = refl
third_of r false b c = refl

module _ (rows : StoredProgress (Product ℕ Week)) (whole : Bool) (s : Statement (ℕ × ℕ)) (keeps : Keeps rows whole s) (room : Bool) where
  pub lower_more : (part : Part) (t : Product ℕ Week) (after : Row (Product ℕ Week) 32) → until_lower part ≡ true → room ≡ ltb (length (row rows.lower)) 32 → row after ≡ take 32 (row rows.lower ++ t ∷ []) → (n : Statement (ℕ × ℕ)) × (step (in_statement part s) (a_lower (time_value t)) ≡ goes_on (in_statement part n)) × Keeps (record { lower = after; upper = rows.upper; counts = rows.counts }) (whole && room) n
  lower_more Lower t after may had pushes =
      let a = leb (length s.lower) statement_times in
      let b = leb (length s.upper) statement_times in
      let c = leb (length s.counts) statement_counts in
      let more = pushed time_value 32 (row rows.lower) (row after) s.lower t a room keeps.lower refl had pushes in
      (record { lower = s.lower ++ time_value t ∷ []; upper = s.upper; counts = s.counts }, refl, record { lower = more.0; upper = keeps.upper; counts = keeps.counts; fits = ap (λ w. w && room) keeps.fits ∙ first_of room a b c ∙ ap (λ v. v && (b && c)) more.1 })
  lower_more Upper t after may had pushes = absurd (true≢false (sym may))
  lower_more Counts t after may had pushes = absurd (true≢false (sym may))

  pub upper_more : (part : Part) (t : Product ℕ Week) (after : Row (Product ℕ Week) 32) → until_upper part ≡ true → room ≡ ltb (length (row rows.upper)) 32 → row after ≡ take 32 (row rows.upper ++ t ∷ []) → (n : Statement (ℕ × ℕ)) × (step (in_statement part s) (an_upper (time_value t)) ≡ goes_on (in_statement Upper n)) × Keeps (record { lower = rows.lower; upper = after; counts = rows.counts }) (whole && room) n
  upper_more part t after may had pushes =
      let a = leb (length s.lower) statement_times in
      let b = leb (length s.upper) statement_times in
      let c = leb (length s.counts) statement_counts in
      let more = pushed time_value 32 (row rows.upper) (row after) s.upper t b room keeps.upper refl had pushes in
      (record { lower = s.lower; upper = s.upper ++ time_value t ∷ []; counts = s.counts }, cond-true (until_upper part) _ _ may, record { lower = keeps.lower; upper = more.0; counts = keeps.counts; fits = ap (λ w. w && room) keeps.fits ∙ second_of room a b c ∙ ap (λ v. a && (v && c)) more.1 })

  pub count_more : (part : Part) (t : Product ℕ Week × ℕ) (after : Row (Product ℕ Week × ℕ) 256) → room ≡ ltb (length (row rows.counts)) 256 → row after ≡ take 256 (row rows.counts ++ t ∷ []) → (n : Statement (ℕ × ℕ)) × (step (in_statement part s) (a_count (count_of time_value t)) ≡ goes_on (in_statement Counts n)) × Keeps (record { lower = rows.lower; upper = rows.upper; counts = after }) (whole && room) n
  count_more part t after had pushes =
      let a = leb (length s.lower) statement_times in
      let b = leb (length s.upper) statement_times in
      let c = leb (length s.counts) statement_counts in
      let more = pushed (count_of time_value) 256 (row rows.counts) (row after) s.counts t c room keeps.counts refl had pushes in
      (record { lower = s.lower; upper = s.upper; counts = s.counts ++ count_of time_value t ∷ [] }, refl, record { lower = keeps.lower; upper = keeps.upper; counts = more.0; fits = ap (λ w. w && room) keeps.fits ∙ third_of room a b c ∙ ap (λ v. a && (b && v)) more.1 })
