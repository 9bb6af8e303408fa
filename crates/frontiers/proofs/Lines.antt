-- How the input goes on behind a line.
use Rattle.std.proofs.Common.{◌≡◌, ℕ, ◌+◌, Bool, true, false, eqb, List, [], ◌∷◌, length, Some, None, Ok, Err, Result, refl, ap, ◌∙◌}
use Rattle.std.proofs.lemmas.Bool.{true≢false}
use Rattle.lines.specs.Cuts.{cut_at, split_from}
use Rattle.lines.proofs.Cutting.{split_at, split_end}
use Rattle.frontiers.specs.declared.input.Expected.{Expected}
use Rattle.frontiers.specs.declared.input.Expected.TheVariants.{End}
use Rattle.frontiers.specs.declared.fault.Fault.{Fault}
use Rattle.frontiers.specs.declared.fault.Fault.TheVariants.{Malformed, Refused, Memory}
use Rattle.frontiers.specs.Input.{Told, read_from, ended, says_from}
use Rattle.frontiers.specs.Reading.{Faulty}

-- the rest of the input, by what reading its lines comes to
abbrev closed : List ℕ → Result Told (ℕ × Expected) → Result Told (ℕ × Expected)
closed unended (Ok l) = ended unended l
closed unended (Err e) = Err e

module _ (l : Told) (rest line behind : List ℕ) (found : cut_at 10 rest ≡ Some (line, behind)) where
  opened : says_from l rest ≡ closed (split_from [] behind).1 (read_from l (line ∷ (split_from [] behind).0))
  opened = ap (λ s. closed s.1 (read_from l s.0)) (split_at [] rest (line, behind) found)

  -- a line that was read
  pub line_read : (m : Told) → read_from l (line ∷ (split_from [] behind).0) ≡ read_from m (split_from [] behind).0 → says_from l rest ≡ says_from m behind
  line_read m e = opened ∙ ap (closed (split_from [] behind).1) e

  -- a line that was not
  pub line_faulty : (f : Fault) → Faulty f (read_from l (line ∷ (split_from [] behind).0)) → Faulty f (says_from l rest)
  line_faulty (Malformed n x) e = opened ∙ ap (closed (split_from [] behind).1) e
  line_faulty (Refused q) e = e
  line_faulty Memory e = tt

-- no line is left
pub lines_done : (l : Told) (rest : List ℕ) → cut_at 10 rest ≡ None → says_from l rest ≡ ended rest l
lines_done l rest e = ap (λ s. closed s.1 (read_from l s.0)) (split_end [] rest e)

pub something_left : (l : Told) (rest : List ℕ) → eqb (length rest) 0 ≡ false → ended rest l ≡ Err (l.2 + 1, End)
something_left l [] e = let z : ◌≡◌ {A = Bool} true false = e in absurd (true≢false z)
something_left l (b ∷ bs) e = refl
