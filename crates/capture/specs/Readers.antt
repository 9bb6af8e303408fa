-- Readers of both sorts, and how a prompt one is put away.
use Rattle.std.specs.Prelude.{ℕ, Bool, true, false, List, length}
use Rattle.capture.specs.Kinds.{Kinds}
use Rattle.capture.specs.Answers.{Answer, answer, only_tables}
use Rattle.capture.specs.Held.{Held, fresh_held}
use Rattle.capture.specs.Prompt.{Prompt, fresh_prompt}

-- a held reader, a prompt one, or a prompt one that was put away, as it was then
pub data Reader (D A R : Type 0) : Type 0 where
  held : Held D A R → Reader D A R
  prompt : Prompt D A R → Reader D A R
  away : Prompt D A R → Reader D A R

-- putting away ends a prompt reader, and tells how many changes are pending
abbrev pub put_away : {D A R : Type 0} → Bool → Prompt D A R → Answer ℕ × Reader D A R
put_away tables p = answer (only_tables tables) (prompt p) (length p.pending, away p)

-- the reader's frontier: what it reported last
abbrev pub stands_at : {D A R : Type 0} → Reader D A R → List A
stands_at (held h) = h.reported
stands_at (prompt p) = p.reported
stands_at (away p) = p.reported

-- a fresh reader: held for yes, prompt for no
abbrev pub fresh_reader : {D A R : Type 0} → Kinds D A R → Bool → Reader D A R
fresh_reader k true = held (fresh_held k)
fresh_reader k false = prompt (fresh_prompt k)
