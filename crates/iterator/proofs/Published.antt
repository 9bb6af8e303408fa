-- The interval that is let out, by what the tables read as.
use Rattle.std.proofs.Common.{◌≡◌, true, false, cond, List, Some, None, Option, sym, ap, ◌∙◌}
use Rattle.std.proofs.lemmas.Bool.{cond-true, cond-false}
use Rattle.frontier.specs.Frontiers.{equal}
use Rattle.capture.specs.Held.{Held, published}
use Rattle.capture.specs.Kinds.{Kinds}
use Rattle.capture.specs.Messages.{Change, those_behind, those_beyond}
use Rattle.capture.specs.Statements.{lower_edge}

module _ {D A R : Type 0} (k : Kinds D A R) (h : Held D A R) where
  -- the reader after its changes behind the edge are published
  abbrev pub moved_to : List A → Held D A R
  moved_to edge = record { progress = h.progress; reported = edge; updates = those_beyond k.time.below edge h.updates; drops = h.drops }

  abbrev interval : List A → Option (List (Change D A R) × List A) × Held D A R
  interval edge = (Some (those_behind k.time.below edge h.updates, edge), moved_to edge)

  module _ (edge : List A) (is : edge ≡ lower_edge k.time h.progress) where
    at_edge : published k h ≡ cond (equal k.time.below edge h.reported) (None, h) (interval edge)
    at_edge = sym (ap (λ e. cond (equal k.time.below e h.reported) (None, h) (interval e)) is)

    pub stood : equal k.time.below edge h.reported ≡ true → published k h ≡ (None, h)
    stood e = at_edge ∙ cond-true (equal k.time.below edge h.reported) _ _ e

    pub moved : equal k.time.below edge h.reported ≡ false → published k h ≡ interval edge
    moved e = at_edge ∙ cond-false (equal k.time.below edge h.reported) _ _ e
