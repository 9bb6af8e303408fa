-- The changes of a message that are new to a held reader, and the room for them.
use Rattle.std.proofs.Common.{◌≡◌, ℕ, ◌+◌, ◌-◌, ◌≤◌, min, leb, List, [], ◌∷◌, ◌++◌, map, length, take, ℤ, None, sym, ap, ◌∙◌, arith}
use Rattle.std.proofs.lemmas.List.{length-map, length-append, map-append}
use Rattle.std.proofs.lemmas.Bool.{leb-true}
use Rattle.questions.specs.Questions.{first_no}
use Rattle.questions.proofs.Asking.{asked_all}
use Rattle.frontier.specs.Counts.{room}
use Rattle.frontier.specs.Tables.{in_use, counted}
use Rattle.frontier.proofs.Tables.{length_in_use}
use Rattle.capture.specs.Kinds.{Kinds}
use Rattle.capture.specs.Messages.{Change, short_changes, changes}
use Rattle.capture.specs.Held.{Held as Meant, news, lowered_by, taken_in}
use Rattle.capture.specs.Sizes.{message_changes, reader_changes, reader_counts, largest_tally}
use Rattle.capture.specs.Statements.{lowered, edge_fits}
use Rattle.progress.proofs.News.{length_fresh}
use Rattle.progress.specs.declared.weighing.Weighed.{Weighed}
use Rattle.iterator.specs.Feeding.{Reads}
use Rattle.iterator.specs.Readers.{Tables, tables, held_in, changes_asks}
use Rattle.iterator.specs.declared.held.Held.{Held}
use Rattle.iterator.proofs.Feeding.{same_held}

module _ {D A R : Type 0} (k : Kinds D A R) where
  module _ (cs : List (Change D A R)) (h : Meant D A R) where
    -- no more changes are new than came
    pub length_news : length (news k cs h) ≤ length cs
    length_news = length_fresh k h.reported h.updates cs

    -- where every question is answered yes, the new changes fit among those that are held
    pub news_room : first_no (changes_asks k cs h) ≡ None → length (h.updates ++ news k cs h) ≤ reader_changes
    news_room e =
        let q11 = room k.time.below reader_counts h.progress.counts (lowered (news k cs h)) in
        let q12 = edge_fits k.time (lowered_by k (news k cs h) h.progress) in
        let few = leb (length (h.updates ++ news k cs h)) reader_changes in
        let first = asked_all (short_changes cs) 2 ((few, 9) ∷ (q11, 11) ∷ (q12, 12) ∷ []) e in
        leb-true (length (h.updates ++ news k cs h)) reader_changes (asked_all few 9 ((q11, 11) ∷ (q12, 12) ∷ []) first.1).0

-- changes that were weighed are taken over into a reader's tables
module _ {X Y D A R : Type 0} (k : Kinds D A R) (value : Y → A) (reads : X → Change D A R) (s : Held) (t : Tables X Y) (within : s.held ≤ length t.updates) (cs : List X) where
  abbrev before : Meant D A R
  before = held_in value reads s t

  abbrev fresh : List (Change D A R)
  fresh = news k (map reads cs) before

  module _ (none : first_no (changes_asks k (map reads cs) before) ≡ None) (w : Weighed) (new : List X) (reads_new : Reads reads w.new message_changes new fresh) where
    pub few_new : w.new ≤ length cs
    few_new = omega (arith, reads_new.1, length_news k (map reads cs) before, length-map cs reads)

    pub few_held : s.held + w.new ≤ reader_changes
    few_held = omega (arith, news_room k (map reads cs) before none, length-append before.updates fresh, reads_new.1, length_in_use reads s.held t.updates within)

    pub taken :
        (sums C : List (Y × ℤ)) (V : List X) (drops : ℕ)
        → in_use (counted value) w.counts sums ≡ (lowered_by k fresh before.progress).counts
        → take w.counts C ≡ take w.counts sums
        → take (s.held + w.new) V ≡ take s.held t.updates ++ take w.new new
        → drops ≡ min (s.drops + (length cs - w.new)) largest_tally
        → held_in value reads (record { progress = record { frontier = s.progress.frontier; counts = w.counts; waiting = s.progress.waiting }; reported = s.reported; held = s.held + w.new; drops = drops }) (tables t.frontier t.reported C V t.waiting)
        ≡ taken_in k (changes (map reads cs)) before
    taken sums C V drops left front all dropped =
        same_held (ap (map (counted value)) front ∙ left)
        (ap (map reads) all ∙ map-append reads (take s.held t.updates) (take w.new new) ∙ ap (λ l. before.updates ++ l) reads_new.0)
        (dropped ∙ ap (λ a. min (s.drops + (a - w.new)) largest_tally) (sym (length-map cs reads)) ∙ ap (λ b. min (s.drops + (length (map reads cs) - b)) largest_tally) (sym reads_new.1))
