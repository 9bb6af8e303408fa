-- The law of books: those that come of a run keep the promises, and each call on them leads to such books again.
use Rattle.std.specs.Prelude.{◌≡◌, ℕ, Bool, true, false, List, [], Option}
use Rattle.capture.specs.Kinds.{Kinds}
use Rattle.capture.specs.Messages.{Change, Statement, Message, changes, statement}
use Rattle.capture.specs.Answers.{Answer}
use Rattle.capture.specs.Held.{Held}
use Rattle.capture.specs.Prompt.{Prompt}
use Rattle.capture.specs.Posts.{Post, Pump}
use Rattle.capture.specs.Runs.{In, At}
use Rattle.exchange.specs.Books.{Books, sent, held_office, prompt_office, fresh_books}
use Rattle.exchange.specs.Calls.{changes_moved, statements_moved, with_office, after_record, after_close, after_finish, after_feed, after_sift, after_note, after_settle, after_heed}
use Rattle.exchange.specs.Ran.{Ran}
use Rattle.exchange.specs.Kept.{Kept, Onward}

module _ {D A R P Q : Type 0} (k : Kinds D A R) (p : Post D A R P) (q : Post D A R Q) where
  -- books b that come of a run lead to books c that do, in which no reader is further back
  abbrev pub Leads : Books D A R → Books D A R → Type 0
  Leads b c = Ran k p q b → Ran k p q c × Onward k b c

  pub record LawOfBooks : Type 0 where
    pub kept : (b : Books D A R) → Ran k p q b → Kept k b
    pub begins : (sorts : List Bool) (x : P) (y : Q) → p.taken x ≡ [] → q.taken y ≡ [] → Ran k p q (fresh_books k sorts)
    pub records : (b : Books D A R) (cs : List (Change D A R)) → b.finished ≡ false → Leads b (after_record k cs b)
    pub closes : (b : Books D A R) (l : List A) → b.finished ≡ false → Leads b (after_close k l b)
    pub finishes : (b : Books D A R) → b.finished ≡ false → Leads b (after_finish k b)
    pub pumps_changes : (b : Books D A R) (before after : P) (a : Answer (Bool × Option ℕ)) (queue : List (Message D A R)) → p.taken before ≡ b.sent_changes → Pump p true b.sender.queued_changes before a queue after → Leads b (changes_moved b queue (p.taken after))
    pub pumps_statements : (b : Books D A R) (before after : Q) (a : Answer (Bool × Option ℕ)) (queue : List (Message D A R)) → q.taken before ≡ b.sent_statements → Pump q true b.sender.queued_statements before a queue after → Leads b (statements_moved b queue (q.taken after))
    pub feeds : (b : Books D A R) (i : ℕ) (m : Message D A R) (h : Held D A R) (given : List (Change D A R)) (taken : List (Message D A R)) → In m (sent b) → At b.offices i (held_office h given taken) → Leads b (with_office b i (after_feed k m h given taken))
    pub sifts : (b : Books D A R) (i : ℕ) (cs : List (Change D A R)) (h : Prompt D A R) (given : List (Change D A R)) (taken : List (Message D A R)) (settled : Bool) → In (changes cs) (sent b) → At b.offices i (prompt_office h given taken settled) → Leads b (with_office b i (after_sift k cs h given taken settled))
    pub notes : (b : Books D A R) (i : ℕ) (s : Statement A) (h : Prompt D A R) (given : List (Change D A R)) (taken : List (Message D A R)) (settled : Bool) → In (statement s) (sent b) → At b.offices i (prompt_office h given taken settled) → Leads b (with_office b i (after_note k s h given taken settled))
    pub settles : (b : Books D A R) (i : ℕ) (h : Prompt D A R) (given : List (Change D A R)) (taken : List (Message D A R)) (settled : Bool) → At b.offices i (prompt_office h given taken settled) → Leads b (with_office b i (after_settle k h given taken settled))
    pub heeds : (b : Books D A R) (i : ℕ) (h : Prompt D A R) (given : List (Change D A R)) (taken : List (Message D A R)) (settled : Bool) → At b.offices i (prompt_office h given taken settled) → Leads b (with_office b i (after_heed k h given taken settled))
