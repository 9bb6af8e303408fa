-- What each call makes of the books.  The tables of an exchange have their sizes, so that question 1 is always answered yes.
use Rattle.std.specs.Prelude.{ℕ, Bool, true, false, cond, List, [], ◌∷◌, ◌++◌, slice_set}
use Rattle.capture.specs.Kinds.{Kinds}
use Rattle.capture.specs.Messages.{Change, Statement, Message, changes, statement}
use Rattle.capture.specs.Answers.{is_accepted, brings}
use Rattle.capture.specs.Held.{Held, feed}
use Rattle.capture.specs.Prompt.{Prompt, sift, note, settle, heed}
use Rattle.capture.specs.Sender.{record_changes, close, finish}
use Rattle.capture.specs.Law.{interval_changes}
use Rattle.exchange.specs.Books.{Office, Books, held_office, prompt_office, with_sender, with_offices}

module _ {D A R : Type 0} where
  -- the books with another queue of changes, and other messages taken by their post
  abbrev pub changes_moved : Books D A R → List (Message D A R) → List (Message D A R) → Books D A R
  changes_moved b queue sent =
      record {
        sender = record { frontier = b.sender.frontier; counts = b.sender.counts; queued_changes = queue; queued_statements = b.sender.queued_statements };
        finished = b.finished;
        sent_changes = sent;
        sent_statements = b.sent_statements;
        recorded = b.recorded;
        offices = b.offices;
      }

  -- the books with another queue of statements, and other messages taken by their post
  abbrev pub statements_moved : Books D A R → List (Message D A R) → List (Message D A R) → Books D A R
  statements_moved b queue sent =
      record {
        sender = record { frontier = b.sender.frontier; counts = b.sender.counts; queued_changes = b.sender.queued_changes; queued_statements = queue };
        finished = b.finished;
        sent_changes = b.sent_changes;
        sent_statements = sent;
        recorded = b.recorded;
        offices = b.offices;
      }

  -- after a pump of changes into a post that takes all
  abbrev pub changes_pumped : Books D A R → Books D A R
  changes_pumped b = changes_moved b [] (b.sent_changes ++ b.sender.queued_changes)

  -- after a pump of statements into a post that takes all
  abbrev pub statements_pumped : Books D A R → Books D A R
  statements_pumped b = statements_moved b [] (b.sent_statements ++ b.sender.queued_statements)

  -- the books with another office at place i
  abbrev pub with_office : Books D A R → ℕ → Office D A R → Books D A R
  with_office b i o = with_offices b (slice_set b.offices i o)

module _ {D A R : Type 0} (k : Kinds D A R) where
  -- after a record: an accepted one adds its changes to those recorded
  abbrev pub after_record : List (Change D A R) → Books D A R → Books D A R
  after_record cs b =
      record {
        sender = (record_changes k true cs b.sender).1;
        finished = b.finished;
        sent_changes = b.sent_changes;
        sent_statements = b.sent_statements;
        recorded = b.recorded ++ brings (record_changes k true cs b.sender).0 (λ _. cs);
        offices = b.offices;
      }

  -- after a close
  abbrev pub after_close : List A → Books D A R → Books D A R
  after_close l b = with_sender b (close k true l b.sender).1

  -- after a finish: an accepted one ends the sender
  abbrev pub after_finish : Books D A R → Books D A R
  after_finish b =
      record {
        sender = (finish k true b.sender).1;
        finished = is_accepted (finish k true b.sender).0;
        sent_changes = b.sent_changes;
        sent_statements = b.sent_statements;
        recorded = b.recorded;
        offices = b.offices;
      }

  -- the office after its reader was fed the message
  abbrev pub after_feed : Message D A R → Held D A R → List (Change D A R) → List (Message D A R) → Office D A R
  after_feed m h given taken =
      let answered = feed k true m h in
      held_office answered.1 (given ++ brings answered.0 interval_changes) (taken ++ brings answered.0 (λ _. m ∷ []))

  -- the office after its reader sifted the changes
  abbrev pub after_sift : List (Change D A R) → Prompt D A R → List (Change D A R) → List (Message D A R) → Bool → Office D A R
  after_sift cs h given taken settled =
      let answered = sift k true cs h in
      prompt_office answered.1 (given ++ brings answered.0 (λ new. new)) (taken ++ brings answered.0 (λ _. changes cs ∷ [])) (cond (is_accepted answered.0) false settled)

  -- the office after its reader noted the statement
  abbrev pub after_note : Statement A → Prompt D A R → List (Change D A R) → List (Message D A R) → Bool → Office D A R
  after_note s h given taken settled =
      let answered = note k true s h in
      prompt_office answered.1 given (taken ++ brings answered.0 (λ _. statement s ∷ [])) (cond (is_accepted answered.0) false settled)

  -- the office after its reader settled
  abbrev pub after_settle : Prompt D A R → List (Change D A R) → List (Message D A R) → Bool → Office D A R
  after_settle h given taken settled =
      let answered = settle k true h in
      prompt_office answered.1 given taken (cond (is_accepted answered.0) true settled)

  -- the office after its reader heeded
  abbrev pub after_heed : Prompt D A R → List (Change D A R) → List (Message D A R) → Bool → Office D A R
  after_heed h given taken settled = prompt_office (heed k true h).1 given taken settled
