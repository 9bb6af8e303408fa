-- Books that come of a run: some calls on fresh ones led to them, readers being handed only what the posts took.
use Rattle.std.specs.Prelude.{◌≡◌, ℕ, List, map}
use Rattle.capture.specs.Kinds.{Kinds}
use Rattle.capture.specs.Readers.{Reader}
use Rattle.capture.specs.Posts.{Post}
use Rattle.capture.specs.Runs.{Call, World, At, Run}
use Rattle.capture.specs.Law.{all_recorded, given_out, all_accepted, is_settled}
use Rattle.exchange.specs.Books.{Office, Books}

module _ {D A R : Type 0} where
  abbrev pub reader_of : Office D A R → Reader D A R
  reader_of o = o.reader

  -- the office of reader j holds what the calls brought it
  pub record Booked (calls : List (Call D A R)) (j : ℕ) (o : Office D A R) : Type 0 where
    pub given : given_out j calls ≡ o.given
    pub taken : all_accepted j calls ≡ o.taken
    pub settled : is_settled j calls ≡ o.settled

-- the world that the books are of, with its posts
abbrev pub world : {D A R P Q : Type 0} → Books D A R → P → Q → World D A R P Q
world b x y = record { sender = b.sender; done = b.finished; changes_post = x; statements_post = y; readers = map reader_of b.offices }

module _ {D A R P Q : Type 0} (k : Kinds D A R) (p : Post D A R P) (q : Post D A R Q) where
  pub record Ran (b : Books D A R) : Type 0 where
    pub calls : List (Call D A R)
    pub changes_post : P
    pub statements_post : Q
    pub run : Run k p q calls (world b changes_post statements_post)
    pub sent_changes : p.taken changes_post ≡ b.sent_changes
    pub sent_statements : q.taken statements_post ≡ b.sent_statements
    pub recorded : all_recorded calls ≡ b.recorded
    pub offices : (j : ℕ) (o : Office D A R) → At b.offices j o → Booked calls j o
