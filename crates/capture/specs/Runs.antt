-- Runs: one sender, its two posts, any number of readers, and any list of calls, accepted or refused.
use Rattle.std.specs.Prelude.{◌≡◌, ℕ, suc, Bool, false, List, [], ◌∷◌, ◌++◌, map, Option}
use Rattle.capture.specs.Kinds.{Kinds}
use Rattle.capture.specs.Messages.{Change, Statement, Message, changes, statement}
use Rattle.capture.specs.Answers.{Answer, is_accepted}
use Rattle.capture.specs.Held.{Held, feed}
use Rattle.capture.specs.Prompt.{Prompt, sift, note, settle, heed}
use Rattle.capture.specs.Readers.{Reader, held, prompt, put_away, fresh_reader}
use Rattle.capture.specs.Sender.{Sender, record_changes, close, finish, fresh_sender}
use Rattle.capture.specs.Posts.{Post, Pump}

-- one call: what was called, with what, and what was answered; a reader goes by its place
pub data Call (D A R : Type 0) : Type 0 where
  recorded : List (Change D A R) → Answer (Unit {0}) → Call D A R
  closed : List A → Answer (Unit {0}) → Call D A R
  finished : Answer (Unit {0}) → Call D A R
  pumped_changes : Answer (Bool × Option ℕ) → Call D A R
  pumped_statements : Answer (Bool × Option ℕ) → Call D A R
  fed : ℕ → Message D A R → Answer (Option (List (Change D A R) × List A)) → Call D A R
  sifted : ℕ → List (Change D A R) → Answer (List (Change D A R)) → Call D A R
  noted : ℕ → Statement A → Answer (Unit {0}) → Call D A R
  settled : ℕ → Answer (List A) → Call D A R
  heeded : ℕ → Answer (Unit {0}) → Call D A R
  put : ℕ → Answer ℕ → Call D A R

-- the sender, whether it is finished, its two posts, and the readers
pub record World (D A R P Q : Type 0) : Type 0 where
  pub sender : Sender D A R
  pub done : Bool
  pub changes_post : P
  pub statements_post : Q
  pub readers : List (Reader D A R)

module _ {X : Type 0} where
  -- x stands in the list
  pub data In : X → List X → Type 0 where
    here : {x : X} {xs : List X} → In x (x ∷ xs)
    there : {x y : X} {xs : List X} → In x xs → In x (y ∷ xs)

  -- x stands at place i of the list
  pub data At : List X → ℕ → X → Type 0 where
    here : {x : X} {xs : List X} → At (x ∷ xs) 0 x
    there : {x y : X} {xs : List X} {i : ℕ} → At xs i x → At (y ∷ xs) (suc i) x

  -- x stands at place i of the first list, and y at that place of the second, which is otherwise the same
  pub data Turned : List X → ℕ → X → X → List X → Type 0 where
    here : {x y : X} {xs : List X} → Turned (x ∷ xs) 0 x y (y ∷ xs)
    there : {z x y : X} {xs ys : List X} {i : ℕ} → Turned xs i x y ys → Turned (z ∷ xs) (suc i) x y (z ∷ ys)

module _ {D A R P Q : Type 0} where
  -- the world with another sender
  abbrev pub with_sender : World D A R P Q → Sender D A R → World D A R P Q
  with_sender w s = record { sender = s; done = w.done; changes_post = w.changes_post; statements_post = w.statements_post; readers = w.readers }

  -- the world with other readers
  abbrev pub with_readers : World D A R P Q → List (Reader D A R) → World D A R P Q
  with_readers w rs = record { sender = w.sender; done = w.done; changes_post = w.changes_post; statements_post = w.statements_post; readers = rs }

  -- the world with other posts
  abbrev pub with_posts : World D A R P Q → P → Q → World D A R P Q
  with_posts w p q = record { sender = w.sender; done = w.done; changes_post = p; statements_post = q; readers = w.readers }

  -- the world after the pump of changes, which left these messages queued and the post so
  abbrev pub changes_pumped : World D A R P Q → List (Message D A R) → P → World D A R P Q
  changes_pumped w ms p = with_posts (with_sender w (record { frontier = w.sender.frontier; counts = w.sender.counts; queued_changes = ms; queued_statements = w.sender.queued_statements })) p w.statements_post

  -- the world after the pump of statements
  abbrev pub statements_pumped : World D A R P Q → List (Message D A R) → Q → World D A R P Q
  statements_pumped w ms q = with_posts (with_sender w (record { frontier = w.sender.frontier; counts = w.sender.counts; queued_changes = w.sender.queued_changes; queued_statements = ms })) w.changes_post q

  -- the world after a finish, which ends the sender where it was accepted
  abbrev pub finishing : World D A R P Q → Answer (Unit {0}) × Sender D A R → World D A R P Q
  finishing w a = record { sender = a.1; done = is_accepted a.0; changes_post = w.changes_post; statements_post = w.statements_post; readers = w.readers }

module _ {D A R P Q : Type 0} (k : Kinds D A R) (p : Post D A R P) (q : Post D A R Q) where
  -- the messages that the sender's posts have taken
  abbrev pub sent : World D A R P Q → List (Message D A R)
  sent w = p.taken w.changes_post ++ q.taken w.statements_post

  -- one call on the world, which answers as its meaning lays down; `tables` says whether the tables handed to it are long enough
  pub data Step : World D A R P Q → Call D A R → World D A R P Q → Type 0 where
    records : {w : World D A R P Q} (tables : Bool) {cs : List (Change D A R)} → w.done ≡ false → Step w (recorded cs (record_changes k tables cs w.sender).0) (with_sender w (record_changes k tables cs w.sender).1)
    closes : {w : World D A R P Q} (tables : Bool) {l : List A} → w.done ≡ false → Step w (closed l (close k tables l w.sender).0) (with_sender w (close k tables l w.sender).1)
    finishes : {w : World D A R P Q} (tables : Bool) → w.done ≡ false → Step w (finished (finish k tables w.sender).0) (finishing w (finish k tables w.sender))
    pumps_changes : {w : World D A R P Q} (tables : Bool) {a : Answer (Bool × Option ℕ)} {ms : List (Message D A R)} {post : P} → Pump p tables w.sender.queued_changes w.changes_post a ms post → Step w (pumped_changes a) (changes_pumped w ms post)
    pumps_statements : {w : World D A R P Q} (tables : Bool) {a : Answer (Bool × Option ℕ)} {ms : List (Message D A R)} {post : Q} → Pump q tables w.sender.queued_statements w.statements_post a ms post → Step w (pumped_statements a) (statements_pumped w ms post)
    feeds : {w : World D A R P Q} (tables : Bool) {i : ℕ} {m : Message D A R} {h : Held D A R} {rs : List (Reader D A R)} → In m (sent w) → Turned w.readers i (held h) (held (feed k tables m h).1) rs → Step w (fed i m (feed k tables m h).0) (with_readers w rs)
    sifts : {w : World D A R P Q} (tables : Bool) {i : ℕ} {cs : List (Change D A R)} {h : Prompt D A R} {rs : List (Reader D A R)} → In (changes cs) (sent w) → Turned w.readers i (prompt h) (prompt (sift k tables cs h).1) rs → Step w (sifted i cs (sift k tables cs h).0) (with_readers w rs)
    notes : {w : World D A R P Q} (tables : Bool) {i : ℕ} {s : Statement A} {h : Prompt D A R} {rs : List (Reader D A R)} → In (statement s) (sent w) → Turned w.readers i (prompt h) (prompt (note k tables s h).1) rs → Step w (noted i s (note k tables s h).0) (with_readers w rs)
    settles : {w : World D A R P Q} (tables : Bool) {i : ℕ} {h : Prompt D A R} {rs : List (Reader D A R)} → Turned w.readers i (prompt h) (prompt (settle k tables h).1) rs → Step w (settled i (settle k tables h).0) (with_readers w rs)
    heeds : {w : World D A R P Q} (tables : Bool) {i : ℕ} {h : Prompt D A R} {rs : List (Reader D A R)} → Turned w.readers i (prompt h) (prompt (heed k tables h).1) rs → Step w (heeded i (heed k tables h).0) (with_readers w rs)
    puts_away : {w : World D A R P Q} (tables : Bool) {i : ℕ} {h : Prompt D A R} {rs : List (Reader D A R)} → Turned w.readers i (prompt h) (put_away tables h).1 rs → Step w (put i (put_away tables h).0) (with_readers w rs)

  -- a run: the calls so far, the newest first, and the world that they led to.
  -- It begins with a fresh sender, posts that took nothing and fresh readers; meanwhile other calls on a post may alter it, but not what it took
  pub data Run : List (Call D A R) → World D A R P Q → Type 0 where
    begun : (sorts : List Bool) {a : P} {b : Q} → p.taken a ≡ [] → q.taken b ≡ [] → Run [] (record { sender = fresh_sender k; done = false; changes_post = a; statements_post = b; readers = map (fresh_reader k) sorts })
    then : {ks : List (Call D A R)} {v w : World D A R P Q} {c : Call D A R} → Run ks v → Step v c w → Run (c ∷ ks) w
    meanwhile : {ks : List (Call D A R)} {w : World D A R P Q} {a : P} {b : Q} → Run ks w → p.taken a ≡ p.taken w.changes_post → q.taken b ≡ q.taken w.statements_post → Run ks (with_posts w a b)
