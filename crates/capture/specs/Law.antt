-- What every run keeps, said of its calls and their answers.
use Rattle.std.specs.Prelude.{◌≡◌, ℕ, ◌+◌, ◌≤◌, Bool, true, false, cond, not, ◌&&◌, ◌||◌, T, List, [], ◌∷◌, ◌++◌, Some, None, Option, ◌==◌}
use Rattle.capture.specs.Distinct.{is_distinct}
use Rattle.frontier.specs.Frontiers.{beyond, leq, equal}
use Rattle.capture.specs.Kinds.{Kinds}
use Rattle.capture.specs.Messages.{Change, Message, changes, statement, coincide, alike, has}
use Rattle.capture.specs.Answers.{is_accepted, brings}
use Rattle.capture.specs.Readers.{Reader, held, prompt, away, stands_at}
use Rattle.capture.specs.Posts.{Post}
use Rattle.capture.specs.Runs.{Call, recorded, closed, finished, pumped_changes, pumped_statements, fed, sifted, noted, settled, heeded, put, World, In, At, Step, Run}

-- the changes of an interval
abbrev pub interval_changes : {D A R : Type 0} → Option (List (Change D A R) × List A) → List (Change D A R)
interval_changes None = []
interval_changes (Some i) = i.0

module _ {D A R : Type 0} where
  -- what one call recorded: what an accepted record took
  abbrev pub records_of : Call D A R → List (Change D A R)
  records_of (recorded cs a) = brings a (λ _. cs)
  records_of (closed l a) = []
  records_of (finished a) = []
  records_of (pumped_changes a) = []
  records_of (pumped_statements a) = []
  records_of (fed i m a) = []
  records_of (sifted i cs a) = []
  records_of (noted i s a) = []
  records_of (settled i a) = []
  records_of (heeded i a) = []
  records_of (put i a) = []

  -- what reader j gave out in one call: published by a feed's interval, or shipped by a sift
  abbrev pub gifts_of : ℕ → Call D A R → List (Change D A R)
  gifts_of j (recorded cs a) = []
  gifts_of j (closed l a) = []
  gifts_of j (finished a) = []
  gifts_of j (pumped_changes a) = []
  gifts_of j (pumped_statements a) = []
  gifts_of j (fed i m a) = cond (i == j) (brings a interval_changes) []
  gifts_of j (sifted i cs a) = cond (i == j) (brings a (λ new. new)) []
  gifts_of j (noted i s a) = []
  gifts_of j (settled i a) = []
  gifts_of j (heeded i a) = []
  gifts_of j (put i a) = []

  -- the message that reader j accepted in one call, if any: that of an accepted feed, sift or note
  abbrev pub messages_of : ℕ → Call D A R → List (Message D A R)
  messages_of j (recorded cs a) = []
  messages_of j (closed l a) = []
  messages_of j (finished a) = []
  messages_of j (pumped_changes a) = []
  messages_of j (pumped_statements a) = []
  messages_of j (fed i m a) = cond (i == j) (brings a (λ _. m ∷ [])) []
  messages_of j (sifted i cs a) = cond (i == j) (brings a (λ _. changes cs ∷ [])) []
  messages_of j (noted i s a) = cond (i == j) (brings a (λ _. statement s ∷ [])) []
  messages_of j (settled i a) = []
  messages_of j (heeded i a) = []
  messages_of j (put i a) = []

  -- over all calls, the oldest first
  abbrev pub over : {X : Type 0} → (Call D A R → List X) → List (Call D A R) → List X
  over f [] = []
  over f (c ∷ ks) = over f ks ++ f c

  -- all changes recorded
  abbrev pub all_recorded : List (Call D A R) → List (Change D A R)
  all_recorded ks = over records_of ks

  -- all changes that reader j published or shipped
  abbrev pub given_out : ℕ → List (Call D A R) → List (Change D A R)
  given_out j ks = over (gifts_of j) ks

  -- all messages that reader j accepted
  abbrev pub all_accepted : ℕ → List (Call D A R) → List (Message D A R)
  all_accepted j ks = over (messages_of j) ks

  -- reader j accepted no sift or note since its last accepted settle, or since the beginning
  abbrev pub is_settled : ℕ → List (Call D A R) → Bool
  is_settled j [] = true
  is_settled j (recorded cs a ∷ ks) = is_settled j ks
  is_settled j (closed l a ∷ ks) = is_settled j ks
  is_settled j (finished a ∷ ks) = is_settled j ks
  is_settled j (pumped_changes a ∷ ks) = is_settled j ks
  is_settled j (pumped_statements a ∷ ks) = is_settled j ks
  is_settled j (fed i m a ∷ ks) = is_settled j ks
  is_settled j (sifted i cs a ∷ ks) = cond (i == j) (cond (is_accepted a) false (is_settled j ks)) (is_settled j ks)
  is_settled j (noted i s a ∷ ks) = cond (i == j) (cond (is_accepted a) false (is_settled j ks)) (is_settled j ks)
  is_settled j (settled i a ∷ ks) = cond (i == j) (cond (is_accepted a) true (is_settled j ks)) (is_settled j ks)
  is_settled j (heeded i a ∷ ks) = is_settled j ks
  is_settled j (put i a ∷ ks) = is_settled j ks

  -- the reader's frontier tells what it accepted: it is held, or prompt and settled
  abbrev pub counts_in : ℕ → List (Call D A R) → Reader D A R → Bool
  counts_in j ks (held h) = true
  counts_in j ks (prompt h) = is_settled j ks
  counts_in j ks (away h) = is_settled j ks

-- either follows from the other
abbrev pub both_ways : Type 0 → Type 0 → Type 0
both_ways a b = (a → b) × (b → a)

module _ {D A R : Type 0} (k : Kinds D A R) where
  -- how often the change stands in the list
  abbrev pub how_often : Change D A R → List (Change D A R) → ℕ
  how_often c [] = 0
  how_often c (e ∷ es) = cond (alike k e c) 1 0 + how_often c es

  -- no data stands twice in the list at one time
  abbrev pub one_each : List (Change D A R) → Bool
  one_each cs = is_distinct (coincide k) cs

  -- the change stands in one of the messages
  abbrev pub change_accepted : Change D A R → List (Message D A R) → Bool
  change_accepted c [] = false
  change_accepted c (changes cs ∷ ms) = has k cs c || change_accepted c ms
  change_accepted c (statement s ∷ ms) = change_accepted c ms

  -- published are exactly the recorded changes behind the frontier f, each once
  abbrev pub Published : List (Change D A R) → List (Change D A R) → List A → Type 0
  Published rec out f = (c : Change D A R) → how_often c out ≡ cond (has k rec c && not (beyond k.time.below f c.time)) 1 0

  -- shipped are all recorded changes behind the frontier f, and else only recorded ones, none twice
  abbrev pub Shipped : List (Change D A R) → List (Change D A R) → List A → Type 0
  Shipped rec out f =
      (c : Change D A R) → (how_often c out ≤ 1) × (how_often c out ≡ 1 → T (has k rec c)) × (T (has k rec c) → T (not (beyond k.time.below f c.time)) → how_often c out ≡ 1)

  -- what reader j gave out is what was recorded
  abbrev pub Given : List (Call D A R) → ℕ → Reader D A R → Type 0
  Given ks j (held h) = Published (all_recorded ks) (given_out j ks) h.reported
  Given ks j (prompt h) = Shipped (all_recorded ks) (given_out j ks) h.reported
  Given ks j (away h) = Shipped (all_recorded ks) (given_out j ks) h.reported

module _ {D A R P Q : Type 0} (k : Kinds D A R) (p : Post D A R P) (q : Post D A R Q) where
  -- all the statements that the sender made: those that their post took, and those still queued
  abbrev pub all_stated : World D A R P Q → List (Message D A R)
  all_stated w = q.taken w.statements_post ++ w.sender.queued_statements

  -- reader j accepted all the sender's statements, and all recorded changes behind the sender's frontier
  abbrev pub CaughtUp : List (Call D A R) → World D A R P Q → ℕ → Type 0
  CaughtUp ks w j =
      ((m : Message D A R) → In m (all_stated w) → In m (all_accepted j ks)) ×
      ((c : Change D A R) → T (has k (all_recorded ks) c) → T (not (beyond k.time.below w.sender.frontier c.time)) → T (change_accepted k c (all_accepted j ks)))

  -- what is true after the calls ks, which led to the world w
  pub record Promises (ks : List (Call D A R)) (w : World D A R P Q) : Type 0 where
    -- what each reader gave out is what was recorded
    pub given : (j : ℕ) (x : Reader D A R) → At w.readers j x → Given k ks j x
    -- two readers of either sort that accepted the same messages, whatever the order and the repeats, stand at one frontier
    pub agree : (i j : ℕ) (x y : Reader D A R) → At w.readers i x → At w.readers j y → T (counts_in i ks x) → T (counts_in j ks y) → ((m : Message D A R) → both_ways (In m (all_accepted i ks)) (In m (all_accepted j ks))) → T (equal k.time.below (stands_at x) (stands_at y))
    -- no reader passes the sender
    pub behind_sender : (j : ℕ) (x : Reader D A R) → At w.readers j x → T (leq k.time.below (stands_at x) w.sender.frontier)
    -- once the queues are empty, a reader is level with the sender exactly when it is caught up; the proof does not need the queues to be empty
    pub level : (j : ℕ) (x : Reader D A R) → At w.readers j x → T (counts_in j ks x) → w.sender.queued_changes ≡ [] → w.sender.queued_statements ≡ [] → both_ways (T (equal k.time.below (stands_at x) w.sender.frontier)) (CaughtUp ks w j)

  -- the law, over every run in which readers get only what the posts took, and no data is recorded twice at one time
  pub record Law : Type 0 where
    pub promises : (ks : List (Call D A R)) (w : World D A R P Q) → Run k p q ks w → T (one_each k (all_recorded ks)) → Promises ks w
    -- no call moves a reader's frontier back
    pub onward : (ks : List (Call D A R)) (v w : World D A R P Q) (c : Call D A R) → Run k p q ks v → Step k p q v c w → T (one_each k (all_recorded (c ∷ ks))) → (j : ℕ) (x y : Reader D A R) → At v.readers j x → At w.readers j y → T (leq k.time.below (stands_at x) (stands_at y))
