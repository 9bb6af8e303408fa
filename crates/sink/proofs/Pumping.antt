-- How a pump goes on from message to message.
use Rattle.std.proofs.Common.{◌≡◌, ℕ, ◌+◌, ◌-◌, ◌<◌, ◌≤◌, Bool, true, false, not, leb, List, [], ◌∷◌, ◌++◌, map, length, get_or, take, drop, Some, None, Option, Ok, Err, Result, sym, refl, ap, subst, arith}
use Rattle.std.proofs.lemmas.List.{drop_all}
use Rattle.std.proofs.lemmas.Bool.{le-leb, lt-leb}
use Rattle.std.proofs.Math.Bridge.{le_prop}
use Rattle.questions.specs.declared.Refusal.{Refusal}
use Rattle.questions.proofs.Asking.{ask_next, ask_here}
use Rattle.frontier.specs.Tables.{in_use}
use Rattle.frontier.proofs.Walks.{next, walked}
use Rattle.capture.specs.Sizes.{queue_messages}
use Rattle.capture.specs.Answers.{refused, accepted}
use Rattle.capture.specs.Messages.{Message}
use Rattle.capture.specs.Posts.{Post, Pumped, empty, waits, takes, Pump, refuses, pumps}
use Rattle.sink.specs.declared.queue.Queue.{Queue}
use Rattle.sink.specs.declared.sender.OpenSender.{OpenSender}
use Rattle.sink.specs.Pumps.{working, Left, WhereRefused}

module _ {D A R P S : Type 0} (o : Post D A R P) (reads : S → Message D A R) where
  -- what is left to offer comes to what all comes to
  abbrev pub Pumping : List S → P → List S → P → Type 0
  Pumping all p left q = (work : Bool) (wait : Option ℕ) (ns : List (Message D A R)) (s : P) → Pumped o (map reads left) q work wait ns s → Pumped o (map reads all) p work wait ns s

  module _ (all : List S) (p : P) (i : ℕ) (q : P) (so_far : Pumping all p (drop i all) q) where
    module _ (x : S) (h : i < length all) (read : x ≡ get_or all i x) where
      -- the message is the next
      turn : map reads (drop i all) ≡ reads x ∷ map reads (drop (i + 1) all)
      turn = next reads all i x h read (λ ys. ys)

      -- it is taken
      pub taken_on : (s : P) → o.ready q (reads x) ≡ true → o.taken s ≡ o.taken q ++ reads x ∷ [] → Pumping all p (drop (i + 1) all) s
      taken_on s ready more work wait ns t rest = so_far work wait ns t (subst (λ ms. Pumped o ms q work wait ns t) (sym turn) (takes ready more rest))

      -- it has to wait
      pub waits_here : (s : P) (wait : ℕ) → o.ready q (reads x) ≡ false → o.taken s ≡ o.taken q → Pumped o (map reads all) p true (Some wait) (map reads (drop i all)) s
      waits_here s wait unready same = so_far true (Some wait) (map reads (drop i all)) s (subst (λ ms. Pumped o ms q true (Some wait) ms s) (sym turn) (waits unready same))

    -- none is left
    pub all_taken : length all ≤ i → Pumped o (map reads all) p (not (o.committed q)) None (map reads (drop (length all) all)) q
    all_taken h =
        let none : map reads (drop i all) ≡ [] = walked reads all i (λ ys. ys) h in
        let end : map reads (drop (length all) all) ≡ [] = ap (map reads) (drop_all (length all) all (omega arith)) in
        so_far (not (o.committed q)) None (map reads (drop (length all) all)) q
        (subst (λ ms. Pumped o ms q (not (o.committed q)) None (map reads (drop (length all) all)) q) (sym none) (subst (λ ns. Pumped o [] q (not (o.committed q)) None ns q) (sym end) empty))

  -- the messages that were not taken move up
  pub moved_up : (xs ys : List S) (len n : ℕ) (p q : P) (work : Bool) (wait : Option ℕ) → work ≡ working wait (o.committed q) → take (len - n) ys ≡ drop n (take len xs)
      → Pumped o (in_use reads len xs) p (working wait (o.committed q)) wait (map reads (drop n (take len xs))) q → Pumped o (in_use reads len xs) p work wait (in_use reads (len - n) ys) q
  moved_up xs ys len n p q work wait w left h = rw (w, left) h

-- work remains exactly where messages are left or the post is not done
pub works_on : (wait : Option ℕ) (n len : ℕ) (b : Bool) → Left wait n len → 0 < len - n → true ≡ working wait b
works_on (Some w) n len b h more = refl
works_on None n len b h more = absurd (omega arith)

pub works_until : (wait : Option ℕ) (n len : ℕ) (b : Bool) → Left wait n len → len - n ≤ 0 → not b ≡ working wait b
works_until (Some w) n len b h none = absurd (omega arith)
works_until None n len b h none = refl

-- the call of a pump, by how long the queue's table is
module _ {D A R P : Type 0} (o : Post D A R P) (n : ℕ) where
  pub refused_short : (ms : List (Message D A R)) (p : P) → n < queue_messages → Pump o (leb queue_messages n) ms p (refused 1) ms p
  refused_short ms p h = refuses (ask_here (leb queue_messages n) 1 [] (lt-leb queue_messages n h))

  pub pumped_long : (ms ns : List (Message D A R)) (p q : P) (work : Bool) (wait : Option ℕ) → queue_messages ≤ n → Pumped o ms p work wait ns q → Pump o (leb queue_messages n) ms p (accepted (work, wait)) ns q
  pumped_long ms ns p q work wait h pumped = pumps (ask_next (leb queue_messages n) 1 [] (le-leb queue_messages n h)) pumped

-- what a refusal leaves, said of more
pub where_refused : {X : Type 0} {P Q : Type 0} (r : Result X Refusal) → (P → Q) → WhereRefused r P → WhereRefused r Q
where_refused (Ok x) f h = h
where_refused (Err e) f h = f h

-- a sender is the same where its numbers and queues are
pub same_sender : (f c : ℕ) (u u' p p' : Queue) (a a' : f ≤ 32) (b b' : c ≤ 256) → u ≡ u' → p ≡ p' → ◌≡◌ {A = OpenSender} (record { frontier = f; counts = c; updates = u; progress = p; few_times = a; few_counts = b }) (record { frontier = f; counts = c; updates = u'; progress = p'; few_times = a'; few_counts = b' })
same_sender f c u u' p p' a a' b b' e h = λ i. record { frontier = f; counts = c; updates = e i; progress = h i; few_times = le_prop a a' i; few_counts = le_prop b b' i }

-- where the pump of a queue refuses, its sender stays as it was
module _ {X : Type 0} (A B : Type 0) (r : Result X Refusal) (s : OpenSender) where
  pub updates_refused : (u : Queue) (a : s.frontier ≤ 32) (b : s.counts ≤ 256) → WhereRefused r ((u ≡ s.updates) × A × B) → WhereRefused r ((◌≡◌ {A = OpenSender} (record { frontier = s.frontier; counts = s.counts; updates = u; progress = s.progress; few_times = a; few_counts = b }) s) × A × B)
  updates_refused u a b h = where_refused r (λ k. (same_sender s.frontier s.counts u s.updates s.progress s.progress a s.few_times b s.few_counts k.0 refl, k.1, k.2)) h

  pub progress_refused : (p : Queue) (a : s.frontier ≤ 32) (b : s.counts ≤ 256) → WhereRefused r ((p ≡ s.progress) × A × B) → WhereRefused r ((◌≡◌ {A = OpenSender} (record { frontier = s.frontier; counts = s.counts; updates = s.updates; progress = p; few_times = a; few_counts = b }) s) × A × B)
  progress_refused p a b h = where_refused r (λ k. (same_sender s.frontier s.counts s.updates s.updates p s.progress a s.few_times b s.few_counts refl k.0, k.1, k.2)) h
