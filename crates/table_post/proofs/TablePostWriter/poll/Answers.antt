use borrow.Author.Rules.{scaled_Fits}
use Rattle.std.proofs.Common.{◌≡◌, ◌<◌, Bool, true, false, ltb, [], ◌∷◌, map, length, Ok, Err, Result, refl, ap, ◌∙◌, sym, arith}
use Rattle.std.proofs.lemmas.Bool.{and_from, and_left, and_right, lt-ltb, le-ltb}
use Rattle.std.proofs.lemmas.List.{take-set}
use Rattle.std.specs.Result.{is_err}
use Rattle.questions.specs.declared.Refusal.{Refusal}
use Rattle.questions.specs.Answers.{Answered}
use Rattle.questions.proofs.Asking.{asked_all}
use Rattle.capture.specs.Stored.{stored_message}
use Rattle.capture.proofs.Queues.{pushed, entry_fits}
use Rattle.table_post.proofs.TablePostWriter.poll.Goals as goal
use Rattle.table_post.proofs.TablePostWriter.poll.Goals.{then-n-ge-POST_MESSAGES-via-then-n-ge-POST_MESSAGES, then-n-ge-POST_MESSAGES-via-else-n-ge-POST_MESSAGES+then-is_err}

-- storing is refused exactly where the message is too long
module _ {U : Type 0} (short : Bool) (P Q : Type 0) where
  stored : (r : Result U Refusal) → is_err r ≡ false → Answered r ((short, 2) ∷ []) (λ _. P) Q → (short ≡ true) × P
  stored (Ok u) e h = ((asked_all short 2 [] h.0).0, h.1)
  stored (Err f) e h = cc

  too_long : (r : Result U Refusal) → is_err r ≡ true → Answered r ((short, 2) ∷ []) (λ _. P) Q → short ≡ false
  too_long (Ok u) e h = cc
  too_long (Err f) e h = elim short as (λ b. Answered {X = U} (Err f) ((b, 2) ∷ []) (λ _. P) Q → b ≡ false) [ true ↦ λ k. (let none = k.0 in cc) | false ↦ λ k. refl ] h

pub offset_bounds-table-n : goal.offset_bounds-table-n
offset_bounds-table-n g c = let h : c.args.self.now.len < length c.args.self.now.table.now = omega (arith, c.args.self.now.long) in search scaled_Fits

pub store-requires : goal.store-requires
store-requires g c = let h : 0 < length c.args.self.now.table.now = omega (arith, c.args.self.now.long) in search entry_fits

pub returns-then-n-ge-POST_MESSAGES : goal.returns-then-n-ge-POST_MESSAGES
returns-then-n-ge-POST_MESSAGES g c =
    let reads = stored_message g.D.Same.value g.T.PartialOrder.value g.R.Same.value in
    let n = c.args.self.now.len in
    elim c.then-n-ge-POST_MESSAGES.branch [
      | then-n-ge-POST_MESSAGES-via-then-n-ge-POST_MESSAGES w ↦ rw w.self-is (and_left (ltb n 64) _ (le-ltb n 64 w.if-n-ge-POST_MESSAGES.true), refl)
      | then-n-ge-POST_MESSAGES-via-else-n-ge-POST_MESSAGES+then-is_err w ↦
          rw w.self-is (and_right (ltb n 64) _ (too_long _ _ _ w.store.result (sym w.is_err.ensures.value ∙ w.if-is_err.true) w.store.ensures), ap (map reads) (take-set c.args.self.now.table.now n w.store.new.self))
    ]

pub returns : goal.returns
returns g c =
    let reads = stored_message g.D.Same.value g.T.PartialOrder.value g.R.Same.value in
    let n = c.args.self.now.len in
    let inside : n < length c.args.self.now.table.now = omega (arith, c.args.self.now.long) in
    let told = stored _ _ _ c.store.result (sym c.is_err.ensures.value ∙ c.if-is_err.false) c.store.ensures in
    (and_from (ltb n 64) _ (lt-ltb n 64 c.if-n-ge-POST_MESSAGES.false) told.0, pushed reads c.args.self.now.table.now n c.store.new.self _ inside told.1)
