-- Books that come of a run keep the law, since the run does.
use mathlib.Core.Logic.{∥∥₁_elim, ∥∥₁_map}
use Rattle.std.proofs.Common.{◌≡◌, ℕ, Bool, T, List, ◌++◌, sym, ap, subst}
use lib.Dec.{T_prop}
use Rattle.frontier.specs.Frontiers.{equal}
use Rattle.capture.specs.Kinds.{Kinds}
use Rattle.capture.specs.Law.{Given, all_accepted, all_recorded, change_accepted, counts_in, given_out, is_settled, one_each}
use Rattle.capture.specs.Law as law
use Rattle.capture.specs.Messages.{has}
use Rattle.capture.specs.Posts.{Post}
use Rattle.capture.specs.Readers.{Reader, held, prompt, away}
use Rattle.capture.specs.Runs.{At, Call}
use Rattle.capture.proofs.Laws.{Lawful}
use Rattle.capture.proofs.LawHolds as holds
use Rattle.capture.proofs.Lists.{in_along}
use Rattle.exchange.specs.Books.{Books, Office}
use Rattle.exchange.specs.Kept.{Gave, Kept, all_stated, frontier_of, tells}
use Rattle.exchange.specs.Ran.{Booked, Ran, reader_of, world}
use Rattle.exchange.proofs.Places.{all_among, at_map}

module _ {D A R : Type 0} (k : Kinds D A R) (ks : List (Call D A R)) (j : ℕ) where
  gave : (x : Reader D A R) → Given k ks j x → Gave k (all_recorded ks) (given_out j ks) x
  gave (held h) g = g
  gave (prompt h) g = g
  gave (away h) g = g

  told : (x : Reader D A R) {settled : Bool} → is_settled j ks ≡ settled → T (tells x settled) → T (counts_in j ks x)
  told (held h) e t = t
  told (prompt h) e t = subst (λ b. T b) (sym e) t
  told (away h) e t = subst (λ b. T b) (sym e) t

module _ {D A R P Q : Type 0} {k : Kinds D A R} (ok : Lawful k) (p : Post D A R P) (q : Post D A R Q) (b : Books D A R) (r : Ran k p q b) where
  once : T (one_each k b.recorded) → T (one_each k (all_recorded r.calls))
  once one = subst (λ l. T (one_each k l)) (sym r.recorded) one

  promised : T (one_each k b.recorded) → law.Promises k p q r.calls (world b r.changes_post r.statements_post)
  promised one = (holds.law ok p q).promises r.calls (world b r.changes_post r.statements_post) r.run (once one)

  -- the statements made, as the run and as the books have them
  stated : q.taken r.statements_post ++ b.sender.queued_statements ≡ all_stated b
  stated = ap (λ l. l ++ b.sender.queued_statements) r.sent_statements

  pub ran_kept : Kept k b
  ran_kept one =
      let had = promised one in
      let booked : (j : ℕ) (o : Office D A R) → At b.offices j o → Booked r.calls j o = λ j o a. r.offices j o a in
      record {
        given = λ j o a.
            subst (λ l. Gave k l o.given o.reader) r.recorded (subst (λ l. Gave k (all_recorded r.calls) l o.reader) (booked j o a).given (gave k r.calls j o.reader (had.given j o.reader (at_map reader_of a))));
        agree = λ i j x y ax ay tx ty same.
            ∥∥₁_elim (all_among x.taken y.taken (λ m h. (same m).0 ∣ h ∣₁)) (T_prop (equal k.time.below (frontier_of x) (frontier_of y))) (λ f.
            ∥∥₁_elim (all_among y.taken x.taken (λ m h. (same m).1 ∣ h ∣₁)) (T_prop (equal k.time.below (frontier_of x) (frontier_of y))) (λ g.
            had.agree i j x.reader y.reader (at_map reader_of ax) (at_map reader_of ay) (told k r.calls i x.reader (booked i x ax).settled tx) (told k r.calls j y.reader (booked j y ay).settled ty)
            (λ m. (
              λ h. in_along (sym (booked j y ay).taken) (f m (in_along (booked i x ax).taken h)),
              λ h. in_along (sym (booked i x ax).taken) (g m (in_along (booked j y ay).taken h)),
            ))));
        behind_sender = λ j o a. had.behind_sender j o.reader (at_map reader_of a);
        level = λ j o a t none gone.
            let same = (booked j o a).taken in
            let levels = had.level j o.reader (at_map reader_of a) (told k r.calls j o.reader (booked j o a).settled t) none gone in (
              λ e.
                  let up = levels.0 e in (
                    λ m h. ∥∥₁_map h (λ i. in_along same (up.0 m (in_along (sym stated) i))),
                    λ c h behind. subst (λ l. T (change_accepted k c l)) same (up.1 c (subst (λ l. T (has k l c)) (sym r.recorded) h) behind),
                  ),
              λ up.
                  ∥∥₁_elim (all_among (all_stated b) o.taken (λ m i. up.0 m ∣ i ∣₁)) (T_prop (equal k.time.below (frontier_of o) b.sender.frontier)) (λ f.
                  levels.1 (
                    λ m i. in_along (sym same) (f m (in_along stated i)),
                    λ c h behind. subst (λ l. T (change_accepted k c l)) (sym same) (up.1 c (subst (λ l. T (has k l c)) r.recorded h) behind),
                  )),
            );
      }
