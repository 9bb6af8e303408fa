-- Each call leads from books that come of a run to books that do.
use Rattle.std.proofs.Common.{◌≡◌, ℕ, Bool, true, false, cond, T, eqb, List, [], ◌∷◌, ◌++◌, map, set, Option, sym, refl, ap, ◌∙◌, subst, ⊎_elim, append-nil}
use Rattle.capture.specs.Answers.{Answer, brings, is_accepted}
use Rattle.capture.specs.Held.{Held, feed}
use Rattle.capture.specs.Kinds.{Kinds}
use Rattle.capture.specs.Law.{all_accepted, all_recorded, gifts_of, given_out, interval_changes, is_settled, messages_of, one_each, records_of}
use Rattle.capture.specs.Messages.{Change, Message, Statement, changes, statement}
use Rattle.capture.specs.Posts.{Post, Pump}
use Rattle.capture.specs.Prompt.{Prompt, heed, note, settle, sift}
use Rattle.capture.specs.Readers.{fresh_reader}
use Rattle.capture.specs.Runs.{At, Call, In, Run, Step, Turned, closed, fed, finished, heeded, noted, pumped_changes, pumped_statements, recorded, settled, sifted}
use Rattle.capture.specs.Sender.{close, finish, record_changes}
use Rattle.capture.proofs.LawHolds.{law, pick_here, pick_there}
use Rattle.capture.proofs.Laws.{Lawful}
use Rattle.capture.proofs.Lists.{in_along, turned_cases}
use Rattle.exchange.specs.Books.{Books, Office, fresh_books, fresh_office, held_office, prompt_office, sent}
use Rattle.exchange.specs.Calls.{after_close, after_feed, after_finish, after_heed, after_note, after_record, after_settle, after_sift, changes_moved, statements_moved, with_office}
use Rattle.exchange.specs.Kept.{Onward}
use Rattle.exchange.specs.Law.{LawOfBooks, Leads}
use Rattle.exchange.specs.Ran.{Booked, Ran, reader_of, world}
use Rattle.exchange.proofs.Keeping.{ran_kept}
use Rattle.exchange.proofs.Places.{at_map, turned_map, turned_set}

module _ {D A R : Type 0} where
  -- the call brought reader j nothing
  record NothingFor (j : ℕ) (c : Call D A R) (ks : List (Call D A R)) : Type 0 where
    given : gifts_of j c ≡ []
    taken : messages_of j c ≡ []
    settled : is_settled j (c ∷ ks) ≡ is_settled j ks

  booked_same : {ks : List (Call D A R)} {j : ℕ} {o : Office D A R} (c : Call D A R) → NothingFor j c ks → Booked ks j o → Booked (c ∷ ks) j o
  booked_same {ks} {j} {o} c n b =
      record {
        given = ap (λ l. given_out j ks ++ l) n.given ∙ append-nil (given_out j ks) ∙ b.given;
        taken = ap (λ l. all_accepted j ks ++ l) n.taken ∙ append-nil (all_accepted j ks) ∙ b.taken;
        settled = n.settled ∙ b.settled;
      }

  -- a call of reader i alone
  booked_turned : {ks : List (Call D A R)} {os os' : List (Office D A R)} {i : ℕ} {o o' : Office D A R} (c : Call D A R) → Turned os i o o' os' → (Booked ks i o → Booked (c ∷ ks) i o') → ((j : ℕ) → (j ≡ i → ⊥) → NothingFor j c ks) →
      ((j : ℕ) (x : Office D A R) → At os j x → Booked ks j x) → Booked ks i o → (j : ℕ) (x : Office D A R) → At os' j x → Booked (c ∷ ks) j x
  booked_turned {ks} {i = i} {o' = o'} c τ here there all at_i j x a =
      ⊎_elim
      (λ h. subst (λ v. Booked (c ∷ ks) j v) (sym h.1) (subst (λ n. Booked (c ∷ ks) n o') (sym h.0) (here at_i)))
      (λ h. booked_same c (there j h.0) (all j x h.1))
      (turned_cases j x τ a)

  fresh_booked : (k : Kinds D A R) (sorts : List Bool) (i j : ℕ) (o : Office D A R) → At (map (fresh_office k) sorts) j o → Booked [] i o
  fresh_booked k [] i j o a = elim a [ ]
  fresh_booked k (sort ∷ sorts) i j o At.here = record { given = refl; taken = refl; settled = refl }
  fresh_booked k (sort ∷ sorts) i j o (At.there {i = n} a) = fresh_booked k sorts i n o a

  fresh_readers : (k : Kinds D A R) (sorts : List Bool) → map (fresh_reader k) sorts ≡ map reader_of (map (fresh_office k) sorts)
  fresh_readers k [] = refl
  fresh_readers k (sort ∷ sorts) = ap (λ rs. fresh_reader k sort ∷ rs) (fresh_readers k sorts)

module _ {D A R P Q : Type 0} {k : Kinds D A R} (ok : Lawful k) (p : Post D A R P) (q : Post D A R Q) where
  begins : (sorts : List Bool) (x : P) (y : Q) → p.taken x ≡ [] → q.taken y ≡ [] → Ran k p q (fresh_books k sorts)
  begins sorts x y ex ey =
      record {
        calls = [];
        changes_post = x;
        statements_post = y;
        run = subst (λ rs. Run k p q [] (record { sender = (fresh_books k sorts).sender; done = false; changes_post = x; statements_post = y; readers = rs })) (fresh_readers k sorts) (Run.begun sorts ex ey);
        sent_changes = ex;
        sent_statements = ey;
        recorded = refl;
        offices = λ j o a. fresh_booked k sorts j j o a;
      }

  -- other posts that took the same
  abbrev reposted : {b : Books D A R} → Ran k p q b → (x : P) (y : Q) → p.taken x ≡ b.sent_changes → q.taken y ≡ b.sent_statements → Ran k p q b
  reposted r x y ex ey =
      record {
        calls = r.calls;
        changes_post = x;
        statements_post = y;
        run = Run.meanwhile r.run (ex ∙ sym r.sent_changes) (ey ∙ sym r.sent_statements);
        sent_changes = ex;
        sent_statements = ey;
        recorded = r.recorded;
        offices = r.offices;
      }

  -- one call more
  led : {b b' : Books D A R} (r : Ran k p q b) (c : Call D A R) (x : P) (y : Q) → Step k p q (world b r.changes_post r.statements_post) c (world b' x y) →
      p.taken x ≡ b'.sent_changes → q.taken y ≡ b'.sent_statements → b.recorded ++ records_of c ≡ b'.recorded → ((j : ℕ) (o : Office D A R) → At b'.offices j o → Booked (c ∷ r.calls) j o) → Ran k p q b' × Onward k b b'
  led {b} {b'} r c x y step ex ey er offices =
      let recorded : all_recorded (c ∷ r.calls) ≡ b'.recorded = ap (λ l. l ++ records_of c) r.recorded ∙ er in (
        record { calls = c ∷ r.calls; changes_post = x; statements_post = y; run = Run.then r.run step; sent_changes = ex; sent_statements = ey; recorded = recorded; offices = offices },
        λ one j u v au av. (law ok p q).onward r.calls (world b r.changes_post r.statements_post) (world b' x y) c r.run step (subst (λ l. T (one_each k l)) (sym recorded) one) j u.reader v.reader (at_map reader_of au) (at_map reader_of av),
      )

  -- a call of the sender
  sender_led : (b b' : Books D A R) (r : Ran k p q b) (c : Call D A R) (x : P) (y : Q) → Step k p q (world b r.changes_post r.statements_post) c (world b' x y) →
      p.taken x ≡ b'.sent_changes → q.taken y ≡ b'.sent_statements → b.recorded ++ records_of c ≡ b'.recorded → b'.offices ≡ b.offices → ((j : ℕ) → NothingFor j c r.calls) → Ran k p q b' × Onward k b b'
  sender_led b b' r c x y step ex ey er eo quiet = led r c x y step ex ey er (λ j o a. booked_same c (quiet j) (r.offices j o (subst (λ os. At os j o) eo a)))

  quietly : {j : ℕ} {c : Call D A R} {ks : List (Call D A R)} → gifts_of j c ≡ [] → messages_of j c ≡ [] → is_settled j (c ∷ ks) ≡ is_settled j ks → NothingFor j c ks
  quietly g m s = record { given = g; taken = m; settled = s }

  records : (b : Books D A R) (cs : List (Change D A R)) → b.finished ≡ false → Leads k p q b (after_record k cs b)
  records b cs going r = sender_led b (after_record k cs b) r (recorded cs (record_changes k true cs b.sender).0) r.changes_post r.statements_post (Step.records true going) r.sent_changes r.sent_statements refl refl (λ j. quietly refl refl refl)

  closes : (b : Books D A R) (l : List A) → b.finished ≡ false → Leads k p q b (after_close k l b)
  closes b l going r = sender_led b (after_close k l b) r (closed l (close k true l b.sender).0) r.changes_post r.statements_post (Step.closes true going) r.sent_changes r.sent_statements (append-nil b.recorded) refl (λ j. quietly refl refl refl)

  finishes : (b : Books D A R) → b.finished ≡ false → Leads k p q b (after_finish k b)
  finishes b going r = sender_led b (after_finish k b) r (finished (finish k true b.sender).0) r.changes_post r.statements_post (Step.finishes true going) r.sent_changes r.sent_statements (append-nil b.recorded) refl (λ j. quietly refl refl refl)

  pumps_changes : (b : Books D A R) (before after : P) (a : Answer (Bool × Option ℕ)) (queue : List (Message D A R)) → p.taken before ≡ b.sent_changes → Pump p true b.sender.queued_changes before a queue after → Leads k p q b (changes_moved b queue (p.taken after))
  pumps_changes b before after a queue e pump r =
      sender_led b (changes_moved b queue (p.taken after)) (reposted r before r.statements_post e r.sent_statements) (pumped_changes a) after r.statements_post (Step.pumps_changes true pump) refl r.sent_statements (append-nil b.recorded) refl (λ j. quietly refl refl refl)

  pumps_statements : (b : Books D A R) (before after : Q) (a : Answer (Bool × Option ℕ)) (queue : List (Message D A R)) → q.taken before ≡ b.sent_statements → Pump q true b.sender.queued_statements before a queue after → Leads k p q b (statements_moved b queue (q.taken after))
  pumps_statements b before after a queue e pump r =
      sender_led b (statements_moved b queue (q.taken after)) (reposted r r.changes_post before r.sent_changes e) (pumped_statements a) r.changes_post after (Step.pumps_statements true pump) r.sent_changes refl (append-nil b.recorded) refl (λ j. quietly refl refl refl)

  -- what the posts took, as the run and as the books have it
  module _ (b : Books D A R) (r : Ran k p q b) where
    took : sent b ≡ p.taken r.changes_post ++ q.taken r.statements_post
    took = ap (λ l. l ++ b.sent_statements) (sym r.sent_changes) ∙ ap (λ l. p.taken r.changes_post ++ l) (sym r.sent_statements)

    -- a call of reader i
    reader_led : (c : Call D A R) (i : ℕ) (o o' : Office D A R) → At b.offices i o → (Turned (map reader_of b.offices) i o.reader o'.reader (map reader_of (set b.offices i o')) → Step k p q (world b r.changes_post r.statements_post) c (world (with_office b i o') r.changes_post r.statements_post)) →
        records_of c ≡ [] → (Booked r.calls i o → Booked (c ∷ r.calls) i o') → ((j : ℕ) → (j ≡ i → ⊥) → NothingFor j c r.calls) → Ran k p q (with_office b i o') × Onward k b (with_office b i o')
    reader_led c i o o' at step er here there =
        let τ = turned_set o' at in
        led r c r.changes_post r.statements_post (step (turned_map reader_of τ)) r.sent_changes r.sent_statements (ap (λ l. b.recorded ++ l) er ∙ append-nil b.recorded) (booked_turned c τ here there r.offices (r.offices i o at))

  more : {X : Type 0} (i : ℕ) (xs xs' ys : List X) → xs ≡ xs' → xs ++ cond (eqb i i) ys [] ≡ xs' ++ ys
  more i xs xs' ys e = ap (λ l. xs ++ l) (pick_here i ys []) ∙ ap (λ l. l ++ ys) e

  none : {X : Type 0} (xs xs' : List X) → xs ≡ xs' → xs ++ [] ≡ xs'
  none xs xs' e = append-nil xs ∙ e

  now_settled : (i : ℕ) (accepted b s s' : Bool) → s ≡ s' → cond (eqb i i) (cond accepted b s) s ≡ cond accepted b s'
  now_settled i accepted b s s' e = pick_here i (cond accepted b s) s ∙ ap (λ v. cond accepted b v) e

  feeds : (b : Books D A R) (i : ℕ) (m : Message D A R) (h : Held D A R) (given : List (Change D A R)) (taken : List (Message D A R)) → In m (sent b) → At b.offices i (held_office h given taken) → Leads k p q b (with_office b i (after_feed k m h given taken))
  feeds b i m h given taken member at r =
      let a = (feed k true m h).0 in
      let gave = brings a interval_changes in
      let took_in = brings a (λ _. m ∷ []) in
      reader_led b r (fed i m a) i (held_office h given taken) (after_feed k m h given taken) at (λ τ. Step.feeds true (in_along (took b r) member) τ) refl
      (λ had. record { given = more i (given_out i r.calls) given gave had.given; taken = more i (all_accepted i r.calls) taken took_in had.taken; settled = had.settled })
      (λ j n. quietly (pick_there i j gave [] n) (pick_there i j took_in [] n) refl)

  sifts : (b : Books D A R) (i : ℕ) (cs : List (Change D A R)) (h : Prompt D A R) (given : List (Change D A R)) (taken : List (Message D A R)) (settled : Bool) → In (changes cs) (sent b) → At b.offices i (prompt_office h given taken settled) → Leads k p q b (with_office b i (after_sift k cs h given taken settled))
  sifts b i cs h given taken was member at r =
      let a = (sift k true cs h).0 in
      let gave = brings a (λ new. new) in
      let took_in = brings a (λ _. changes cs ∷ []) in
      reader_led b r (sifted i cs a) i (prompt_office h given taken was) (after_sift k cs h given taken was) at (λ τ. Step.sifts true (in_along (took b r) member) τ) refl
      (λ had. record { given = more i (given_out i r.calls) given gave had.given; taken = more i (all_accepted i r.calls) taken took_in had.taken; settled = now_settled i (is_accepted a) false (is_settled i r.calls) was had.settled })
      (λ j n. quietly (pick_there i j gave [] n) (pick_there i j took_in [] n) (pick_there i j (cond (is_accepted a) false (is_settled j r.calls)) (is_settled j r.calls) n))

  notes : (b : Books D A R) (i : ℕ) (s : Statement A) (h : Prompt D A R) (given : List (Change D A R)) (taken : List (Message D A R)) (settled : Bool) → In (statement s) (sent b) → At b.offices i (prompt_office h given taken settled) → Leads k p q b (with_office b i (after_note k s h given taken settled))
  notes b i s h given taken was member at r =
      let a = (note k true s h).0 in
      let took_in = brings a (λ _. statement s ∷ []) in
      reader_led b r (noted i s a) i (prompt_office h given taken was) (after_note k s h given taken was) at (λ τ. Step.notes true (in_along (took b r) member) τ) refl
      (λ had. record { given = none (given_out i r.calls) given had.given; taken = more i (all_accepted i r.calls) taken took_in had.taken; settled = now_settled i (is_accepted a) false (is_settled i r.calls) was had.settled })
      (λ j n. quietly refl (pick_there i j took_in [] n) (pick_there i j (cond (is_accepted a) false (is_settled j r.calls)) (is_settled j r.calls) n))

  settles : (b : Books D A R) (i : ℕ) (h : Prompt D A R) (given : List (Change D A R)) (taken : List (Message D A R)) (settled : Bool) → At b.offices i (prompt_office h given taken settled) → Leads k p q b (with_office b i (after_settle k h given taken settled))
  settles b i h given taken was at r =
      let a = (settle k true h).0 in
      reader_led b r (settled i a) i (prompt_office h given taken was) (after_settle k h given taken was) at (λ τ. Step.settles true τ) refl
      (λ had. record { given = none (given_out i r.calls) given had.given; taken = none (all_accepted i r.calls) taken had.taken; settled = now_settled i (is_accepted a) true (is_settled i r.calls) was had.settled })
      (λ j n. quietly refl refl (pick_there i j (cond (is_accepted a) true (is_settled j r.calls)) (is_settled j r.calls) n))

  heeds : (b : Books D A R) (i : ℕ) (h : Prompt D A R) (given : List (Change D A R)) (taken : List (Message D A R)) (settled : Bool) → At b.offices i (prompt_office h given taken settled) → Leads k p q b (with_office b i (after_heed k h given taken settled))
  heeds b i h given taken was at r =
      reader_led b r (heeded i (heed k true h).0) i (prompt_office h given taken was) (after_heed k h given taken was) at (λ τ. Step.heeds true τ) refl
      (λ had. record { given = none (given_out i r.calls) given had.given; taken = none (all_accepted i r.calls) taken had.taken; settled = had.settled })
      (λ j n. quietly refl refl refl)

  pub law_of_books : LawOfBooks k p q
  law_of_books =
      record { kept = ran_kept ok p q; begins = begins; records = records; closes = closes; finishes = finishes; pumps_changes = pumps_changes; pumps_statements = pumps_statements; feeds = feeds; sifts = sifts; notes = notes; settles = settles; heeds = heeds }
