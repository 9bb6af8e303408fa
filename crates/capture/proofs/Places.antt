-- Where a reader's progress stands along the sender's statements, and that it stands there after each that comes.
use Rattle.std.proofs.Common.{◌≡◌, ℕ, zero, suc, ◌+◌, ◌≤◌, Bool, true, false, cond, not, ◌&&◌, T, ◌⊎◌, List, [], ◌∷◌, ◌++◌, length, ℤ, pos, ◌+ℤ◌, nat_abs, Some, None, Option, sym, refl, ap, ◌∙◌, subst, ⊎_elim, append_assoc, arith}
use borrow.Author.Differences.{ints}
use Rattle.std.proofs.lemmas.Bool.{false≢true, true≢false}
use Rattle.lattice.proofs.Tests.{T_along, T_back, and_intro, and_left, by_cases, cond_both, cond_true, iff_≡, not_both, not_from}
use Rattle.lattice.specs.Orders.{Joins, Order}
use Rattle.frontier.proofs.Antichains.{antichain_inserted_all, antichain_none, antichain_one}
use Rattle.frontier.proofs.Beyond.{leq_beyond, leq_from, leq_refl, leq_trans}
use Rattle.frontier.proofs.Joining.{beyond_join, leq_join_right}
use Rattle.frontier.specs.Frontiers.{Antichain, beyond, join, leq, pairwise}
use Rattle.capture.specs.Kinds.{Time}
use Rattle.capture.specs.Messages.{Statement, short}
use Rattle.capture.specs.Runs.{In}
use Rattle.capture.specs.Sender.{count_at}
use Rattle.capture.specs.Statements.{Progress, act, advanced, counts_beyond, drained, first_ready, fresh_progress, passed, with_waiting}
use Rattle.capture.proofs.Chains.{Chain, Link, chain_append, chain_head, chain_leq, chain_link, chain_one}
use Rattle.capture.proofs.Counts.{Clean, clean_added_all, size_at}
use Rattle.capture.proofs.Lists.{in_along, in_cases, in_kept, in_left, in_more, in_none, in_one, in_right, in_same, kept_in, kept_length}
use Rattle.capture.proofs.Tallies.{at_more, size_beyond, sum_beyond, tally}
use Rattle.capture.proofs.Waiting.{View, view}

-- the arithmetic of an act at one time: m, u and f say whether it is beyond the old edge, the new one and the frontier
step_count : (m u f : Bool) (c : ℤ) (b n k : ℕ) → f ≡ m → (T u → T m) → c +ℤ pos b ≡ pos (cond m 0 n) → k ≡ cond m (cond u 0 n) 0 → (c +ℤ pos (cond f k 0)) +ℤ pos b ≡ pos (cond u 0 n)
step_count true true true c b n k e up old says = omega (arith, ints)
step_count true false true c b n k e up old says = omega (arith, ints)
step_count false false false c b n k e up old says = omega (arith, ints)
step_count false true true c b n k e up old says = absurd (up tt)
step_count false true false c b n k e up old says = absurd (up tt)
step_count false false true c b n k e up old says = absurd (true≢false e)
step_count true true false c b n k e up old says = absurd (false≢true e)
step_count true false false c b n k e up old says = absurd (false≢true e)

-- and its sizes
step_bound : (m u f : Bool) (c : ℤ) (b n k : ℕ) → b ≤ 1000000 → n ≤ 1000000 → c +ℤ pos b ≡ pos (cond m 0 n) → k ≡ cond m (cond u 0 n) 0 → nat_abs c + cond f k 0 ≤ 9223372036854775807
step_bound true true true c b n k hb hn old says = omega (arith, ints)
step_bound true true false c b n k hb hn old says = omega (arith, ints)
step_bound true false true c b n k hb hn old says = omega (arith, ints)
step_bound true false false c b n k hb hn old says = omega (arith, ints)
step_bound false true true c b n k hb hn old says = omega (arith, ints)
step_bound false true false c b n k hb hn old says = omega (arith, ints)
step_bound false false true c b n k hb hn old says = omega (arith, ints)
step_bound false false false c b n k hb hn old says = omega (arith, ints)

zero_count : (b : Bool) → pos 0 +ℤ pos 0 ≡ pos (cond b 0 0)
zero_count true = refl
zero_count false = refl

-- the first of the statements, if there is one, was not heard
abbrev pub Unheard : {A : Type 0} → (Statement A → Type 0) → List (Statement A) → Type 0
Unheard heard [] = Unit {0}
Unheard heard (s ∷ ss) = heard s → ⊥

-- each statement announces, between its edges, how many changes were recorded: N x at the time x
abbrev pub Says : {A : Type 0} → (A → A → Bool) → (A → ℕ) → List (Statement A) → Type 0
Says {A} below N ss = (s : Statement A) → In s ss → (x : A) → tally below s.counts x ≡ cond (beyond below s.lower x) (cond (beyond below s.upper x) 0 (N x)) 0

module _ {A : Type 0} (t : Time A) where
  -- the progress p stands at mid: it has heard all statements of the past, which lead there, and those of the future that it heard wait.
  -- N x changes were recorded at x, of which base x came and were counted
  pub record Placed (heard : Statement A → Type 0) (N base : A → ℕ) (top : List A) (past future : List (Statement A)) (mid : List A) (p : Progress A) : Type 0 where
    pub before : Chain t.below (t.start ∷ []) past mid
    pub after : Chain t.below mid future top
    pub at_mid : (z : A) → beyond t.below p.frontier z ≡ beyond t.below mid z
    pub apart : Antichain t.below p.frontier
    pub all_past : (s : Statement A) → In s past → heard s
    pub waits : (s : Statement A) → In s future → heard s → In s p.waiting
    pub only : (s : Statement A) → In s p.waiting → In s future × heard s
    pub clean : Clean t.below p.counts
    pub counted : (x : A) → count_at t.below p.counts x +ℤ pos (base x) ≡ pos (cond (beyond t.below mid x) 0 (N x))

  -- the progress p stands as far along the statements ss, which lead to top, as it has heard them without a gap
  pub record Place (heard : Statement A → Type 0) (N base : A → ℕ) (top : List A) (ss : List (Statement A)) (p : Progress A) : Type 0 where
    pub past : List (Statement A)
    pub future : List (Statement A)
    pub mid : List A
    pub split : past ++ future ≡ ss
    pub placed : Placed heard N base top past future mid p
    pub unheard : Unheard heard future

module _ {A : Type 0} (t : Time A) (order : Order t.below) (joins : Joins t.below t.joined) where
  abbrev below : A → A → Bool
  below = t.below

  abbrev joined : A → A → A
  joined = t.joined

  unheard_from : (heard : Statement A → Type 0) (future : List (Statement A)) → ((s : Statement A) (rest : List (Statement A)) → future ≡ s ∷ rest → heard s → ⊥) → Unheard heard future
  unheard_from heard [] g = tt
  unheard_from heard (s ∷ rest) g = g s rest refl

  unheard_more : (heard also : Statement A → Type 0) (future : List (Statement A)) → ((s : Statement A) (rest : List (Statement A)) → future ≡ s ∷ rest → also s → heard s) → Unheard heard future → Unheard also future
  unheard_more heard also [] g h = tt
  unheard_more heard also (s ∷ rest) g h = λ k. h (g s rest refl k)

  no_members : (W : List (Statement A)) (s : Statement A) → length W ≤ 0 → In s W → ⊥
  no_members [] s k h = in_none h
  no_members (w ∷ W) s k h = omega arith

  leq_same : (xs ys zs : List A) → ((z : A) → beyond below xs z ≡ beyond below ys z) → T (leq below zs xs) → T (leq below zs ys)
  leq_same xs ys zs e h = leq_from order zs ys (λ z k. leq_beyond order zs xs z h (T_back (beyond below xs z) (beyond below ys z) (e z) k))

  module _ (heard : Statement A → Type 0) (N base : A → ℕ) (top : List A) (ss : List (Statement A)) (small : (x : A) → N x ≤ 1000000) (less : (x : A) → base x ≤ 1000000) (says : Says below N ss) where
    -- the head of the future acts
    acts : (past rest : List (Statement A)) (mid : List A) (s : Statement A) (p : Progress A) (W : List (Statement A)) → past ++ s ∷ rest ≡ ss → heard s → Placed t heard N base top past (s ∷ rest) mid p → ((u : Statement A) → In u p.waiting → (u ≡ s) ⊎ In u W) → ((u : Statement A) → In u W → In u p.waiting) → Placed t heard N base top (past ++ s ∷ []) rest s.upper (act t s (with_waiting p W))
    acts past rest mid s p W split hears pl others back =
        let on : T (leq below mid s.upper) = pl.after.1 in
        let new = join below joined s.upper p.frontier in
        let same : (z : A) → beyond below new z ≡ beyond below s.upper z =
        λ z. beyond_join order joins s.upper p.frontier z ∙ ap (λ b. beyond below s.upper z && b) (pl.at_mid z) ∙
        iff_≡ (beyond below s.upper z && beyond below mid z) (beyond below s.upper z) (and_left (beyond below s.upper z) (beyond below mid z)) (λ h. and_intro (beyond below s.upper z) (beyond below mid z) h (leq_beyond order mid s.upper z on h)) in
        let reach : T (leq below s.upper new) = leq_from order s.upper new (λ z h. T_along (beyond below new z) (beyond below s.upper z) (same z) h) in
        let later : (u : Statement A) → In u rest → Link below s.upper top u = λ u h. chain_link order s.upper rest top u pl.after.3 h in
        let not-again : (u : Statement A) → In u rest → T (not (leq below u.upper new)) =
        λ u h. not_from (leq below u.upper new) (λ k. not_both (leq below u.upper u.lower) (later u h).strict (leq_from order u.upper u.lower (λ z j. leq_beyond order u.upper new z k (T_back (beyond below new z) (beyond below s.upper z) (same z) (leq_beyond order s.upper u.lower z (later u h).from j))))) in
        record {
          before = chain_append order (t.start ∷ []) past (s ∷ []) mid s.upper pl.before (pl.after.0, pl.after.1, pl.after.2, refl);
          after = pl.after.3;
          at_mid = same;
          apart = antichain_inserted_all order [] (pairwise joined s.upper p.frontier) (antichain_none order);
          all_past = λ u h. ⊎_elim (λ a. pl.all_past u a) (λ b. subst heard (sym (in_one b)) hears) (in_cases u past (s ∷ []) h);
          waits = λ u h k. in_kept (λ v. not (passed below new v)) W u (⊎_elim (λ e. absurd (not_both (leq below u.upper u.lower) (later u h).strict (subst (λ v. T (leq below v.upper u.lower)) (sym e) (later u h).from))) (λ w. w) (others u (pl.waits u (In.there h) k))) (not-again u h);
          only = λ u h.
              let k = kept_in (λ v. not (passed below new v)) W u h in
              let o = pl.only u (back u k.0) in
              (⊎_elim (λ e. absurd (not_both (leq below u.upper new) k.1 (subst (λ v. T (leq below v.upper new)) (sym e) reach))) (λ r. r) (in_more o.0), o.1);
          clean = clean_added_all order p.counts (counts_beyond below p.frontier s.counts) pl.clean;
          counted = λ x.
              let told = subst (λ l. tally below s.counts x ≡ cond (beyond below l x) (cond (beyond below s.upper x) 0 (N x)) 0) (sym pl.after.0) (says s (in_along split (in_right past In.here)) x) in
              let bound : (y : A) → nat_abs (count_at below p.counts y) + size_at below (counts_beyond below p.frontier s.counts) y ≤ 9223372036854775807 =
              λ y.
              let told-y = subst (λ l. tally below s.counts y ≡ cond (beyond below l y) (cond (beyond below s.upper y) 0 (N y)) 0) (sym pl.after.0) (says s (in_along split (in_right past In.here)) y) in
              subst (λ v. nat_abs (count_at below p.counts y) + v ≤ 9223372036854775807) (sym (size_beyond order p.frontier s.counts y))
              (step_bound (beyond below mid y) (beyond below s.upper y) (beyond below p.frontier y) (count_at below p.counts y) (base y) (N y) (tally below s.counts y) (less y) (small y) (pl.counted y) told-y) in
              ap (λ v. v +ℤ pos (base x)) (at_more order p.counts (counts_beyond below p.frontier s.counts) pl.clean bound x ∙ ap (λ v. count_at below p.counts x +ℤ v) (sum_beyond order p.frontier s.counts x)) ∙
              step_count (beyond below mid x) (beyond below s.upper x) (beyond below p.frontier x) (count_at below p.counts x) (base x) (N x) (tally below s.counts x) (pl.at_mid x) (leq_beyond order mid s.upper x on) (pl.counted x) told;
        }

    drains_on : (n : ℕ) (p : Progress A) (past future : List (Statement A)) (mid : List A) → past ++ future ≡ ss → Placed t heard N base top past future mid p → length p.waiting ≤ suc n →
        ((q : Progress A) (past' future' : List (Statement A)) (mid' : List A) → past' ++ future' ≡ ss → Placed t heard N base top past' future' mid' q → length q.waiting ≤ n → Place t heard N base top ss (drained t n q)) →
        (o : Option (Statement A × List (Statement A))) → View below p.frontier p.waiting o → Place t heard N base top ss (elim o [ None ↦ p | Some q ↦ drained t n (act t q.0 (with_waiting p q.1)) ])
    drains_on n p past future mid split pl short ih None (View.nobody g) =
        record {
          past = past;
          future = future;
          mid = mid;
          split = split;
          placed = pl;
          unheard = unheard_from heard future (λ s rest e k.
              let lower : mid ≡ s.lower = (subst (λ l. Chain below mid l top) e pl.after).0 in
              g s (pl.waits s (in_along (sym e) In.here) k) (subst (λ l. T (leq below l p.frontier)) lower (leq_same mid p.frontier mid (λ z. sym (pl.at_mid z)) (leq_refl order mid))));
        }
    drains_on n p past future mid split pl short ih (Some q) (View.found v) =
        let stands = pl.only q.0 v.stood in
        let low : T (leq below q.0.lower mid) = leq_same p.frontier mid q.0.lower pl.at_mid v.can_act in
        let head = chain_head order mid future top q.0 pl.after stands.0 low in
        let split' : past ++ q.0 ∷ head.0 ≡ ss = ap (λ l. past ++ l) (sym head.1) ∙ split in
        let acted = acts past head.0 mid q.0 p q.1 split' stands.1 (subst (λ l. Placed t heard N base top past l mid p) head.1 pl) v.others v.back in
        let fewer = v.fewer in
        let shorter = kept_length (λ v. not (passed below (join below joined q.0.upper p.frontier) v)) q.1 in
        ih (act t q.0 (with_waiting p q.1)) (past ++ q.0 ∷ []) head.0 q.0.upper (append_assoc past (q.0 ∷ []) head.0 ∙ split') acted (omega arith)

    drains : (n : ℕ) (p : Progress A) (past future : List (Statement A)) (mid : List A) → past ++ future ≡ ss → Placed t heard N base top past future mid p → length p.waiting ≤ n → Place t heard N base top ss (drained t n p)
    drains zero p past future mid split pl short =
        record {
          past = past;
          future = future;
          mid = mid;
          split = split;
          placed = pl;
          unheard = unheard_from heard future (λ s rest e k. no_members p.waiting s short (pl.waits s (in_along (sym e) In.here) k));
        }
    drains (suc n) p past future mid split pl short = drains_on n p past future mid split pl short (drains n) (first_ready below p.frontier p.waiting) (view below p.frontier p.waiting)

  module _ (heard also : Statement A → Type 0) (N base : A → ℕ) (top : List A) (ss : List (Statement A)) (small : (x : A) → N x ≤ 1000000) (less : (x : A) → base x ≤ 1000000) (says : Says below N ss) where
    -- a statement of the sender comes
    pub place_advanced : (s : Statement A) (p : Progress A) → In s ss → ((u : Statement A) → heard u → also u) → also s → ((u : Statement A) → also u → heard u ⊎ (u ≡ s)) → Place t heard N base top ss p → Place t also N base top ss (advanced t s p)
    place_advanced s p member mono now cases pc =
        let pl = pc.placed in
        let past = pc.past in
        let future = pc.future in
        let mid = pc.mid in
        let from-mid : (z : A) → beyond below mid z ≡ beyond below p.frontier z = λ z. sym (pl.at_mid z) in
        let where-is = in_cases s past future (in_along (sym pc.split) member) in
        let old : In s past → T (leq below s.upper p.frontier) = λ h. leq_same mid p.frontier s.upper from-mid (chain_link order (t.start ∷ []) past mid s pl.before h).to in
        cond_both (λ q. Place t also N base top ss q) (leq below s.upper p.frontier) p (cond (leq below s.lower p.frontier) (drained t (length p.waiting) (act t s p)) (with_waiting p (p.waiting ++ s ∷ [])))
        (λ passed.
        let gone : In s future → ⊥ = λ h.
        let l = chain_link order mid future top s pl.after h in
        not_both (leq below s.upper s.lower) l.strict (leq_trans order s.upper mid s.lower (leq_same p.frontier mid s.upper pl.at_mid passed) l.from) in
        record {
          past = past;
          future = future;
          mid = mid;
          split = pc.split;
          placed = record {
            before = pl.before;
            after = pl.after;
            at_mid = pl.at_mid;
            apart = pl.apart;
            all_past = λ u h. mono u (pl.all_past u h);
            waits = λ u h k. ⊎_elim (λ j. pl.waits u h j) (λ e. absurd (gone (in_same e h))) (cases u k);
            only = λ u h. ((pl.only u h).0, mono u (pl.only u h).1);
            clean = pl.clean;
            counted = pl.counted;
          };
          unheard = unheard_more heard also future (λ u rest e k. ⊎_elim (λ j. j) (λ i. absurd (gone (in_same i (in_along (sym e) In.here)))) (cases u k)) pc.unheard;
        })
        (λ ahead.
        let not-past : In s past → ⊥ = λ h. not_both (leq below s.upper p.frontier) ahead (old h) in
        let to-come : In s future = ⊎_elim (λ h. absurd (not-past h)) (λ h. h) where-is in
        cond_both (λ q. Place t also N base top ss q) (leq below s.lower p.frontier) (drained t (length p.waiting) (act t s p)) (with_waiting p (p.waiting ++ s ∷ []))
        (λ ready.
        let head = chain_head order mid future top s pl.after to-come (leq_same p.frontier mid s.lower pl.at_mid ready) in
        let split' : past ++ s ∷ head.0 ≡ ss = ap (λ l. past ++ l) (sym head.1) ∙ pc.split in
        let more : Placed t also N base top past (s ∷ head.0) mid (with_waiting p (s ∷ p.waiting)) =
        subst (λ l. Placed t also N base top past l mid (with_waiting p (s ∷ p.waiting))) head.1 (record {
          before = pl.before;
          after = pl.after;
          at_mid = pl.at_mid;
          apart = pl.apart;
          all_past = λ u h. mono u (pl.all_past u h);
          waits = λ u h k. ⊎_elim (λ j. In.there (pl.waits u h j)) (λ e. subst (λ v. In v (s ∷ p.waiting)) (sym e) In.here) (cases u k);
          only = λ u h. ⊎_elim (λ e. (in_same (sym e) to-come, subst also (sym e) now)) (λ j. ((pl.only u j).0, mono u (pl.only u j).1)) (in_more h);
          clean = pl.clean;
          counted = pl.counted;
        }) in
        let acted = acts also N base top ss small less says past head.0 mid s (with_waiting p (s ∷ p.waiting)) p.waiting split' now more (λ u h. in_more h) (λ u h. In.there h) in
        drains also N base top ss small less says (length p.waiting) (act t s p) (past ++ s ∷ []) head.0 s.upper (append_assoc past (s ∷ []) head.0 ∙ split') acted (kept_length (λ v. not (passed below (join below joined s.upper p.frontier) v)) p.waiting))
        (λ early. record {
          past = past;
          future = future;
          mid = mid;
          split = pc.split;
          placed = record {
            before = pl.before;
            after = pl.after;
            at_mid = pl.at_mid;
            apart = pl.apart;
            all_past = λ u h. mono u (pl.all_past u h);
            waits = λ u h k. ⊎_elim (λ j. in_left (s ∷ []) (pl.waits u h j)) (λ e. in_right p.waiting (subst (λ v. In v (s ∷ [])) (sym e) In.here)) (cases u k);
            only = λ u h. ⊎_elim (λ j. ((pl.only u j).0, mono u (pl.only u j).1)) (λ j. (in_same (sym (in_one j)) to-come, subst also (sym (in_one j)) now)) (in_cases u p.waiting (s ∷ []) h);
            clean = pl.clean;
            counted = pl.counted;
          };
          unheard = unheard_more heard also future (λ u rest e k. ⊎_elim (λ j. j) (λ i.
              let lower : mid ≡ u.lower = (subst (λ l. Chain below mid l top) e pl.after).0 in
              absurd (not_both (leq below s.lower p.frontier) early (subst (λ v. T (leq below v.lower p.frontier)) i (subst (λ l. T (leq below l p.frontier)) lower (leq_same mid p.frontier mid from-mid (leq_refl order mid)))))) (cases u k)) pc.unheard;
        }))

  -- the same place under other counts, other numbers and what was heard, said in other words
  pub place_as : (heard also : Statement A → Type 0) (N base N' base' : A → ℕ) (top : List A) (ss : List (Statement A)) (p : Progress A) (C : List (A × ℤ)) → ((u : Statement A) → heard u → also u) → ((u : Statement A) → also u → heard u) → Clean below C →
      ((mid : List A) → T (leq below mid top) → (x : A) → count_at below p.counts x +ℤ pos (base x) ≡ pos (cond (beyond below mid x) 0 (N x)) → count_at below C x +ℤ pos (base' x) ≡ pos (cond (beyond below mid x) 0 (N' x))) →
      Place t heard N base top ss p → Place t also N' base' top ss (record { frontier = p.frontier; counts = C; waiting = p.waiting })
  place_as heard also N base N' base' top ss p C to back clean counts pc =
      let pl = pc.placed in
      record {
        past = pc.past;
        future = pc.future;
        mid = pc.mid;
        split = pc.split;
        placed = record {
          before = pl.before;
          after = pl.after;
          at_mid = pl.at_mid;
          apart = pl.apart;
          all_past = λ u h. to u (pl.all_past u h);
          waits = λ u h k. pl.waits u h (back u k);
          only = λ u h. ((pl.only u h).0, to u (pl.only u h).1);
          clean = clean;
          counted = λ x. counts pc.mid (chain_leq order pc.mid pc.future top pl.after) x (pl.counted x);
        };
        unheard = unheard_more heard also pc.future (λ u rest e k. back u k) pc.unheard;
      }

  unheard_push : (heard : Statement A → Type 0) (future : List (Statement A)) (s : Statement A) → (heard s → ⊥) → Unheard heard future → Unheard heard (future ++ s ∷ [])
  unheard_push heard [] s g h = g
  unheard_push heard (u ∷ future) s g h = h

  -- the sender makes a statement
  pub place_moved : (heard : Statement A → Type 0) (N base : A → ℕ) (ss : List (Statement A)) (p : Progress A) (s : Statement A) → T (leq below s.lower s.upper) → T (not (leq below s.upper s.lower)) → (heard s → ⊥) → Place t heard N base s.lower ss p → Place t heard N base s.upper (ss ++ s ∷ []) p
  place_moved heard N base ss p s on strict new pc =
      let pl = pc.placed in
      record {
        past = pc.past;
        future = pc.future ++ s ∷ [];
        mid = pc.mid;
        split = sym (append_assoc pc.past pc.future (s ∷ [])) ∙ ap (λ l. l ++ s ∷ []) pc.split;
        placed = record {
          before = pl.before;
          after = chain_append order pc.mid pc.future (s ∷ []) s.lower s.upper pl.after (chain_one order s on strict);
          at_mid = pl.at_mid;
          apart = pl.apart;
          all_past = pl.all_past;
          waits = λ u h k. ⊎_elim (λ i. pl.waits u i k) (λ i. absurd (new (subst heard (in_one i) k))) (in_cases u pc.future (s ∷ []) h);
          only = λ u h. (in_left (s ∷ []) (pl.only u h).0, (pl.only u h).1);
          clean = pl.clean;
          counted = pl.counted;
        };
        unheard = unheard_push heard pc.future s new pc.unheard;
      }

  -- a progress frontier never retreats
  drained_onward_by : (n : ℕ) (p : Progress A) → ((q : Progress A) → T (leq below q.frontier (drained t n q).frontier)) → (o : Option (Statement A × List (Statement A))) → T (leq below p.frontier (elim o as (λ _. Progress A) [ None ↦ p | Some q ↦ drained t n (act t q.0 (with_waiting p q.1)) ]).frontier)
  drained_onward_by n p ih None = leq_refl order p.frontier
  drained_onward_by n p ih (Some q) =
      let a = act t q.0 (with_waiting p q.1) in
      leq_trans order p.frontier a.frontier (drained t n a).frontier (leq_join_right order joins q.0.upper p.frontier) (ih a)

  drained_onward : (n : ℕ) (p : Progress A) → T (leq below p.frontier (drained t n p).frontier)
  drained_onward zero p = leq_refl order p.frontier
  drained_onward (suc n) p = drained_onward_by n p (drained_onward n) (first_ready below p.frontier p.waiting)

  pub advanced_onward : (s : Statement A) (p : Progress A) → T (leq below p.frontier (advanced t s p).frontier)
  advanced_onward s p =
      let waited : Progress A = with_waiting p (p.waiting ++ s ∷ []) in
      let acted : Progress A = drained t (length p.waiting) (act t s p) in
      cond_both (λ q. T (leq below p.frontier q.frontier)) (leq below s.upper p.frontier) p (cond (leq below s.lower p.frontier) acted waited)
      (λ _. leq_refl order p.frontier)
      (λ _. cond_both (λ q. T (leq below p.frontier q.frontier)) (leq below s.lower p.frontier) acted waited
      (λ _. leq_trans order p.frontier (join below joined s.upper p.frontier) acted.frontier (leq_join_right order joins s.upper p.frontier) (drained_onward (length p.waiting) (act t s p)))
      (λ _. leq_refl order p.frontier))

  -- a fresh reader stands at the start
  pub place_begins : (heard : Statement A → Type 0) → Place t heard (λ x. 0) (λ x. 0) (t.start ∷ []) [] (fresh_progress t)
  place_begins heard =
      record {
        past = [];
        future = [];
        mid = t.start ∷ [];
        split = refl;
        placed = record {
          before = refl;
          after = refl;
          at_mid = λ z. refl;
          apart = antichain_one order t.start;
          all_past = λ s h. absurd (in_none h);
          waits = λ s h k. absurd (in_none h);
          only = λ s h. absurd (in_none h);
          clean = tt;
          counted = λ x. zero_count (beyond below (t.start ∷ []) x);
        };
        unheard = tt;
      }

  pub place_behind : (heard : Statement A → Type 0) (N base : A → ℕ) (top : List A) (ss : List (Statement A)) (p : Progress A) → Place t heard N base top ss p → T (leq below p.frontier top)
  place_behind heard N base top ss p pc =
      leq_from order p.frontier top (λ z h. T_back (beyond below p.frontier z) (beyond below pc.mid z) (pc.placed.at_mid z) (leq_beyond order pc.mid top z (chain_leq order pc.mid pc.future top pc.placed.after) h))

  pub same_behind : (N N' : A → ℕ) (top : List A) → ((x : A) → T (not (beyond below top x)) → N' x ≡ N x) → (mid : List A) → T (leq below mid top) → (x : A) → cond (beyond below mid x) 0 (N x) ≡ cond (beyond below mid x) 0 (N' x)
  same_behind N N' top same mid on x =
      by_cases (beyond below mid x)
      (λ h. cond_true (beyond below mid x) 0 (N x) h ∙ sym (cond_true (beyond below mid x) 0 (N' x) h))
      (λ h. ap (λ n. cond (beyond below mid x) 0 n) (sym (same x (not_from (beyond below top x) (λ b. not_both (beyond below mid x) h (leq_beyond order mid top x on b))))))

  -- the past is as long as what was heard reaches
  pub same_past : (heard also : Statement A → Type 0) → ((u : Statement A) → heard u → also u) → ((u : Statement A) → also u → heard u) → (past future past' future' : List (Statement A)) → past ++ future ≡ past' ++ future' → ((u : Statement A) → In u past → heard u) → ((u : Statement A) → In u past' → also u) → Unheard heard future → Unheard also future' → past ≡ past'
  same_past heard also to back [] future [] future' e all all' un un' = refl
  same_past heard also to back [] [] (s ∷ past') future' e all all' un un' = let z : ◌≡◌ {A = ℕ} 0 1 = cc in absurd (omega arith)
  same_past heard also to back [] (u ∷ future) (s ∷ past') future' e all all' un un' = let h : u ≡ s = cc in absurd (un (subst heard (sym h) (back s (all' s In.here))))
  same_past heard also to back (s ∷ past) future [] [] e all all' un un' = let z : ◌≡◌ {A = ℕ} 0 1 = cc in absurd (omega arith)
  same_past heard also to back (s ∷ past) future [] (u ∷ future') e all all' un un' = let h : u ≡ s = cc in absurd (un' (subst also (sym h) (to s (all s In.here))))
  same_past heard also to back (s ∷ past) future (u ∷ past') future' e all all' un un' =
      let h : s ≡ u = cc in
      let e' : past ++ future ≡ past' ++ future' = cc in
      let rest = same_past heard also to back past future past' future' e' (λ v i. all v (In.there i)) (λ v i. all' v (In.there i)) un un' in
      cc
