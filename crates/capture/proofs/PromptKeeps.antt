-- The prompt reader keeps its invariant over its calls.
use Rattle.std.proofs.Common.{◌≡◌, ℕ, ◌+◌, ◌≤◌, Bool, true, false, cond, not, ◌&&◌, ◌||◌, T, List, [], ◌∷◌, ◌++◌, set, ℤ, pos, ◌+ℤ◌, nat_abs, sym, refl, ap, ◌∙◌, subst, append-nil, arith}
use borrow.Author.Differences.{ints}
use Rattle.std.proofs.lemmas.Bool.{true≢false}
use Rattle.lattice.proofs.Tests.{T_along, T_back, and_intro, and_left, by_cases, not_both, not_from}
use Rattle.lattice.specs.Orders.{Joins, Order}
use Rattle.frontier.proofs.Antichains.{antichain_inserted_all}
use Rattle.frontier.proofs.Beyond.{leq_from, leq_refl}
use Rattle.frontier.specs.Counts.{added_all, positives}
use Rattle.frontier.specs.Frontiers.{Antichain, beyond, leq}
use Rattle.capture.specs.Answers.{Answer, brings, is_accepted, only_tables}
use Rattle.capture.specs.Kinds.{Kinds, Time}
use Rattle.capture.specs.Messages.{Change, Message, Statement, changes, fresh, has, statement, those_beyond}
use Rattle.capture.specs.Prompt.{Prompt, brought_in, heed, note, note_asks, settle, settle_asks, shipped, sift, sift_asks}
use Rattle.capture.specs.Runs.{In}
use Rattle.capture.specs.Sender.{count_at, told}
use Rattle.capture.specs.Statements.{advanced, lower_edge, lowered}
use Rattle.capture.proofs.Answering.{answer_cases}
use Rattle.capture.proofs.Changes.{fresh_beyond, fresh_from, fresh_in, fresh_not_in, fresh_once, has_append, has_append_left, has_append_right, has_fresh, has_kept, many_at, many_at_append, size_at_lowered, sum_at_lowered}
use Rattle.capture.proofs.Counts.{Clean, clean_added_all, size_at, size_at_clean, sum_at, sum_at_clean}
use Rattle.capture.proofs.Edges.{Open, edge_open, open_back, open_edge}
use Rattle.capture.proofs.HeldKeeps.{lower_step}
use Rattle.capture.proofs.Laws.{Lawful}
use Rattle.capture.proofs.Lists.{in_left, in_right}
use Rattle.capture.proofs.Places.{Place, advanced_onward, place_advanced, place_as}
use Rattle.capture.proofs.Received.{Known, Told, Valid, covered, got_small, heard_changes, heard_in, heard_statement, known_changes, known_statement}
use Rattle.capture.proofs.Tallies.{at_more}

owed_bound : (c : ℤ) (b g k : ℕ) → g ≤ 1000000 → b ≤ g → k ≤ 1000000 → c +ℤ pos g ≡ pos b → nat_abs c + k ≤ 9223372036854775807
owed_bound c b g k hg hb hk e = omega (arith, ints)

settle_bound : (m : Bool) (c w : ℤ) (b g n s : ℕ) → g ≤ 1000000 → b ≤ g → n ≤ 1000000 → c +ℤ pos b ≡ pos (cond m 0 n) → w +ℤ pos g ≡ pos b → s ≡ nat_abs w → nat_abs c + s ≤ 9223372036854775807
settle_bound true c w b g n s hg hb hn e f h = omega (arith, ints)
settle_bound false c w b g n s hg hb hn e f h = omega (arith, ints)

settle_step : (c w s z v : ℤ) (b g : ℕ) → z ≡ c +ℤ s → s ≡ w → w +ℤ pos g ≡ pos b → c +ℤ pos b ≡ v → z +ℤ pos g ≡ v
settle_step c w s z v b g p q e f = omega (arith, ints)

no_debt : (b g : ℕ) → pos 0 +ℤ pos g ≡ pos b → b ≡ g
no_debt b g e = omega (arith, ints)

and_true : (b : Bool) → b ≡ (b && true)
and_true true = refl
and_true false = refl

kept_out : (p q : Bool) → p ≡ false → q ≡ false → (p || q) ≡ (q && false)
kept_out true q e f = absurd (true≢false e)
kept_out false true e f = absurd (true≢false f)
kept_out false false e f = refl

kept_none : (p q : Bool) → p ≡ false → q ≡ false → (p || q) ≡ false
kept_none p q e f = ap (λ v. v || q) e ∙ f

kept_more : (o b p q h : Bool) → p ≡ (o && b) → q ≡ (h && (b && not p)) → (p || q) ≡ ((o || q) && b)
kept_more true true p q h e f = ap (λ v. v || q) e
kept_more true false p q true e f = kept_none p q e f
kept_more true false p q false e f = kept_none p q e f
kept_more false true p q h e f = ap (λ v. v || q) e ∙ and_true q
kept_more false false p q true e f = kept_out p q e f
kept_more false false p q false e f = kept_out p q e f

heed_kept : (o b c p : Bool) → (T c → T b) → p ≡ (o && b) → (p && c) ≡ (o && c)
heed_kept true true true p k e = ap (λ v. v && true) e
heed_kept true true false p k e = ap (λ v. v && false) e
heed_kept true false true p k e = absurd (k tt)
heed_kept true false false p k e = ap (λ v. v && false) e
heed_kept false b c p k e = ap (λ v. v && c) e

module _ {D A R : Type 0} (K : Kinds D A R) where
  -- a prompt reader that accepted ms and shipped out; set says whether it is settled; rec was recorded, and ss was stated and leads to top
  pub record PromptFine (rec : List (Change D A R)) (ss : List (Statement A)) (top : List A) (ms : List (Message D A R)) (out : List (Change D A R)) (set : Bool) (h : Prompt D A R) : Type 0 where
    -- how many changes were counted at each time by the last settle
    pub base : A → ℕ
    pub place : Place K.time (heard_in ms) (λ x. many_at K.time.below x rec) base top ss h.progress
    pub owed : (x : A) → count_at K.time.below h.waiting_counts x +ℤ pos (many_at K.time.below x out) ≡ pos (base x)
    pub counted_in : (x : A) → base x ≤ many_at K.time.below x out
    pub clean : Clean K.time.below h.waiting_counts
    pub known : Known K rec ss ms out
    pub kept : (c : Change D A R) → has K h.pending c ≡ (has K out c && beyond K.time.below h.heeded c.time)
    pub apart : Antichain K.time.below h.reported
    pub on : (z : A) → Open K rec out h.progress.frontier z → T (beyond K.time.below h.reported z)
    pub after : (z : A) → T (beyond K.time.below h.reported z) → T (beyond K.time.below h.heeded z)
    pub rest : T set → (h.waiting_counts ≡ []) × ((z : A) → T (beyond K.time.below h.reported z) → T (beyond K.time.below (lower_edge K.time h.progress) z))

module _ {D A R : Type 0} {K : Kinds D A R} (ok : Lawful K) where
  abbrev t : Time A
  t = K.time

  abbrev below : A → A → Bool
  below = t.below

  order : Order below
  order = ok.order

  joins : Joins below t.joined
  joins = ok.joins

  module _ (rec : List (Change D A R)) (ss : List (Statement A)) (top : List A) (told : Told K rec ss) where
    sifts_by : (ms : List (Message D A R)) (out : List (Change D A R)) (set : Bool) (cs : List (Change D A R)) (h : Prompt D A R) → Valid K rec ss (changes cs) → PromptFine K rec ss top ms out set h →
        PromptFine K rec ss top (ms ++ changes cs ∷ []) (out ++ fresh K h.heeded h.pending cs) false (record { progress = h.progress; reported = h.reported; heeded = h.heeded; pending = h.pending ++ fresh K h.heeded h.pending cs; waiting_counts = added_all below h.waiting_counts (lowered (fresh K h.heeded h.pending cs)) })
    sifts_by ms out set cs h valid f =
        let new = fresh K h.heeded h.pending cs in
        let ms' = ms ++ changes cs ∷ [] in
        let pend : (c : Change D A R) → T (has K out c) → T (beyond below h.heeded c.time) → T (has K h.pending c) =
        λ c a b. T_back (has K h.pending c) (has K out c && beyond below h.heeded c.time) (f.kept c) (and_intro (has K out c) (beyond below h.heeded c.time) a b) in
        let apart_from : (c : Change D A R) → T (has K new c) → T (not (has K out c)) =
        λ c k. not_from (has K out c) (λ g. not_both (has K h.pending c) (fresh_not_in ok h.heeded h.pending cs c k) (pend c g (fresh_beyond ok h.heeded h.pending cs c k))) in
        let all : (c : Change D A R) → T (has K cs c) → T (has K (out ++ new) c) =
        λ c k. by_cases (has K out c)
        (λ g. has_append_left ok out new c g)
        (λ n. by_cases (beyond below h.heeded c.time)
        (λ b. has_append_right ok out new c (fresh_from ok h.heeded h.pending cs c k b (not_from (has K h.pending c) (λ u. not_both (has K out c) n (and_left (has K out c) (beyond below h.heeded c.time) (T_along (has K h.pending c) (has K out c && beyond below h.heeded c.time) (f.kept c) u))))))
        (λ b. has_append_left ok out new c (covered ok rec out h.progress.frontier h.reported f.on c (valid c k) (not_from (beyond below h.reported c.time) (λ e. not_both (beyond below h.heeded c.time) b (f.after c.time e)))))) in
        let known' = known_changes ok rec ss ms out cs new f.known (fresh_once ok h.heeded h.pending cs) apart_from (fresh_in ok h.heeded h.pending cs) valid all in
        let many : (x : A) → many_at below x (out ++ new) ≡ many_at below x out + many_at below x new = λ x. many_at_append ok x out new in
        let bound : (y : A) → nat_abs (count_at below h.waiting_counts y) + size_at below (lowered new) y ≤ 9223372036854775807 =
        λ y.
        let e = many y in
        let s = got_small ok rec ss ms' (out ++ new) told known' y in
        subst (λ v. nat_abs (count_at below h.waiting_counts y) + v ≤ 9223372036854775807) (sym (size_at_lowered ok new y))
        (owed_bound (count_at below h.waiting_counts y) (f.base y) (many_at below y out) (many_at below y new) (got_small ok rec ss ms out told f.known y) (f.counted_in y) (omega arith) (f.owed y)) in
        record {
          base = f.base;
          place = place_as t order joins (heard_in ms) (heard_in ms') (λ x. many_at below x rec) f.base (λ x. many_at below x rec) f.base top ss h.progress h.progress.counts (λ u k. in_left (changes cs ∷ []) k) (λ u k. heard_changes ok ms cs u k) f.place.placed.clean (λ mid on x e. e) f.place;
          owed = λ x. lower_step (count_at below h.waiting_counts x) (sum_at below (lowered new) x) (count_at below (added_all below h.waiting_counts (lowered new)) x) (pos (f.base x)) (many_at below x out) (many_at below x new) (many_at below x (out ++ new)) (at_more order h.waiting_counts (lowered new) f.clean bound x) (sum_at_lowered ok new x) (many x) (f.owed x);
          counted_in = λ x. let e = many x in let w = f.counted_in x in omega arith;
          clean = clean_added_all order h.waiting_counts (lowered new) f.clean;
          known = known';
          kept = λ c.
              has_append ok h.pending new c ∙
              kept_more (has K out c) (beyond below h.heeded c.time) (has K h.pending c) (has K new c) (has K cs c) (f.kept c) (has_fresh ok h.heeded h.pending cs c) ∙
              ap (λ v. v && beyond below h.heeded c.time) (sym (has_append ok out new c));
          apart = f.apart;
          on = λ z o. f.on z (open_back ok rec out (out ++ new) h.progress.frontier h.progress.frontier (λ c k. has_append_left ok out new c k) (leq_refl order h.progress.frontier) z o);
          after = f.after;
          rest = λ s. absurd s;
        }

    notes_by : (ms : List (Message D A R)) (out : List (Change D A R)) (set : Bool) (s : Statement A) (h : Prompt D A R) → In s ss → PromptFine K rec ss top ms out set h →
        PromptFine K rec ss top (ms ++ statement s ∷ []) out false (record { progress = advanced t s h.progress; reported = h.reported; heeded = h.heeded; pending = h.pending; waiting_counts = h.waiting_counts })
    notes_by ms out set s h i f =
        record {
          base = f.base;
          place = place_advanced t order joins (heard_in ms) (heard_in (ms ++ statement s ∷ [])) (λ x. many_at below x rec) f.base top ss told.small (λ x. let a = f.counted_in x in let b = got_small ok rec ss ms out told f.known x in omega arith) told.says s h.progress i
              (λ u k. in_left (statement s ∷ []) k) (in_right ms In.here) (λ u k. heard_statement ok ms s u k) f.place;
          owed = f.owed;
          counted_in = f.counted_in;
          clean = f.clean;
          known = known_statement ok rec ss ms out s f.known i;
          kept = f.kept;
          apart = f.apart;
          on = λ z o. f.on z (open_back ok rec out out h.progress.frontier (advanced t s h.progress).frontier (λ c k. k) (advanced_onward t order joins s h.progress) z o);
          after = f.after;
          rest = λ k. absurd k;
        }

    -- the sum of the two counts stands at the same place, with everything brought in
    place_settled : (ms : List (Message D A R)) (out : List (Change D A R)) (set : Bool) (h : Prompt D A R) → PromptFine K rec ss top ms out set h → Place t (heard_in ms) (λ x. many_at below x rec) (λ x. many_at below x out) top ss (brought_in K h)
    place_settled ms out set h f =
        let bound : (y : A) → nat_abs (count_at below h.progress.counts y) + size_at below h.waiting_counts y ≤ 9223372036854775807 =
        λ y. settle_bound (beyond below f.place.mid y) (count_at below h.progress.counts y) (count_at below h.waiting_counts y) (f.base y) (many_at below y out) (many_at below y rec) (size_at below h.waiting_counts y) (got_small ok rec ss ms out told f.known y) (f.counted_in y) (told.small y) (f.place.placed.counted y) (f.owed y) (size_at_clean order h.waiting_counts y f.clean) in
        place_as t order joins (heard_in ms) (heard_in ms) (λ x. many_at below x rec) f.base (λ x. many_at below x rec) (λ x. many_at below x out) top ss h.progress (added_all below h.progress.counts h.waiting_counts) (λ u k. k) (λ u k. k) (clean_added_all order h.progress.counts h.waiting_counts f.place.placed.clean)
        (λ mid on x e. settle_step (count_at below h.progress.counts x) (count_at below h.waiting_counts x) (sum_at below h.waiting_counts x) (count_at below (added_all below h.progress.counts h.waiting_counts) x) (pos (cond (beyond below mid x) 0 (many_at below x rec))) (f.base x) (many_at below x out) (at_more order h.progress.counts h.waiting_counts f.place.placed.clean bound x) (sum_at_clean order h.waiting_counts x f.clean) (f.owed x) e)
        f.place

    settled_on : (ms : List (Message D A R)) (out : List (Change D A R)) (set : Bool) (h : Prompt D A R) → PromptFine K rec ss top ms out set h → (z : A) → T (beyond below (lower_edge t (brought_in K h)) z) → T (beyond below h.reported z)
    settled_on ms out set h f z b = f.on z (edge_open ok (heard_in ms) (λ x. many_at below x out) top ss (brought_in K h) rec out (place_settled ms out set h f) (λ x. refl) told.once z b)

    settles_by : (ms : List (Message D A R)) (out : List (Change D A R)) (set : Bool) (h : Prompt D A R) → PromptFine K rec ss top ms out set h →
        PromptFine K rec ss top ms out true (record { progress = brought_in K h; reported = lower_edge t (brought_in K h); heeded = h.heeded; pending = h.pending; waiting_counts = [] })
    settles_by ms out set h f =
        let pc = place_settled ms out set h f in
        record {
          base = λ x. many_at below x out;
          place = pc;
          owed = λ x. omega (arith, ints);
          counted_in = λ x. omega arith;
          clean = tt;
          known = f.known;
          kept = f.kept;
          apart = antichain_inserted_all order h.progress.frontier (positives (brought_in K h).counts) f.place.placed.apart;
          on = λ z o. open_edge ok (heard_in ms) (λ x. many_at below x out) top ss (brought_in K h) rec out pc (λ x. refl) f.known.once f.known.from z o;
          after = λ z b. f.after z (settled_on ms out set h f z b);
          rest = λ _. (refl, λ z b. b);
        }

    pub prompt_sifts : (tables : Bool) (ms : List (Message D A R)) (out : List (Change D A R)) (set : Bool) (cs : List (Change D A R)) (h : Prompt D A R) → Valid K rec ss (changes cs) → PromptFine K rec ss top ms out set h →
        PromptFine K rec ss top (ms ++ brings (sift K tables cs h).0 (λ _. changes cs ∷ [])) (out ++ brings (sift K tables cs h).0 (λ new. new)) (cond (is_accepted (sift K tables cs h).0) false set) (sift K tables cs h).1
    prompt_sifts tables ms out set cs h v f =
        answer_cases (λ a. PromptFine K rec ss top (ms ++ brings a.0 (λ _. changes cs ∷ [])) (out ++ brings a.0 (λ new. new)) (cond (is_accepted a.0) false set) a.1) (sift_asks K tables cs h) h
        (shipped K cs h, record { progress = h.progress; reported = h.reported; heeded = h.heeded; pending = h.pending ++ shipped K cs h; waiting_counts = added_all below h.waiting_counts (lowered (shipped K cs h)) })
        (λ n. subst (λ l. PromptFine K rec ss top l (out ++ []) set h) (sym (append-nil ms)) (subst (λ l. PromptFine K rec ss top ms l set h) (sym (append-nil out)) f))
        (λ _. sifts_by ms out set cs h v f)

    pub prompt_notes : (tables : Bool) (ms : List (Message D A R)) (out : List (Change D A R)) (set : Bool) (s : Statement A) (h : Prompt D A R) → In s ss → PromptFine K rec ss top ms out set h →
        PromptFine K rec ss top (ms ++ brings (note K tables s h).0 (λ _. statement s ∷ [])) out (cond (is_accepted (note K tables s h).0) false set) (note K tables s h).1
    prompt_notes tables ms out set s h i f =
        answer_cases (λ a. PromptFine K rec ss top (ms ++ brings a.0 (λ _. statement s ∷ [])) out (cond (is_accepted a.0) false set) a.1) (note_asks K tables s h) h
        (tt, record { progress = advanced t s h.progress; reported = h.reported; heeded = h.heeded; pending = h.pending; waiting_counts = h.waiting_counts })
        (λ n. subst (λ l. PromptFine K rec ss top l out set h) (sym (append-nil ms)) f)
        (λ _. notes_by ms out set s h i f)

    -- what is said of a reader that settled
    record SettleFine (ms : List (Message D A R)) (out : List (Change D A R)) (set : Bool) (h : Prompt D A R) (a : Answer (List A) × Prompt D A R) : Type 0 where
      fine : PromptFine K rec ss top ms out (cond (is_accepted a.0) true set) a.1
      onward : T (leq below h.reported a.1.reported)

    settled_after : (tables : Bool) (ms : List (Message D A R)) (out : List (Change D A R)) (set : Bool) (h : Prompt D A R) → PromptFine K rec ss top ms out set h → SettleFine ms out set h (settle K tables h)
    settled_after tables ms out set h f =
        let edge = lower_edge t (brought_in K h) in
        answer_cases (λ a. SettleFine ms out set h a) (settle_asks K tables h) h (edge, record { progress = brought_in K h; reported = edge; heeded = h.heeded; pending = h.pending; waiting_counts = [] })
        (λ n. record { fine = f; onward = leq_refl order h.reported })
        (λ _. record { fine = settles_by ms out set h f; onward = leq_from order h.reported edge (λ z b. settled_on ms out set h f z b) })

    pub prompt_settles : (tables : Bool) (ms : List (Message D A R)) (out : List (Change D A R)) (set : Bool) (h : Prompt D A R) → PromptFine K rec ss top ms out set h → PromptFine K rec ss top ms out (cond (is_accepted (settle K tables h).0) true set) (settle K tables h).1
    prompt_settles tables ms out set h f = (settled_after tables ms out set h f).fine

    pub settle_onward : (tables : Bool) (ms : List (Message D A R)) (out : List (Change D A R)) (set : Bool) (h : Prompt D A R) → PromptFine K rec ss top ms out set h → T (leq below h.reported (settle K tables h).1.reported)
    settle_onward tables ms out set h f = (settled_after tables ms out set h f).onward

    heeds_by : (ms : List (Message D A R)) (out : List (Change D A R)) (set : Bool) (h : Prompt D A R) → PromptFine K rec ss top ms out set h →
        PromptFine K rec ss top ms out set (record { progress = h.progress; reported = h.reported; heeded = h.reported; pending = those_beyond below h.reported h.pending; waiting_counts = h.waiting_counts })
    heeds_by ms out set h f =
        record {
          base = f.base;
          place = f.place;
          owed = f.owed;
          counted_in = f.counted_in;
          clean = f.clean;
          known = f.known;
          kept = λ c. has_kept ok (λ u. beyond below h.reported u.time) h.pending c ∙ heed_kept (has K out c) (beyond below h.heeded c.time) (beyond below h.reported c.time) (has K h.pending c) (f.after c.time) (f.kept c);
          apart = f.apart;
          on = f.on;
          after = λ z b. b;
          rest = f.rest;
        }

    pub prompt_heeds : (tables : Bool) (ms : List (Message D A R)) (out : List (Change D A R)) (set : Bool) (h : Prompt D A R) → PromptFine K rec ss top ms out set h → PromptFine K rec ss top ms out set (heed K tables h).1
    prompt_heeds tables ms out set h f =
        answer_cases (λ a. PromptFine K rec ss top ms out set a.1) (only_tables tables) h
        (tt, record { progress = h.progress; reported = h.reported; heeded = h.reported; pending = those_beyond below h.reported h.pending; waiting_counts = h.waiting_counts })
        (λ n. f) (λ _. heeds_by ms out set h f)

  -- what a settled reader owes
  pub settled_edge : (rec : List (Change D A R)) (ss : List (Statement A)) (top : List A) (told : Told K rec ss) (ms : List (Message D A R)) (out : List (Change D A R)) (set : Bool) (h : Prompt D A R) → PromptFine K rec ss top ms out set h → T set → (z : A) → T (beyond below h.reported z) → Open K rec out h.progress.frontier z
  settled_edge rec ss top told ms out set h f s z b =
      edge_open ok (heard_in ms) f.base top ss h.progress rec out f.place
      (λ x. no_debt (f.base x) (many_at below x out) (subst (λ l. count_at below l x +ℤ pos (many_at below x out) ≡ pos (f.base x)) (f.rest s).0 (f.owed x)))
      told.once z ((f.rest s).1 z b)

  -- only settle moves the reported frontier
  pub sift_still : (tables : Bool) (cs : List (Change D A R)) (h : Prompt D A R) → (sift K tables cs h).1.reported ≡ h.reported
  sift_still tables cs h =
      answer_cases (λ a. a.1.reported ≡ h.reported) (sift_asks K tables cs h) h
      (shipped K cs h, record { progress = h.progress; reported = h.reported; heeded = h.heeded; pending = h.pending ++ shipped K cs h; waiting_counts = added_all below h.waiting_counts (lowered (shipped K cs h)) })
      (λ n. refl) (λ _. refl)

  pub note_still : (tables : Bool) (s : Statement A) (h : Prompt D A R) → (note K tables s h).1.reported ≡ h.reported
  note_still tables s h =
      answer_cases (λ a. a.1.reported ≡ h.reported) (note_asks K tables s h) h
      (tt, record { progress = advanced t s h.progress; reported = h.reported; heeded = h.heeded; pending = h.pending; waiting_counts = h.waiting_counts })
      (λ n. refl) (λ _. refl)

  pub heed_still : (tables : Bool) (h : Prompt D A R) → (heed K tables h).1.reported ≡ h.reported
  heed_still tables h =
      answer_cases (λ a. a.1.reported ≡ h.reported) (only_tables tables) h
      (tt, record { progress = h.progress; reported = h.reported; heeded = h.reported; pending = those_beyond below h.reported h.pending; waiting_counts = h.waiting_counts })
      (λ n. refl) (λ _. refl)
