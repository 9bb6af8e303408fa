-- The held reader keeps its invariant over a feed.
use Rattle.std.proofs.Common.{◌≡◌, ℕ, ◌+◌, ◌≤◌, Bool, true, false, cond, not, ◌&&◌, ◌||◌, T, List, [], ◌∷◌, ◌++◌, ℤ, pos, ◌+ℤ◌, neg_ℤ, nat_abs, Some, None, Option, sym, refl, ap, ◌∙◌, subst, ⊎_elim, append_assoc, append-nil, arith}
use borrow.Author.Differences.{ints}
use Rattle.lattice.proofs.Tests.{T_along, T_back, and_right, by_cases, cond_both, not_both, not_from}
use Rattle.lattice.specs.Orders.{Joins, Order}
use Rattle.frontier.proofs.Antichains.{antichain_inserted_all, equal_beyond}
use Rattle.frontier.proofs.Beyond.{leq_from, leq_refl}
use Rattle.frontier.specs.Counts.{added_all, positives}
use Rattle.frontier.specs.Frontiers.{Antichain, beyond, equal, leq}
use Rattle.capture.specs.Answers.{Answer, accepted, brings}
use Rattle.capture.specs.Held.{Held, feed, feed_asks, published, taken_in}
use Rattle.capture.specs.Kinds.{Kinds, Time}
use Rattle.capture.specs.Law.{how_often, interval_changes}
use Rattle.capture.specs.Messages.{Change, Message, Statement, changes, fresh, has, statement, those_behind, those_beyond}
use Rattle.capture.specs.Runs.{In}
use Rattle.capture.specs.Sender.{count_at}
use Rattle.capture.specs.Statements.{advanced, lower_edge, lowered}
use Rattle.capture.proofs.Answering.{answer_cases}
use Rattle.capture.proofs.Changes.{fresh_beyond, fresh_from, fresh_in, fresh_not_in, fresh_once, has_append, has_append_cases, has_append_left, has_append_right, has_kept, how_often_append, how_often_kept, many_at, many_at_append, many_at_kept, size_at_lowered, sum_at_lowered}
use Rattle.capture.proofs.Counts.{clean_added_all, size_at, sum_at}
use Rattle.capture.proofs.Edges.{Open, edge_open, open_back, open_edge}
use Rattle.capture.proofs.Laws.{Lawful}
use Rattle.capture.proofs.Lists.{in_left, in_right}
use Rattle.capture.proofs.Places.{Place, advanced_onward, place_advanced, place_as}
use Rattle.capture.proofs.Received.{Known, Told, Valid, covered, got_small, heard_changes, heard_in, heard_statement, known_changes, known_same, known_statement}
use Rattle.capture.proofs.Tallies.{at_more}

pub lower_step : (c v z w : ℤ) (g m g' : ℕ) → z ≡ c +ℤ v → v ≡ neg_ℤ (pos m) → g' ≡ g + m → c +ℤ pos g ≡ w → z +ℤ pos g' ≡ w
lower_step c v z w g m g' a b e h = omega (arith, ints)

pub lower_bound : (m : Bool) (c : ℤ) (b n k : ℕ) → b ≤ 1000000 → n ≤ 1000000 → k ≤ 1000000 → c +ℤ pos b ≡ pos (cond m 0 n) → nat_abs c + k ≤ 9223372036854775807
lower_bound true c b n k hb hn hk e = omega (arith, ints)
lower_bound false c b n k hb hn hk e = omega (arith, ints)

split_sum : (b : Bool) (o n g h : ℕ) → g ≡ cond (not b) n 0 → h ≡ cond b n 0 → (o + g) + h ≡ o + n
split_sum true o n g h p q = omega arith
split_sum false o n g h p q = omega arith

split_or : (b o u v w : Bool) → v ≡ (u && not b) → w ≡ (u && b) → ((o || v) || w) ≡ (o || u)
split_or true true u v w p q = refl
split_or false true u v w p q = refl
split_or true false true v w p q = ap (λ x. x || w) p ∙ q
split_or true false false v w p q = ap (λ x. x || w) p ∙ q
split_or false false true v w p q = ap (λ x. x || w) p
split_or false false false v w p q = ap (λ x. x || w) p ∙ q

module _ {D A R : Type 0} (K : Kinds D A R) where
  -- a held reader that accepted ms and published out, before it publishes more; rec was recorded, and ss was stated and leads to top
  pub record HeldMid (rec : List (Change D A R)) (ss : List (Statement A)) (top : List A) (ms : List (Message D A R)) (out : List (Change D A R)) (h : Held D A R) : Type 0 where
    pub place : Place K.time (heard_in ms) (λ x. many_at K.time.below x rec) (λ x. many_at K.time.below x (out ++ h.updates)) top ss h.progress
    pub known : Known K rec ss ms (out ++ h.updates)
    pub apart : Antichain K.time.below h.reported
    pub behind : (c : Change D A R) → T (has K out c) → T (not (beyond K.time.below h.reported c.time))
    pub ahead : (c : Change D A R) → T (has K h.updates c) → T (beyond K.time.below h.reported c.time)
    pub on : (z : A) → Open K rec (out ++ h.updates) h.progress.frontier z → T (beyond K.time.below h.reported z)

  -- the same between calls: what it reported is the lower edge
  pub record HeldFine (rec : List (Change D A R)) (ss : List (Statement A)) (top : List A) (ms : List (Message D A R)) (out : List (Change D A R)) (h : Held D A R) : Type 0 where
    pub mid : HeldMid rec ss top ms out h
    pub level : (z : A) → T (beyond K.time.below h.reported z) → T (beyond K.time.below (lower_edge K.time h.progress) z)

module _ {D A R : Type 0} {K : Kinds D A R} (ok : Lawful K) where
  abbrev t : Time A
  t = K.time

  abbrev below : A → A → Bool
  below = t.below

  order : Order below
  order = ok.order

  joins : Joins below t.joined
  joins = ok.joins

  module _ (rec : List (Change D A R)) (ss : List (Statement A)) (top : List A) (told : Told K rec ss) where
    takes_changes : (ms : List (Message D A R)) (out : List (Change D A R)) (h : Held D A R) (cs : List (Change D A R)) → Valid K rec ss (changes cs) → HeldMid K rec ss top ms out h → HeldMid K rec ss top (ms ++ changes cs ∷ []) out (taken_in K (changes cs) h)
    takes_changes ms out h cs valid m =
        let new = fresh K h.reported h.updates cs in
        let got = out ++ h.updates in
        let got' = out ++ (h.updates ++ new) in
        let regroup : (out ++ h.updates) ++ new ≡ out ++ (h.updates ++ new) = append_assoc out h.updates new in
        let apart_from : (c : Change D A R) → T (has K new c) → T (not (has K got c)) =
        λ c k. not_from (has K got c) (λ g. ⊎_elim
        (λ a. not_both (beyond below h.reported c.time) (m.behind c a) (fresh_beyond ok h.reported h.updates cs c k))
        (λ b. not_both (has K h.updates c) (fresh_not_in ok h.reported h.updates cs c k) b)
        (has_append_cases ok out h.updates c g)) in
        let all : (c : Change D A R) → T (has K cs c) → T (has K (got ++ new) c) =
        λ c k. by_cases (has K got c)
        (λ g. has_append_left ok got new c g)
        (λ n. by_cases (beyond below h.reported c.time)
        (λ b. has_append_right ok got new c (fresh_from ok h.reported h.updates cs c k b (not_from (has K h.updates c) (λ u. not_both (has K got c) n (has_append_right ok out h.updates c u)))))
        (λ b. has_append_left ok got new c (covered ok rec got h.progress.frontier h.reported m.on c (valid c k) b))) in
        let known' : Known K rec ss (ms ++ changes cs ∷ []) got' = subst (λ l. Known K rec ss (ms ++ changes cs ∷ []) l) regroup (known_changes ok rec ss ms got cs new m.known (fresh_once ok h.reported h.updates cs) apart_from (fresh_in ok h.reported h.updates cs) valid all) in
        let many : (x : A) → many_at below x got' ≡ many_at below x got + many_at below x new = λ x. ap (λ l. many_at below x l) (sym regroup) ∙ many_at_append ok x got new in
        let bound : (y : A) → nat_abs (count_at below h.progress.counts y) + size_at below (lowered new) y ≤ 9223372036854775807 =
        λ y.
        let e = many y in
        let s = got_small ok rec ss (ms ++ changes cs ∷ []) got' told known' y in
        subst (λ v. nat_abs (count_at below h.progress.counts y) + v ≤ 9223372036854775807) (sym (size_at_lowered ok new y))
        (lower_bound (beyond below m.place.mid y) (count_at below h.progress.counts y) (many_at below y got) (many_at below y rec) (many_at below y new) (got_small ok rec ss ms got told m.known y) (told.small y) (omega arith) (m.place.placed.counted y)) in
        record {
          place = place_as t order joins (heard_in ms) (heard_in (ms ++ changes cs ∷ [])) (λ x. many_at below x rec) (λ x. many_at below x got) (λ x. many_at below x rec) (λ x. many_at below x got') top ss h.progress (added_all below h.progress.counts (lowered new))
              (λ u k. in_left (changes cs ∷ []) k) (λ u k. heard_changes ok ms cs u k) (clean_added_all order h.progress.counts (lowered new) m.place.placed.clean)
              (λ mid on x e. lower_step (count_at below h.progress.counts x) (sum_at below (lowered new) x) (count_at below (added_all below h.progress.counts (lowered new)) x) (pos (cond (beyond below mid x) 0 (many_at below x rec))) (many_at below x got) (many_at below x new) (many_at below x got') (at_more order h.progress.counts (lowered new) m.place.placed.clean bound x) (sum_at_lowered ok new x) (many x) e)
              m.place;
          known = known';
          apart = m.apart;
          behind = m.behind;
          ahead = λ c k. ⊎_elim (λ a. m.ahead c a) (λ b. fresh_beyond ok h.reported h.updates cs c b) (has_append_cases ok h.updates new c k);
          on = λ z o. m.on z (open_back ok rec got got' h.progress.frontier h.progress.frontier (λ c k. subst (λ l. T (has K l c)) regroup (has_append_left ok got new c k)) (leq_refl order h.progress.frontier) z o);
        }

    takes_statement : (ms : List (Message D A R)) (out : List (Change D A R)) (h : Held D A R) (s : Statement A) → In s ss → HeldMid K rec ss top ms out h → HeldMid K rec ss top (ms ++ statement s ∷ []) out (taken_in K (statement s) h)
    takes_statement ms out h s i m =
        let got = out ++ h.updates in
        record {
          place = place_advanced t order joins (heard_in ms) (heard_in (ms ++ statement s ∷ [])) (λ x. many_at below x rec) (λ x. many_at below x got) top ss told.small (got_small ok rec ss ms got told m.known) told.says s h.progress i
              (λ u k. in_left (statement s ∷ []) k) (in_right ms In.here) (λ u k. heard_statement ok ms s u k) m.place;
          known = known_statement ok rec ss ms got s m.known i;
          apart = m.apart;
          behind = m.behind;
          ahead = m.ahead;
          on = λ z o. m.on z (open_back ok rec got got h.progress.frontier (advanced t s h.progress).frontier (λ c k. k) (advanced_onward t order joins s h.progress) z o);
        }

    takes : (ms : List (Message D A R)) (out : List (Change D A R)) (h : Held D A R) (m : Message D A R) → Valid K rec ss m → HeldMid K rec ss top ms out h → HeldMid K rec ss top (ms ++ m ∷ []) out (taken_in K m h)
    takes ms out h (changes cs) v k = takes_changes ms out h cs v k
    takes ms out h (statement s) v k = takes_statement ms out h s v k

    -- the lower edge is where something is open
    pub held_edge : (ms : List (Message D A R)) (out : List (Change D A R)) (h : Held D A R) → HeldMid K rec ss top ms out h → (z : A) → T (beyond below (lower_edge t h.progress) z) → Open K rec (out ++ h.updates) h.progress.frontier z
    held_edge ms out h m z k = edge_open ok (heard_in ms) (λ x. many_at below x (out ++ h.updates)) top ss h.progress rec (out ++ h.updates) m.place (λ x. refl) told.once z k

    held_open : (ms : List (Message D A R)) (out : List (Change D A R)) (h : Held D A R) → HeldMid K rec ss top ms out h → (z : A) → Open K rec (out ++ h.updates) h.progress.frontier z → T (beyond below (lower_edge t h.progress) z)
    held_open ms out h m z o = open_edge ok (heard_in ms) (λ x. many_at below x (out ++ h.updates)) top ss h.progress rec (out ++ h.updates) m.place (λ x. refl) m.known.once m.known.from z o

    -- what is said of a reader that published
    record After (ms : List (Message D A R)) (out : List (Change D A R)) (h : Held D A R) (m : Message D A R) (a : Answer (Option (List (Change D A R) × List A)) × Held D A R) : Type 0 where
      fine : HeldFine K rec ss top (ms ++ brings a.0 (λ _. m ∷ [])) (out ++ brings a.0 interval_changes) a.1
      onward : T (leq below h.reported a.1.reported)

    publishes : (ms : List (Message D A R)) (out : List (Change D A R)) (m : Message D A R) (h : Held D A R) → HeldMid K rec ss top (ms ++ m ∷ []) out h → After ms out h m (accepted (published K h).0, (published K h).1)
    publishes ms out m h k =
        let e = lower_edge t h.progress in
        let us = h.updates in
        let got = out ++ us in
        let out' = out ++ those_behind below e us in
        let got' = out' ++ those_beyond below e us in
        let ms' = ms ++ m ∷ [] in
        let further : (z : A) → T (beyond below e z) → T (beyond below h.reported z) = λ z b. k.on z (held_edge ms' out h k z b) in
        let many : (x : A) → many_at below x got' ≡ many_at below x got =
        λ x. many_at_append ok x out' (those_beyond below e us) ∙ ap (λ n. n + many_at below x (those_beyond below e us)) (many_at_append ok x out (those_behind below e us)) ∙
        split_sum (beyond below e x) (many_at below x out) (many_at below x us) (many_at below x (those_behind below e us)) (many_at below x (those_beyond below e us)) (many_at_kept ok (λ y. not (beyond below e y)) x us) (many_at_kept ok (λ y. beyond below e y) x us) ∙ sym (many_at_append ok x out us) in
        let often : (c : Change D A R) → how_often K c got' ≡ how_often K c got =
        λ c. how_often_append ok c out' (those_beyond below e us) ∙ ap (λ n. n + how_often K c (those_beyond below e us)) (how_often_append ok c out (those_behind below e us)) ∙
        split_sum (beyond below e c.time) (how_often K c out) (how_often K c us) (how_often K c (those_behind below e us)) (how_often K c (those_beyond below e us)) (how_often_kept ok (λ u. not (beyond below e u.time)) c us) (how_often_kept ok (λ u. beyond below e u.time) c us) ∙ sym (how_often_append ok c out us) in
        let hases : (c : Change D A R) → has K got' c ≡ has K got c =
        λ c. has_append ok out' (those_beyond below e us) c ∙ ap (λ n. n || has K (those_beyond below e us) c) (has_append ok out (those_behind below e us) c) ∙
        split_or (beyond below e c.time) (has K out c) (has K us c) (has K (those_behind below e us) c) (has K (those_beyond below e us) c) (has_kept ok (λ u. not (beyond below e u.time)) us c) (has_kept ok (λ u. beyond below e u.time) us c) ∙ sym (has_append ok out us c) in
        cond_both {X = Option (List (Change D A R) × List A) × Held D A R} (λ a. After ms out h m (accepted a.0, a.1)) (equal below e h.reported) (None, h) (Some (those_behind below e us, e), record { progress = h.progress; reported = e; updates = those_beyond below e us; drops = h.drops })
        (λ same. record {
          fine = subst (λ l. HeldFine K rec ss top ms' l h) (sym (append-nil out)) (record { mid = k; level = λ z b. T_back (beyond below e z) (beyond below h.reported z) (equal_beyond order e h.reported z same) b });
          onward = leq_refl order h.reported;
        })
        (λ other. record {
          fine = record {
            mid = record {
              place = place_as t order joins (heard_in ms') (heard_in ms') (λ x. many_at below x rec) (λ x. many_at below x got) (λ x. many_at below x rec) (λ x. many_at below x got') top ss h.progress h.progress.counts (λ u i. i) (λ u i. i) k.place.placed.clean
                  (λ mid on x eq. ap (λ n. count_at below h.progress.counts x +ℤ pos n) (many x) ∙ eq) k.place;
              known = known_same ok rec ss ms' got got' often hases k.known;
              apart = antichain_inserted_all order h.progress.frontier (positives h.progress.counts) k.place.placed.apart;
              behind = λ c i. ⊎_elim
                  (λ a. not_from (beyond below e c.time) (λ b. not_both (beyond below h.reported c.time) (k.behind c a) (further c.time b)))
                  (λ b. and_right (has K us c) (not (beyond below e c.time)) (T_along (has K (those_behind below e us) c) (has K us c && not (beyond below e c.time)) (has_kept ok (λ u. not (beyond below e u.time)) us c) b))
                  (has_append_cases ok out (those_behind below e us) c i);
              ahead = λ c i. and_right (has K us c) (beyond below e c.time) (T_along (has K (those_beyond below e us) c) (has K us c && beyond below e c.time) (has_kept ok (λ u. beyond below e u.time) us c) i);
              on = λ z o. held_open ms' out h k z (open_back ok rec got got' h.progress.frontier h.progress.frontier (λ c i. T_back (has K got' c) (has K got c) (hases c) i) (leq_refl order h.progress.frontier) z o);
            };
            level = λ z b. b;
          };
          onward = leq_from order h.reported e further;
        })

    keeps : (m : Message D A R) (h : Held D A R) → (taken_in K m h).reported ≡ h.reported
    keeps (changes cs) h = refl
    keeps (statement s) h = refl

    fed_after : (tables : Bool) (ms : List (Message D A R)) (out : List (Change D A R)) (m : Message D A R) (h : Held D A R) → Valid K rec ss m → HeldFine K rec ss top ms out h → After ms out h m (feed K tables m h)
    fed_after tables ms out m h v f =
        let a = publishes ms out m (taken_in K m h) (takes ms out h m v f.mid) in
        answer_cases (λ b. After ms out h m b) (feed_asks K tables m h) h (published K (taken_in K m h))
        (λ n. record { fine = subst (λ l. HeldFine K rec ss top l (out ++ []) h) (sym (append-nil ms)) (subst (λ l. HeldFine K rec ss top ms l h) (sym (append-nil out)) f); onward = leq_refl order h.reported })
        (λ _. record { fine = a.fine; onward = subst (λ l. T (leq below l (published K (taken_in K m h)).1.reported)) (keeps m h) a.onward })

    pub held_feeds : (tables : Bool) (ms : List (Message D A R)) (out : List (Change D A R)) (m : Message D A R) (h : Held D A R) → Valid K rec ss m → HeldFine K rec ss top ms out h → HeldFine K rec ss top (ms ++ brings (feed K tables m h).0 (λ _. m ∷ [])) (out ++ brings (feed K tables m h).0 interval_changes) (feed K tables m h).1
    held_feeds tables ms out m h v f = (fed_after tables ms out m h v f).fine

    pub held_onward : (tables : Bool) (ms : List (Message D A R)) (out : List (Change D A R)) (m : Message D A R) (h : Held D A R) → Valid K rec ss m → HeldFine K rec ss top ms out h → T (leq below h.reported (feed K tables m h).1.reported)
    held_onward tables ms out m h v f = (fed_after tables ms out m h v f).onward
