-- What a reader has got, against what it accepted and what was recorded.
use Rattle.std.proofs.Common.{◌≡◌, ◌≤◌, Bool, true, false, not, ◌||◌, T, ◌⊎◌, List, [], ◌∷◌, ◌++◌, sym, refl, ap, ◌∙◌, subst, inl, inr, ⊎_elim, arith}
use Rattle.lattice.proofs.Tests.{T_along, T_back, by_cases, iff_≡, not_both, or_cases, or_left, or_right}
use Rattle.lattice.specs.Orders.{Order}
use Rattle.frontier.proofs.Beyond.{below_refl, beyond_up}
use Rattle.frontier.specs.Frontiers.{beyond}
use Rattle.capture.specs.Kinds.{Kinds, Time}
use Rattle.capture.specs.Law.{change_accepted, how_often}
use Rattle.capture.specs.Messages.{Change, Message, Statement, changes, has, statement}
use Rattle.capture.specs.Runs.{In}
use Rattle.capture.specs.Sender.{told}
use Rattle.capture.proofs.Changes.{Once, has_append_cases, has_append_left, many_at, many_at_subset, once_append}
use Rattle.capture.proofs.Edges.{Open}
use Rattle.capture.proofs.Laws.{Lawful}
use Rattle.capture.proofs.Lists.{in_cases, in_more, in_none, in_one}
use Rattle.capture.proofs.Places.{Says}

or_assoc' : (a b c : Bool) → ((a || b) || c) ≡ (a || (b || c))
or_assoc' true b c = refl
or_assoc' false b c = refl

-- the statement is among the messages
abbrev pub heard_in : {D A R : Type 0} → List (Message D A R) → Statement A → Type 0
heard_in ms s = In (statement s) ms

module _ {D A R : Type 0} (K : Kinds D A R) where
  -- what a message of the sender may hold, where rec was recorded and ss was stated
  abbrev pub Valid : List (Change D A R) → List (Statement A) → Message D A R → Type 0
  Valid rec ss (changes cs) = (c : Change D A R) → T (has K cs c) → T (has K rec c)
  Valid rec ss (statement s) = In s ss

  -- what readers may rely on
  pub record Told (rec : List (Change D A R)) (ss : List (Statement A)) : Type 0 where
    pub once : Once K rec
    pub small : (x : A) → many_at K.time.below x rec ≤ 1000000
    pub says : Says K.time.below (λ x. many_at K.time.below x rec) ss

  -- a reader that accepted the messages ms has got the changes got, each once
  pub record Known (rec : List (Change D A R)) (ss : List (Statement A)) (ms : List (Message D A R)) (got : List (Change D A R)) : Type 0 where
    pub once : Once K got
    pub same : (c : Change D A R) → has K got c ≡ change_accepted K c ms
    pub from : (c : Change D A R) → T (has K got c) → T (has K rec c)
    pub stated : (s : Statement A) → In (statement s) ms → In s ss

module _ {D A R : Type 0} {K : Kinds D A R} (ok : Lawful K) where
  abbrev t : Time A
  t = K.time

  abbrev below : A → A → Bool
  below = t.below

  order : Order below
  order = ok.order

  abbrev is_statement : Message D A R → Type 0
  is_statement (changes cs) = ⊥
  is_statement (statement s) = Unit {0}

  pub not_statement : (u : Statement A) (cs : List (Change D A R)) → ◌≡◌ {A = Message D A R} (statement u) (changes cs) → ⊥
  not_statement u cs e = subst (λ m. is_statement m) e tt

  pub same_statement : (u s : Statement A) → ◌≡◌ {A = Message D A R} (statement u) (statement s) → u ≡ s
  same_statement u s e = cc

  pub heard_changes : (ms : List (Message D A R)) (cs : List (Change D A R)) (u : Statement A) → heard_in (ms ++ changes cs ∷ []) u → heard_in ms u
  heard_changes ms cs u h = ⊎_elim (λ a. a) (λ b. absurd (not_statement u cs (in_one b))) (in_cases (statement u) ms (changes cs ∷ []) h)

  pub heard_statement : (ms : List (Message D A R)) (s u : Statement A) → heard_in (ms ++ statement s ∷ []) u → heard_in ms u ⊎ (u ≡ s)
  heard_statement ms s u h = ⊎_elim (λ a. inl a) (λ b. inr (same_statement u s (in_one b))) (in_cases (statement u) ms (statement s ∷ []) h)

  pub accepted_append : (c : Change D A R) (ms ns : List (Message D A R)) → change_accepted K c (ms ++ ns) ≡ (change_accepted K c ms || change_accepted K c ns)
  accepted_append c [] ns = refl
  accepted_append c (changes cs ∷ ms) ns = ap (λ b. has K cs c || b) (accepted_append c ms ns) ∙ sym (or_assoc' (has K cs c) (change_accepted K c ms) (change_accepted K c ns))
  accepted_append c (statement s ∷ ms) ns = accepted_append c ms ns

  -- to accept a change is to accept a message that has it
  pub accepted_by : (c : Change D A R) (ms : List (Message D A R)) → T (change_accepted K c ms) → (cs : List (Change D A R)) × In (changes cs) ms × T (has K cs c)
  accepted_by c [] h = absurd h
  accepted_by c (changes cs ∷ ms) h =
      ⊎_elim (λ a. (cs, In.here, a)) (λ b. let i = accepted_by c ms b in (i.0, In.there i.1, i.2)) (or_cases (has K cs c) (change_accepted K c ms) h)
  accepted_by c (statement s ∷ ms) h = let i = accepted_by c ms h in (i.0, In.there i.1, i.2)

  accepted_later : (c : Change D A R) (m : Message D A R) (ms : List (Message D A R)) → T (change_accepted K c ms) → T (change_accepted K c (m ∷ ms))
  accepted_later c (changes cs) ms h = or_right (has K cs c) (change_accepted K c ms) h
  accepted_later c (statement s) ms h = h

  pub by_accepted : (c : Change D A R) (cs : List (Change D A R)) (ms : List (Message D A R)) → In (changes cs) ms → T (has K cs c) → T (change_accepted K c ms)
  by_accepted c cs [] i h = absurd (in_none i)
  by_accepted c cs (m ∷ ms) i h =
      ⊎_elim (λ e. subst (λ v. T (change_accepted K c (v ∷ ms))) e (or_left (has K cs c) (change_accepted K c ms) h)) (λ j. accepted_later c m ms (by_accepted c cs ms j h)) (in_more i)

  pub known_changes : (rec : List (Change D A R)) (ss : List (Statement A)) (ms : List (Message D A R)) (got cs new : List (Change D A R)) → Known K rec ss ms got → Once K new →
      ((c : Change D A R) → T (has K new c) → T (not (has K got c))) → ((c : Change D A R) → T (has K new c) → T (has K cs c)) → ((c : Change D A R) → T (has K cs c) → T (has K rec c)) → ((c : Change D A R) → T (has K cs c) → T (has K (got ++ new) c)) →
      Known K rec ss (ms ++ changes cs ∷ []) (got ++ new)
  known_changes rec ss ms got cs new k once apart in-cs valid all =
      record {
        once = once_append ok got new k.once once apart;
        same = λ c.
            iff_≡ (has K (got ++ new) c) (change_accepted K c (ms ++ changes cs ∷ []))
            (λ h. T_back (change_accepted K c (ms ++ changes cs ∷ [])) (change_accepted K c ms || (has K cs c || false)) (accepted_append c ms (changes cs ∷ []))
            (⊎_elim (λ a. or_left (change_accepted K c ms) (has K cs c || false) (T_along (has K got c) (change_accepted K c ms) (k.same c) a)) (λ b. or_right (change_accepted K c ms) (has K cs c || false) (or_left (has K cs c) false (in-cs c b))) (has_append_cases ok got new c h)))
            (λ h. ⊎_elim (λ a. has_append_left ok got new c (T_back (has K got c) (change_accepted K c ms) (k.same c) a)) (λ b. ⊎_elim (λ p. all c p) (λ q. absurd q) (or_cases (has K cs c) false b))
            (or_cases (change_accepted K c ms) (has K cs c || false) (T_along (change_accepted K c (ms ++ changes cs ∷ [])) (change_accepted K c ms || (has K cs c || false)) (accepted_append c ms (changes cs ∷ [])) h)));
        from = λ c h. ⊎_elim (λ a. k.from c a) (λ b. valid c (in-cs c b)) (has_append_cases ok got new c h);
        stated = λ s h. k.stated s (heard_changes ms cs s h);
      }

  or_false : (b : Bool) → (b || false) ≡ b
  or_false true = refl
  or_false false = refl

  pub known_statement : (rec : List (Change D A R)) (ss : List (Statement A)) (ms : List (Message D A R)) (got : List (Change D A R)) (s : Statement A) → Known K rec ss ms got → In s ss → Known K rec ss (ms ++ statement s ∷ []) got
  known_statement rec ss ms got s k i =
      record {
        once = k.once;
        same = λ c. k.same c ∙ sym (accepted_append c ms (statement s ∷ []) ∙ or_false (change_accepted K c ms));
        from = k.from;
        stated = λ u h. ⊎_elim (λ a. k.stated u a) (λ e. subst (λ v. In v ss) (sym e) i) (heard_statement ms s u h);
      }

  pub known_same : (rec : List (Change D A R)) (ss : List (Statement A)) (ms : List (Message D A R)) (got got' : List (Change D A R)) → ((c : Change D A R) → how_often K c got' ≡ how_often K c got) → ((c : Change D A R) → has K got' c ≡ has K got c) → Known K rec ss ms got → Known K rec ss ms got'
  known_same rec ss ms got got' often hases k =
      record {
        once = λ c. let e = often c in let o = k.once c in omega arith;
        same = λ c. hases c ∙ k.same c;
        from = λ c h. k.from c (T_along (has K got' c) (has K got c) (hases c) h);
        stated = k.stated;
      }

  pub known_more : (rec rec' : List (Change D A R)) (ss ss' : List (Statement A)) (ms : List (Message D A R)) (got : List (Change D A R)) → ((c : Change D A R) → T (has K rec c) → T (has K rec' c)) → ((s : Statement A) → In s ss → In s ss') → Known K rec ss ms got → Known K rec' ss' ms got
  known_more rec rec' ss ss' ms got more further k =
      record { once = k.once; same = k.same; from = λ c h. more c (k.from c h); stated = λ s h. further s (k.stated s h) }

  -- how many were got is small
  pub got_small : (rec : List (Change D A R)) (ss : List (Statement A)) (ms : List (Message D A R)) (got : List (Change D A R)) → Told K rec ss → Known K rec ss ms got → (x : A) → many_at below x got ≤ 1000000
  got_small rec ss ms got told k x = let a = told.small x in let b = many_at_subset ok x got rec k.once (λ c s h. k.from c h) in omega arith

  -- what is recorded behind a frontier that nothing open stands behind was got
  pub covered : (rec got : List (Change D A R)) (f g : List A) → ((z : A) → Open K rec got f z → T (beyond below g z)) → (c : Change D A R) → T (has K rec c) → T (not (beyond below g c.time)) → T (has K got c)
  covered rec got f g on c h n =
      by_cases (has K got c) (λ a. a) (λ m. absurd (not_both (beyond below g c.time) n (on c.time (inr (record { change = c; recorded = h; missed = m; before = below_refl order c.time })))))

  -- the sender records what is beyond f: nothing more is open
  pub open_recorded : (rec rec' got : List (Change D A R)) (f : List A) → ((c : Change D A R) → T (has K rec' c) → T (has K rec c) ⊎ T (beyond below f c.time)) → (z : A) → Open K rec' got f z → Open K rec got f z
  open_recorded rec rec' got f old z o =
      ⊎_elim (λ h. inl h) (λ m. ⊎_elim (λ a. inr (record { change = m.change; recorded = a; missed = m.missed; before = m.before })) (λ b. inl (beyond_up order f m.change.time z b m.before)) (old m.change m.recorded)) o
