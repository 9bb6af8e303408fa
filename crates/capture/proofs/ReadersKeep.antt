-- A fresh reader meets its invariant, and the sender's calls and putting away leave it.
use Rattle.std.proofs.Common.{◌≡◌, ℕ, Bool, true, false, not, T, ◌⊎◌, List, [], ◌∷◌, ◌++◌, length, set, pos, refl, ap, ◌∙◌, inl, inr, ⊎_elim, arith}
use Rattle.lattice.proofs.Tests.{or_left}
use Rattle.lattice.specs.Orders.{Joins, Order}
use Rattle.frontier.proofs.Antichains.{antichain_one}
use Rattle.frontier.proofs.Beyond.{leq_beyond}
use Rattle.frontier.specs.Frontiers.{beyond, leq}
use Rattle.capture.specs.Answers.{only_tables}
use Rattle.capture.specs.Held.{fresh_held}
use Rattle.capture.specs.Kinds.{Kinds, Time}
use Rattle.capture.specs.Messages.{Change, Message, Statement, has}
use Rattle.capture.specs.Prompt.{Prompt, fresh_prompt}
use Rattle.capture.specs.Readers.{Reader, away, held, prompt, put_away, stands_at}
use Rattle.capture.specs.Runs.{In}
use Rattle.capture.specs.Statements.{Progress}
use Rattle.capture.proofs.Answering.{answer_cases}
use Rattle.capture.proofs.Changes.{many_at}
use Rattle.capture.proofs.Edges.{Open}
use Rattle.capture.proofs.HeldKeeps.{HeldFine}
use Rattle.capture.proofs.Laws.{Lawful}
use Rattle.capture.proofs.Lists.{in_left, in_none}
use Rattle.capture.proofs.Places.{Place, place_as, place_begins, place_behind, place_moved, same_behind}
use Rattle.capture.proofs.PromptKeeps.{PromptFine}
use Rattle.capture.proofs.Received.{Known, heard_in, known_more, open_recorded}

-- a reader that accepted ms and gave out out; set says whether it is settled; rec was recorded, and ss was stated and leads to top
abbrev pub Fine : {D A R : Type 0} → Kinds D A R → List (Change D A R) → List (Statement A) → List A → List (Message D A R) → List (Change D A R) → Bool → Reader D A R → Type 0
Fine K rec ss top ms out set (held h) = HeldFine K rec ss top ms out h
Fine K rec ss top ms out set (prompt h) = PromptFine K rec ss top ms out set h
Fine K rec ss top ms out set (away h) = PromptFine K rec ss top ms out set h

module _ {D A R : Type 0} {K : Kinds D A R} (ok : Lawful K) where
  abbrev t : Time A
  t = K.time

  abbrev below : A → A → Bool
  below = t.below

  order : Order below
  order = ok.order

  joins : Joins below t.joined
  joins = ok.joins

  beyond_start : (z : A) → T (beyond below (t.start ∷ []) z)
  beyond_start z = or_left (below t.start z) false (ok.starts z)

  known_begins : Known K [] [] [] []
  known_begins = record { once = λ c. omega arith; same = λ c. refl; from = λ c h. absurd h; stated = λ s h. absurd (in_none h) }

  pub held_begins : HeldFine K [] [] (t.start ∷ []) [] [] (fresh_held K)
  held_begins =
      record {
        mid = record {
          place = place_begins t order joins (heard_in []);
          known = known_begins;
          apart = antichain_one order t.start;
          behind = λ c h. absurd h;
          ahead = λ c h. absurd h;
          on = λ z o. beyond_start z;
        };
        level = λ z b. b;
      }

  pub prompt_begins : PromptFine K [] [] (t.start ∷ []) [] [] true (fresh_prompt K)
  prompt_begins =
      record {
        base = λ x. 0;
        place = place_begins t order joins (heard_in []);
        owed = λ x. refl;
        counted_in = λ x. omega arith;
        clean = tt;
        known = known_begins;
        kept = λ c. refl;
        apart = antichain_one order t.start;
        on = λ z o. beyond_start z;
        after = λ z b. b;
        rest = λ _. (refl, λ z b. b);
      }

  -- the sender records
  module _ (rec rec' : List (Change D A R)) (ss : List (Statement A)) (top : List A) (more : (c : Change D A R) → T (has K rec c) → T (has K rec' c)) (old : (c : Change D A R) → T (has K rec' c) → T (has K rec c) ⊎ T (beyond below top c.time)) (same : (x : A) → T (not (beyond below top x)) → many_at below x rec' ≡ many_at below x rec) where
    place_recorded : (heard : Statement A → Type 0) (base : A → ℕ) (p : Progress A) → Place t heard (λ x. many_at below x rec) base top ss p → Place t heard (λ x. many_at below x rec') base top ss p
    place_recorded heard base p pc =
        place_as t order joins heard heard (λ x. many_at below x rec) base (λ x. many_at below x rec') base top ss p p.counts (λ u h. h) (λ u h. h) pc.placed.clean
        (λ mid on x e. e ∙ ap pos (same_behind t order joins (λ y. many_at below y rec) (λ y. many_at below y rec') top same mid on x)) pc

    still_open : (heard : Statement A → Type 0) (base : A → ℕ) (p : Progress A) (got : List (Change D A R)) → Place t heard (λ x. many_at below x rec) base top ss p → (z : A) → Open K rec' got p.frontier z → Open K rec got p.frontier z
    still_open heard base p got pc =
        open_recorded ok rec rec' got p.frontier (λ c h. ⊎_elim (λ a. inl a) (λ b. inr (leq_beyond order p.frontier top c.time (place_behind t order joins heard (λ x. many_at below x rec) base top ss p pc) b)) (old c h))

    prompt_recorded : (ms : List (Message D A R)) (out : List (Change D A R)) (set : Bool) (h : Prompt D A R) → PromptFine K rec ss top ms out set h → PromptFine K rec' ss top ms out set h
    prompt_recorded ms out set h f =
        record {
          base = f.base;
          place = place_recorded (heard_in ms) f.base h.progress f.place;
          owed = f.owed;
          counted_in = f.counted_in;
          clean = f.clean;
          known = known_more ok rec rec' ss ss ms out more (λ s i. i) f.known;
          kept = f.kept;
          apart = f.apart;
          on = λ z o. f.on z (still_open (heard_in ms) f.base h.progress out f.place z o);
          after = f.after;
          rest = f.rest;
        }

    pub fine_recorded : (ms : List (Message D A R)) (out : List (Change D A R)) (set : Bool) (x : Reader D A R) → Fine K rec ss top ms out set x → Fine K rec' ss top ms out set x
    fine_recorded ms out set (held h) f =
        let m = f.mid in
        let base : A → ℕ = λ x. many_at below x (out ++ h.updates) in
        record {
          mid = record {
            place = place_recorded (heard_in ms) base h.progress m.place;
            known = known_more ok rec rec' ss ss ms (out ++ h.updates) more (λ s i. i) m.known;
            apart = m.apart;
            behind = m.behind;
            ahead = m.ahead;
            on = λ z o. m.on z (still_open (heard_in ms) base h.progress (out ++ h.updates) m.place z o);
          };
          level = f.level;
        }
    fine_recorded ms out set (prompt h) f = prompt_recorded ms out set h f
    fine_recorded ms out set (away h) f = prompt_recorded ms out set h f

  prompt_moved : (rec : List (Change D A R)) (ss : List (Statement A)) (s : Statement A) → T (leq below s.lower s.upper) → T (not (leq below s.upper s.lower)) → (In s ss → ⊥) → (ms : List (Message D A R)) (out : List (Change D A R)) (set : Bool) (h : Prompt D A R) → PromptFine K rec ss s.lower ms out set h → PromptFine K rec (ss ++ s ∷ []) s.upper ms out set h
  prompt_moved rec ss s on strict new ms out set h f =
      record {
        base = f.base;
        place = place_moved t order joins (heard_in ms) (λ x. many_at below x rec) f.base ss h.progress s on strict (λ k. new (f.known.stated s k)) f.place;
        owed = f.owed;
        counted_in = f.counted_in;
        clean = f.clean;
        known = known_more ok rec rec ss (ss ++ s ∷ []) ms out (λ c i. i) (λ u i. in_left (s ∷ []) i) f.known;
        kept = f.kept;
        apart = f.apart;
        on = f.on;
        after = f.after;
        rest = f.rest;
      }

  -- the sender makes a statement
  pub fine_moved : (rec : List (Change D A R)) (ss : List (Statement A)) (s : Statement A) → T (leq below s.lower s.upper) → T (not (leq below s.upper s.lower)) → (In s ss → ⊥) → (ms : List (Message D A R)) (out : List (Change D A R)) (set : Bool) (x : Reader D A R) → Fine K rec ss s.lower ms out set x → Fine K rec (ss ++ s ∷ []) s.upper ms out set x
  fine_moved rec ss s on strict new ms out set (held h) f =
      let m = f.mid in
      record {
        mid = record {
          place = place_moved t order joins (heard_in ms) (λ x. many_at below x rec) (λ x. many_at below x (out ++ h.updates)) ss h.progress s on strict (λ k. new (m.known.stated s k)) m.place;
          known = known_more ok rec rec ss (ss ++ s ∷ []) ms (out ++ h.updates) (λ c i. i) (λ u i. in_left (s ∷ []) i) m.known;
          apart = m.apart;
          behind = m.behind;
          ahead = m.ahead;
          on = m.on;
        };
        level = f.level;
      }
  fine_moved rec ss s on strict new ms out set (prompt h) f = prompt_moved rec ss s on strict new ms out set h f
  fine_moved rec ss s on strict new ms out set (away h) f = prompt_moved rec ss s on strict new ms out set h f

  pub fine_put_away : (tables : Bool) (rec : List (Change D A R)) (ss : List (Statement A)) (top : List A) (ms : List (Message D A R)) (out : List (Change D A R)) (set : Bool) (h : Prompt D A R) → PromptFine K rec ss top ms out set h → Fine K rec ss top ms out set (put_away tables h).1
  fine_put_away tables rec ss top ms out set h f = answer_cases (λ a. Fine K rec ss top ms out set a.1) (only_tables tables) (prompt h) (length h.pending, away h) (λ n. f) (λ _. f)

  pub put_away_still : (tables : Bool) (h : Prompt D A R) → stands_at (put_away tables h).1 ≡ h.reported
  put_away_still tables h = answer_cases (λ a. stands_at a.1 ≡ h.reported) (only_tables tables) (prompt h) (length h.pending, away h) (λ n. refl) (λ _. refl)
