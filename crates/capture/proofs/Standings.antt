-- What the readers' invariants say: where readers stand, and what they gave out.
use Rattle.std.proofs.Common.{◌≡◌, ℕ, Bool, not, ◌&&◌, T, List, [], ◌∷◌, ◌++◌, set, sym, refl, ap, ◌∙◌, subst, inl, inr, ⊎_elim, append-nil, arith}
use Rattle.lattice.proofs.Tests.{T_along, T_back, and_intro, and_left, and_right, by_cases, cond_false, cond_true, not_both, not_from}
use Rattle.lattice.specs.Orders.{Joins, Order}
use Rattle.frontier.proofs.Antichains.{equal_beyond, equal_from}
use Rattle.frontier.proofs.Beyond.{beyond_up, leq_beyond, leq_from, leq_trans}
use Rattle.frontier.specs.Frontiers.{Antichain, beyond, equal, leq}
use Rattle.capture.specs.Held.{Held}
use Rattle.capture.specs.Kinds.{Kinds, Time}
use Rattle.capture.specs.Law.{Published, Shipped, change_accepted, how_often}
use Rattle.capture.specs.Messages.{Change, Message, Statement, changes, has, statement}
use Rattle.capture.specs.Prompt.{Prompt}
use Rattle.capture.specs.Readers.{Reader, away, held, prompt, stands_at}
use Rattle.capture.specs.Runs.{In}
use Rattle.capture.specs.Sender.{told}
use Rattle.capture.specs.Statements.{Progress}
use Rattle.capture.proofs.Chains.{Chain, chain_end, chain_leq}
use Rattle.capture.proofs.Changes.{has_append_left, has_from_how_often, how_often_append, how_often_none, how_often_once, many_at}
use Rattle.capture.proofs.Edges.{Open}
use Rattle.capture.proofs.HeldKeeps.{HeldFine, held_edge}
use Rattle.capture.proofs.Laws.{Lawful}
use Rattle.capture.proofs.Lists.{in_along, in_right}
use Rattle.capture.proofs.Places.{Place, Placed, Unheard, place_behind, same_past}
use Rattle.capture.proofs.PromptKeeps.{PromptFine, settled_edge}
use Rattle.capture.proofs.ReadersKeep.{Fine}
use Rattle.capture.proofs.Received.{Known, Told, accepted_by, by_accepted, covered, heard_in}

module _ {D A R : Type 0} (K : Kinds D A R) where
  -- a reader whose frontier f tells what it accepted: the times beyond f are those that are open to it
  pub record Stand (rec : List (Change D A R)) (ss : List (Statement A)) (top : List A) (ms : List (Message D A R)) (f : List A) : Type 0 where
    pub got : List (Change D A R)
    pub base : A → ℕ
    pub progress : Progress A
    pub place : Place K.time (heard_in ms) (λ x. many_at K.time.below x rec) base top ss progress
    pub known : Known K rec ss ms got
    pub apart : Antichain K.time.below f
    pub on : (z : A) → Open K rec got progress.frontier z → T (beyond K.time.below f z)
    pub edge : (z : A) → T (beyond K.time.below f z) → Open K rec got progress.frontier z

module _ {D A R : Type 0} {K : Kinds D A R} (ok : Lawful K) where
  abbrev t : Time A
  t = K.time

  abbrev below : A → A → Bool
  below = t.below

  order : Order below
  order = ok.order

  joins : Joins below t.joined
  joins = ok.joins

  no_future : (heard : Statement A → Type 0) (N base : A → ℕ) (top : List A) (ss : List (Statement A)) (p : Progress A) (past future : List (Statement A)) (mid : List A) → Placed t heard N base top past future mid p → T (leq below top mid) → future ≡ []
  no_future heard N base top ss p past [] mid pl h = refl
  no_future heard N base top ss p past (s ∷ rest) mid pl h = absurd (not_both (leq below s.upper mid) pl.after.2 (leq_trans order s.upper top mid (chain_leq order s.upper rest top pl.after.3) h))

  all_heard : (heard : Statement A → Type 0) (past future ss : List (Statement A)) → past ++ future ≡ ss → Unheard heard future → ((s : Statement A) → In s ss → heard s) → future ≡ []
  all_heard heard past [] ss e un all = refl
  all_heard heard past (s ∷ rest) ss e un all = absurd (un (all s (in_along e (in_right past In.here))))

  module _ (rec : List (Change D A R)) (ss : List (Statement A)) (top : List A) where
    -- all statements are among the messages, and all changes recorded behind top
    abbrev pub Everything : List (Message D A R) → Type 0
    Everything ms = ((s : Statement A) → In s ss → In (statement s) ms) × ((c : Change D A R) → T (has K rec c) → T (not (beyond below top c.time)) → T (change_accepted K c ms))

    pub held_stands : Told K rec ss → (ms : List (Message D A R)) (out : List (Change D A R)) (h : Held D A R) → HeldFine K rec ss top ms out h → Stand K rec ss top ms h.reported
    held_stands told ms out h f =
        let m = f.mid in
        record { got = out ++ h.updates; base = λ x. many_at below x (out ++ h.updates); progress = h.progress; place = m.place; known = m.known; apart = m.apart; on = m.on; edge = λ z b. held_edge ok rec ss top told ms out h m z (f.level z b) }

    pub prompt_stands : Told K rec ss → (ms : List (Message D A R)) (out : List (Change D A R)) (set : Bool) (h : Prompt D A R) → T set → PromptFine K rec ss top ms out set h → Stand K rec ss top ms h.reported
    prompt_stands told ms out set h s f =
        record { got = out; base = f.base; progress = h.progress; place = f.place; known = f.known; apart = f.apart; on = f.on; edge = λ z b. settled_edge ok rec ss top told ms out set h f s z b }

    -- readers that accepted the same stand at one frontier
    leads : (ms ns : List (Message D A R)) (f g : List A) → ((m : Message D A R) → In m ms → In m ns) → ((m : Message D A R) → In m ns → In m ms) → Stand K rec ss top ms f → Stand K rec ss top ns g → T (leq below f g)
    leads ms ns f g to back a b =
        let pa = a.place in
        let pb = b.place in
        let pasts : pa.past ≡ pb.past = same_past t order joins (heard_in ms) (heard_in ns) (λ u h. to (statement u) h) (λ u h. back (statement u) h) pa.past pa.future pb.past pb.future (pa.split ∙ sym pb.split) pa.placed.all_past pb.placed.all_past pa.unheard pb.unheard in
        let mids : pa.mid ≡ pb.mid = chain_end order (t.start ∷ []) pb.past pa.mid pb.mid (subst (λ l. Chain below (t.start ∷ []) l pa.mid) pasts pa.placed.before) pb.placed.before in
        leq_from order f g (λ z h. a.on z (⊎_elim
        (λ k. inl (T_back (beyond below a.progress.frontier z) (beyond below pa.mid z) (pa.placed.at_mid z) (subst (λ l. T (beyond below l z)) (sym mids) (T_along (beyond below b.progress.frontier z) (beyond below pb.mid z) (pb.placed.at_mid z) k))))
        (λ m. inr (record {
          change = m.change;
          recorded = m.recorded;
          before = m.before;
          missed = not_from (has K a.got m.change) (λ k.
              let j = accepted_by ok m.change ms (T_along (has K a.got m.change) (change_accepted K m.change ms) (a.known.same m.change) k) in
              not_both (has K b.got m.change) m.missed (T_back (has K b.got m.change) (change_accepted K m.change ns) (b.known.same m.change) (by_accepted ok m.change j.0 ns (to (changes j.0) j.1) j.2)));
        }))
        (b.edge z h)))

    pub stands_agree : (ms ns : List (Message D A R)) (f g : List A) → ((m : Message D A R) → In m ms → In m ns) → ((m : Message D A R) → In m ns → In m ms) → Stand K rec ss top ms f → Stand K rec ss top ns g → T (equal below f g)
    stands_agree ms ns f g to back a b = equal_from order f g a.apart b.apart (leads ms ns f g to back a b) (leads ns ms g f back to b a)

    -- no reader passes the sender
    pub behind_top : (heard : Statement A → Type 0) (base : A → ℕ) (p : Progress A) (got : List (Change D A R)) (f : List A) → Place t heard (λ x. many_at below x rec) base top ss p → ((z : A) → Open K rec got p.frontier z → T (beyond below f z)) → T (leq below f top)
    behind_top heard base p got f pc on = leq_from order f top (λ z h. on z (inl (leq_beyond order p.frontier top z (place_behind t order joins heard (λ x. many_at below x rec) base top ss p pc) h)))

    prompt_behind : (ms : List (Message D A R)) (out : List (Change D A R)) (set : Bool) (h : Prompt D A R) → PromptFine K rec ss top ms out set h → T (leq below h.reported top)
    prompt_behind ms out set h f = behind_top (heard_in ms) f.base h.progress out h.reported f.place f.on

    pub fine_behind : (ms : List (Message D A R)) (out : List (Change D A R)) (set : Bool) (x : Reader D A R) → Fine K rec ss top ms out set x → T (leq below (stands_at x) top)
    fine_behind ms out set (held h) f = behind_top (heard_in ms) (λ x. many_at below x (out ++ h.updates)) h.progress (out ++ h.updates) h.reported f.mid.place f.mid.on
    fine_behind ms out set (prompt h) f = prompt_behind ms out set h f
    fine_behind ms out set (away h) f = prompt_behind ms out set h f

    -- a reader that is level accepted everything
    pub level_to : (ms : List (Message D A R)) (f : List A) → Stand K rec ss top ms f → T (equal below f top) → Everything ms
    level_to ms f a e =
        let pc = a.place in
        let same : (z : A) → beyond below f z ≡ beyond below top z = λ z. equal_beyond order f top z e in
        let low : T (leq below top pc.mid) = leq_from order top pc.mid (λ z h. T_along (beyond below f z) (beyond below top z) (same z) (a.on z (inl (T_back (beyond below a.progress.frontier z) (beyond below pc.mid z) (pc.placed.at_mid z) h)))) in
        let none = no_future (heard_in ms) (λ x. many_at below x rec) a.base top ss a.progress pc.past pc.future pc.mid pc.placed low in
        let whole : ss ≡ pc.past = sym pc.split ∙ ap (λ l. pc.past ++ l) none ∙ append-nil pc.past in (
          λ s i. pc.placed.all_past s (in_along whole i),
          λ c h n. T_along (has K a.got c) (change_accepted K c ms) (a.known.same c) (covered ok rec a.got a.progress.frontier f a.on c h (subst (λ b. T (not b)) (sym (same c.time)) n)),
        )

    -- and one that accepted everything is level
    pub level_from : (ms : List (Message D A R)) (f : List A) → Antichain below top → Stand K rec ss top ms f → Everything ms → T (equal below f top)
    level_from ms f apart a all =
        let pc = a.place in
        let none = all_heard (heard_in ms) pc.past pc.future ss pc.split pc.unheard all.0 in
        let ends : pc.mid ≡ top = subst (λ l. Chain below pc.mid l top) none pc.placed.after in
        equal_from order f top a.apart apart
        (behind_top (heard_in ms) a.base a.progress a.got f pc a.on)
        (leq_from order top f (λ z h. ⊎_elim
        (λ k. subst (λ l. T (beyond below l z)) ends (T_along (beyond below a.progress.frontier z) (beyond below pc.mid z) (pc.placed.at_mid z) k))
        (λ m. by_cases (beyond below top m.change.time)
        (λ b. beyond_up order top m.change.time z b m.before)
        (λ n. absurd (not_both (has K a.got m.change) m.missed (T_back (has K a.got m.change) (change_accepted K m.change ms) (a.known.same m.change) (all.1 m.change m.recorded n)))))
        (a.edge z h)))

    -- what a held reader gave out, and what a prompt one did
    pub held_given : (ms : List (Message D A R)) (out : List (Change D A R)) (h : Held D A R) → HeldFine K rec ss top ms out h → Published K rec out h.reported
    held_given ms out h f c =
        let m = f.mid in
        let got = out ++ h.updates in
        let was = has K rec c in
        let behind = not (beyond below h.reported c.time) in
        by_cases (was && behind)
        (λ b.
        let n = and_right was behind b in
        let g = covered ok rec got h.progress.frontier h.reported m.on c (and_left was behind b) n in
        let one : how_often K c got ≡ 1 = how_often_once ok c got m.known.once ∙ cond_true (has K got c) 1 0 g in
        let sum = how_often_append ok c out h.updates in
        let none = how_often_none ok c h.updates (not_from (has K h.updates c) (λ u. not_both (beyond below h.reported c.time) n (m.ahead c u))) in
        let e : how_often K c out ≡ 1 = omega arith in
        e ∙ sym (cond_true (was && behind) 1 0 b))
        (λ b. how_often_none ok c out (not_from (has K out c) (λ o. not_both (was && behind) b (and_intro was behind (m.known.from c (has_append_left ok out h.updates c o)) (m.behind c o)))) ∙ sym (cond_false (was && behind) 1 0 b))

    pub prompt_given : (ms : List (Message D A R)) (out : List (Change D A R)) (set : Bool) (h : Prompt D A R) → PromptFine K rec ss top ms out set h → Shipped K rec out h.reported
    prompt_given ms out set h f c = (
      f.known.once c,
      λ e. f.known.from c (has_from_how_often ok c out (omega arith)),
      λ k n. how_often_once ok c out f.known.once ∙ cond_true (has K out c) 1 0 (covered ok rec out h.progress.frontier h.reported f.on c k n),
    )
