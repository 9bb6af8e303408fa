use Rattle.std.proofs.Common.{◌≡◌, Bool, true, false, cond, List, [], ◌∷◌, map, ℤ, pos, Some, None, Option, refl, ap, ◌∙◌, rules, tests, w64, SFits}
use Rattle.std.specs.List.{find}
use Rattle.std.specs.Option.{option_map, option_map_or, MatchOption}
use Rattle.std.proofs.lemmas.Int.{to_z-of_z}
use Rattle.std.proofs.lemmas.Iterator.{YieldsList-from_slice}
use Rattle.std.proofs.lemmas.Iterator.Search.{find_from_yields_List}
use Rattle.lattice.specs.Orders.{at_once}
use Rattle.frontier.specs.Tables.{counted}
use Rattle.capture.specs.Sender.{count_at}
use Rattle.sink.proofs.counting.count_at.Goals as goal

module _ {X A : Type 0} (below : A → A → Bool) (value : X → A) (t : A) where
  -- the count of a time is that of the first entry of that time
  count_at-find : (es : List (X × ℤ)) → option_map_or (λ e. e.1) (find (λ e. at_once below (value e.0) t) es) (pos 0) ≡ count_at below (map (counted value) es) t
  count_at-find [] = refl
  count_at-find (e ∷ es) =
      let rest = find (λ e. at_once below (value e.0) t) es in
      let at : (b : Bool) → option_map_or (λ e. e.1) (cond b (Some e) rest) (pos 0) ≡ cond b e.1 (count_at below (map (counted value) es) t) = λ b. elim b as (λ b. option_map_or (λ e. e.1) (cond b (Some e) rest) (pos 0) ≡ cond b e.1 (count_at below (map (counted value) es) t)) [ true ↦ refl | false ↦ count_at-find es ] in
      at (at_once below (value e.0) t)

  counted_first : {B : Type 0} (reads : B → X × ℤ) (es : List (X × ℤ)) (r : Option B) (z : ℤ) {Q : B → Type 0} → option_map reads r ≡ find (λ e. at_once below (value e.0) t) es → MatchOption r (z ≡ pos 0) Q → ((x : B) → Q x → z ≡ (reads x).1) → z ≡ count_at below (map (counted value) es) t
  counted_first reads es None z e h post = h ∙ ap (λ o. option_map_or (λ e. e.1) o (pos 0)) e ∙ count_at-find es
  counted_first reads es (Some x) z e h post = post x h ∙ ap (λ o. option_map_or (λ e. e.1) o (pos 0)) e ∙ count_at-find es

pub returns : goal.returns
returns g c =
    let o = g.T.PartialOrder in
    let t = o.value c.args.time.now in
    let fits : SFits w64 c.map_or.result = search rules in
    to_z-of_z w64 c.map_or.result fits
    ∙ counted_first o.below o.value t (λ b. b.now) c.args.table.now c.find-entry.result c.map_or.result
    (find_from_yields_List (λ e. at_once o.below (o.value e.0) t) _ _ c.find-entry.result c.find-entry.ensures.ran (YieldsList-from_slice c.args.table.now cc) (λ x b q k. search (rules, tests)))
    c.map_or.ensures (λ x q. search rules)
