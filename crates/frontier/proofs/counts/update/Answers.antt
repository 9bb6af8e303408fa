use Rattle.std.proofs.Common.{◌≡◌, ◌+◌, ◌<◌, ◌≤◌, length, get_or, set, pos, sym, refl, ap, ◌∙◌, arith, w64, SFits, to_z, of_z}
use Rattle.std.proofs.lemmas.List.{drop-set-lt, get_or_default}
use Rattle.std.proofs.lemmas.Int.{to_z-of_z}
use Rattle.std.proofs.lemmas.Bool.{le-leb, lt-leb}
use Rattle.frontier.specs.Counts.{other}
use Rattle.frontier.specs.Tables.{in_use, counted}
use Rattle.frontier.proofs.Tables.{drop_on, table_fits, table_full}
use Rattle.frontier.proofs.Adding.{placed, update_hit, update_none, length_more, update_more}
use Rattle.frontier.proofs.counts.update.Goals as goal

pub returns-then-at-len : goal.returns-then-at-len
returns-then-at-len g c =
    let o = g.T.PartialOrder in
    let xs = c.args.table.now in
    let place = placed (other o.below (o.value c.args.time)) (counted o.value) xs c.find-at.result c.args.len c.find-at.ensures in
    let long : c.args.len ≤ length xs = omega arith in
    let inside : c.find-at.result < length xs = omega arith in
    let e = get_or xs c.find-at.result (c.args.time, pos 0) in
    let is : e ≡ get_or xs c.find-at.result e = get_or_default xs c.find-at.result (c.args.time, pos 0) e inside in
    let short : c.change_at.result ≤ length c.change_at.new.table = omega arith in
    let fits : SFits w64 c.args.amount = c.ranges.amount in
    let after = simp to_z-of_z at (c.change_at.ensures.after e is) in
    let told = update_hit o.below o.value xs c.args.len c.args.time c.args.amount c.find-at.result place long e c.if-at-len.true is c.change_at.result c.change_at.new.table short after in
    record {
      answer = (table_fits c.args.limit 11 _ _ _ c.if-len-limit.false c.if-table-limit.false (le-leb _ _ (omega (arith, told.1, c.change_at.ensures.within))), told);
      rest = drop_on xs c.change_at.new.table c.args.len c.args.limit c.if-len-limit.false c.change_at.ensures.rest;
    }

pub returns-then-amount-eq0 : goal.returns-then-amount-eq0
returns-then-amount-eq0 g c =
    let o = g.T.PartialOrder in
    let xs = c.args.table.now in
    let place = placed (other o.below (o.value c.args.time)) (counted o.value) xs c.find-at.result c.args.len c.find-at.ensures in
    let long : c.args.len ≤ length xs = omega arith in
    let none : c.args.amount ≡ pos 0 = sym (to_z-of_z w64 c.args.amount c.ranges.amount) ∙ ap (to_z w64) c.if-amount-eq0.true in
    let told = update_none o.below o.value xs c.args.len c.args.time c.args.amount c.find-at.result place long c.if-at-len.false none in
    record {
      answer = (table_fits c.args.limit 11 _ _ _ c.if-len-limit.false c.if-table-limit.false (le-leb _ _ (omega (arith, told.1))), told);
      rest = refl;
    }

pub returns-then-len-limit-2 : goal.returns-then-len-limit-2
returns-then-len-limit-2 g c =
    let o = g.T.PartialOrder in
    let xs = c.args.table.now in
    let place = placed (other o.below (o.value c.args.time)) (counted o.value) xs c.find-at.result c.args.len c.find-at.ensures in
    let long : c.args.len ≤ length xs = omega arith in
    let more = length_more o.below o.value xs c.args.len c.args.time c.args.amount c.find-at.result place long c.if-at-len.false (λ z. c.if-amount-eq0.false (ap (of_z w64) z)) in
    record {
      answer = (table_full c.args.limit 11 _ _ _ c.if-len-limit.false c.if-table-limit.false (lt-leb _ _ (omega (arith, more))), refl);
      rest = refl;
    }

pub returns : goal.returns
returns g c =
    let o = g.T.PartialOrder in
    let xs = c.args.table.now in
    let place = placed (other o.below (o.value c.args.time)) (counted o.value) xs c.find-at.result c.args.len c.find-at.ensures in
    let long : c.args.len ≤ length xs = omega arith in
    let short : c.args.len < length xs = omega arith in
    let near : c.args.len < c.args.limit = omega arith in
    let back = to_z-of_z w64 c.args.amount c.ranges.amount in
    let told = update_more o.below o.value xs c.args.len c.args.time c.args.amount c.find-at.result place long c.if-at-len.false (λ z. c.if-amount-eq0.false (ap (of_z w64) z)) short in
    record {
      answer = (table_fits c.args.limit 11 _ _ _ c.if-len-limit.false c.if-table-limit.false (le-leb _ _ (omega (arith, told.1))), (ap (λ v. in_use (counted o.value) (c.args.len + 1) (set xs c.args.len (c.args.time, v))) back ∙ told.0, told.1));
      rest = drop-set-lt c.args.limit xs c.args.len (c.args.time, to_z w64 (of_z w64 c.args.amount)) near;
    }
