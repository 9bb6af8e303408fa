use Rattle.std.proofs.Common.{◌≡◌, ◌+◌, ◌<◌, ◌++◌, length, take, drop, ◌+ℤ◌, sym, ap, ◌∙◌, arith, w64, SFits, to_z, of_z, rules}
use Rattle.std.proofs.lemmas.List.{drop-set-lt, get_or_read}
use Rattle.std.proofs.lemmas.Int.{to_z-of_z}
use Rattle.frontier.specs.Counts.{entry, stopped}
use Rattle.frontier.proofs.Adding.{changed_one}
use Rattle.frontier.proofs.counts.change_at.Goals as goal

pub returns : goal.returns
returns g c =
    let r = c.index-table-at.result in
    let s = c.saturating_add-sum.result in
    let inside : c.args.at < length c.args.table.now = omega (arith, c.requires.0, c.requires.1) in
    let amount-fits : SFits w64 c.args.amount = search rules in
    let count_fits : SFits w64 r.1 = search rules in
    let sum_fits : SFits w64 s = search rules in
    let back = to_z-of_z w64 s sum_fits in
    let sum : s ≡ stopped (r.1 +ℤ c.args.amount) = simp to_z-of_z at c.saturating_add-sum.ensures in
    record {
      within = omega arith;
      after = λ e is.
          let same : r ≡ e = get_or_read c.args.table.now c.args.at r inside c.index-table-at.is e ∙ sym is in
          changed_one c.args.table.now c.args.len c.args.at r (to_z w64 (of_z w64 s)) c.requires.0 c.requires.1 (λ z. c.if-sum-eq0.false (ap (of_z w64) (sym back ∙ z)))
          ∙ ap (λ v. take c.args.at c.args.table.now ++ (entry r.0 v ++ drop (c.args.at + 1) (take c.args.len c.args.table.now))) (back ∙ sum)
          ∙ ap (λ v. take c.args.at c.args.table.now ++ (entry v.0 (stopped (v.1 +ℤ c.args.amount)) ++ drop (c.args.at + 1) (take c.args.len c.args.table.now))) same;
      rest = drop-set-lt c.args.len c.args.table.now c.args.at (r.0, to_z w64 (of_z w64 s)) c.requires.0;
    }
