use Rattle.std.proofs.Common.{◌≡◌, ◌<◌, ◌≤◌, true, false, length, sym, refl, ap, ◌∙◌, arith, rules}
use Rattle.std.proofs.lemmas.List.{drop-set-lt}
use Rattle.std.proofs.lemmas.Bool.{cond-true, le-leb, lt-leb}
use Rattle.frontier.specs.Frontiers.{beyond, inserted, without}
use Rattle.frontier.specs.Tables.{in_use, frontier_size}
use Rattle.frontier.proofs.Antichains.{antichain_inserted}
use Rattle.frontier.proofs.Inserting.{length_inserted, inserted_more}
use Rattle.frontier.proofs.Tables.{drop_on, length_in_use, table_short, table_fits, table_full}
use Rattle.frontier.proofs.antichain.insert.Goals as goal

pub returns-then-len-gt-FRONTIER_SIZE : goal.returns-then-len-gt-FRONTIER_SIZE
returns-then-len-gt-FRONTIER_SIZE g c =
    record { answer = (table_short frontier_size 12 _ _ _ c.then-len-gt-FRONTIER_SIZE.either, refl); rest = refl; law = antichain_inserted g.met.T.PartialOrder.order }

pub returns-then-is_beyond : goal.returns-then-is_beyond
returns-then-is_beyond g c =
    let o = g.T.PartialOrder in
    let t = o.value c.args.time in
    let front = in_use o.value c.args.len c.args.table.now in
    let is_beyond : beyond o.below front t ≡ true = search rules in
    let stands : inserted o.below front t ≡ front = cond-true (beyond o.below front t) _ _ is_beyond in
    let size : length front ≡ c.args.len = length_in_use o.value c.args.len c.args.table.now (omega arith) in
    let few : length (inserted o.below front t) ≤ 32 = omega (arith, ap length stands) in
    record {
      answer = (table_fits frontier_size 12 _ _ _ c.if-len-gt-FRONTIER_SIZE.false c.if-table-lt-FRONTIER_SIZE.false (le-leb _ 32 few), (sym stands, ap length stands ∙ size));
      rest = refl;
      law = antichain_inserted g.met.T.PartialOrder.order;
    }

pub returns-then-count_without-ge-FRONTIER_SIZE : goal.returns-then-count_without-ge-FRONTIER_SIZE
returns-then-count_without-ge-FRONTIER_SIZE g c =
    let o = g.T.PartialOrder in
    let t = o.value c.args.time in
    let front = in_use o.value c.args.len c.args.table.now in
    let behind : beyond o.below front t ≡ false = search rules in
    let count : c.count_without.result ≡ length (without o.below t front) = search rules in
    let many : 32 < length (inserted o.below front t) = omega (arith, length_inserted o.below o.value front c.args.time behind) in
    record {
      answer = (table_full frontier_size 12 _ _ _ c.if-len-gt-FRONTIER_SIZE.false c.if-table-lt-FRONTIER_SIZE.false (lt-leb _ 32 many), refl);
      rest = refl;
      law = antichain_inserted g.met.T.PartialOrder.order;
    }

pub returns : goal.returns
returns g c =
    let o = g.T.PartialOrder in
    let t = o.value c.args.time in
    let front = in_use o.value c.args.len c.args.table.now in
    let n = c.keep_without-n.result in
    let table = c.keep_without-n.new.table in
    let behind : beyond o.below front t ≡ false = search rules in
    let count : c.count_without.result ≡ length (without o.below t front) = search rules in
    let grown = length_inserted o.below o.value front c.args.time behind in
    let few : n < 32 = omega (arith, c.keep_without-n.ensures.after.1) in
    let inside : n < length table = search rules in
    record {
      answer = (table_fits frontier_size 12 _ _ _ c.if-len-gt-FRONTIER_SIZE.false c.if-table-lt-FRONTIER_SIZE.false (le-leb _ 32 (omega (arith, grown))), inserted_more o.below o.value front c.args.time behind table n inside c.keep_without-n.ensures.after);
      rest = drop-set-lt 32 table n c.args.time few ∙ drop_on c.args.table.now table c.args.len 32 c.if-len-gt-FRONTIER_SIZE.false c.keep_without-n.ensures.rest;
      law = antichain_inserted g.met.T.PartialOrder.order;
    }
