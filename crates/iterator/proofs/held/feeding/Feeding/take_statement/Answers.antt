use Rattle.std.proofs.Common.{◌≡◌, ◌-◌, ◌≤◌, true, map, length, take, sym, ap, ◌∙◌, arith}
use Rattle.std.proofs.lemmas.List.{length-map, length-take}
use Rattle.frontier.specs.Tables.{in_use, counted, frontier_size}
use Rattle.frontier.proofs.Tables.{sub_zero}
use Rattle.capture.specs.Held.{Held as Meant, taken_in}
use Rattle.capture.specs.Kinds.{kinds}
use Rattle.capture.specs.Messages.{statement}
use Rattle.capture.specs.Statements.{Progress, advanced, lower_edge}
use Rattle.capture.specs.Stored.{stored_statement}
use Rattle.capture.specs.Views.{change_of, statement_of}
use Rattle.progress.specs.Tables.{progress_of}
use Rattle.progress.proofs.Acting.{same_progress}
use Rattle.iterator.specs.Feeding.{own}
use Rattle.iterator.specs.Readers.{tables, held_in}
use Rattle.iterator.specs.declared.held.Held.{Held}
use Rattle.iterator.proofs.Feeding.{fed_accepted}
use Rattle.iterator.proofs.held.feeding.Feeding.take_statement.Goals as goal

pub returns : goal.returns
returns g c =
    let o = g.T.PartialOrder in
    let k = kinds g.D.Same.alike o.below g.T.Lattice.joined g.T.Timestamp.start g.R.Same.alike in
    let reads = change_of g.D.Same.value o.value g.R.Same.value in
    let s = statement_of o.value c.args.statement in
    let f = c.args.self in
    let h = f.reader.now in
    let t = own f in
    let p = (held_in o.value reads h t).progress in
    let told = c.in_ok-n.ensures in
    let n = c.in_ok-n.n in
    let end = c.in_ok-n.end in
    let F = c.copy_entries.new.to in
    let C = c.copy_entries-2.new.to in
    let W = c.copy_entries-3.new.to in
    let E = c.weigh_statement.new.edge in
    let tn = tables F f.reported.now C f.held.now W in
    let hn : Held = record { progress = n; reported = h.reported; held = h.held; drops = h.drops } in
    let made : progress_of o.value n F C W ≡ advanced k.time s p = same_progress (ap (map o.value) c.copy_entries.ensures.front) (ap (map (counted o.value)) c.copy_entries-2.ensures.front) (ap (map (stored_statement o.value)) c.copy_entries-3.ensures.front) ∙ told.1.0.0 in
    let with : Progress g.row.T-Value.Denot → Meant g.row.D-Value.Denot g.row.T-Value.Denot g.row.R-Value.Denot = λ x. record { progress = x; reported = in_use o.value h.reported t.reported; updates = in_use reads h.held t.updates; drops = h.drops } in
    let taken : held_in o.value reads hn tn ≡ taken_in k (statement s) (held_in o.value reads h t) = ap with made in
    let edge : map o.value (take (end - 0) E) ≡ lower_edge k.time (progress_of o.value n F C W) = ap (λ j. in_use o.value j E) (sub_zero end) ∙ told.1.1.0 ∙ sym (ap (lower_edge k.time) made) in
    let short : length (map o.value (take (end - 0) E)) ≤ frontier_size = omega (arith, length-map (take (end - 0) E) o.value, length-take (end - 0) E, told.1.1.2) in
    fed_accepted o.value reads k true (statement s) h t told.0 hn tn taken (told.1.0.1, told.1.0.2, told.1.0.3, c.requires.reader.0.3, c.requires.reader.0.4) (map o.value (take (end - 0) E)) edge short c.let_out.new.reported c.let_out.new.held f.published.now c.let_out.new.published f.told.now c.let_out.new.told c.let_out.result c.let_out.new.self c.let_out.ensures.numbers c.let_out.ensures.out
