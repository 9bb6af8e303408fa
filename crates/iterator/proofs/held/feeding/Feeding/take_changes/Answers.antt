use Rattle.std.proofs.Common.{◌≡◌, ◌+◌, ◌-◌, ◌≤◌, true, map, length, take, sym, ap, ◌∙◌, arith}
use Rattle.std.proofs.lemmas.List.{length-map, length-take}
use Rattle.frontier.specs.Tables.{in_use, frontier_size}
use Rattle.frontier.proofs.Tables.{sub_zero}
use Rattle.capture.specs.Messages.{changes}
use Rattle.capture.specs.Statements.{lower_edge}
use Rattle.capture.specs.Kinds.{kinds}
use Rattle.capture.specs.Views.{change_of}
use Rattle.iterator.specs.Feeding.{own}
use Rattle.iterator.specs.Readers.{tables, held_in}
use Rattle.iterator.specs.declared.held.Held.{Held}
use Rattle.iterator.proofs.Feeding.{fed_accepted}
use Rattle.iterator.proofs.News.{few_new, few_held, taken}
use Rattle.iterator.proofs.held.feeding.Feeding.take_changes.Goals as goal

pub append_entries-requires : goal.append_entries-requires
append_entries-requires g c =
    let o = g.T.PartialOrder in
    let k = kinds g.D.Same.alike o.below g.T.Lattice.joined g.T.Timestamp.start g.R.Same.alike in
    let reads = change_of g.D.Same.value o.value g.R.Same.value in
    let f = c.args.self in
    let told = c.in_ok-w.ensures in
    let few = few_held k o.value reads f.reader.now (own f) (omega (arith, c.requires.reader.0.4, c.requires.reader.4)) c.args.changes.now told.0 c.in_ok-w.w c.weigh_changes.new.new told.1.0 in
    (omega (arith, told.1.0.2, c.requires.scratch.0, c.weigh_changes.auto.new), omega (arith, few, c.requires.reader.4))

pub overflow_sub-dropped : goal.overflow_sub-dropped
overflow_sub-dropped g c =
    let o = g.T.PartialOrder in
    let k = kinds g.D.Same.alike o.below g.T.Lattice.joined g.T.Timestamp.start g.R.Same.alike in
    let reads = change_of g.D.Same.value o.value g.R.Same.value in
    let f = c.args.self in
    let told = c.in_ok-w.ensures in
    let few : c.in_ok-w.w.new ≤ length c.args.changes.now = few_new k o.value reads f.reader.now (own f) (omega (arith, c.requires.reader.0.4, c.requires.reader.4)) c.args.changes.now told.0 c.in_ok-w.w c.weigh_changes.new.new told.1.0 in
    omega arith

pub let_out-requires : goal.let_out-requires
let_out-requires g c =
    let o = g.T.PartialOrder in
    let k = kinds g.D.Same.alike o.below g.T.Lattice.joined g.T.Timestamp.start g.R.Same.alike in
    let reads = change_of g.D.Same.value o.value g.R.Same.value in
    let f = c.args.self in
    let told = c.in_ok-w.ensures in
    let few = few_held k o.value reads f.reader.now (own f) (omega (arith, c.requires.reader.0.4, c.requires.reader.4)) c.args.changes.now told.0 c.in_ok-w.w c.weigh_changes.new.new told.1.0 in
    (simp length-take (omega (arith, told.1.2.2)), c.requires.reader.0.3, c.requires.reader.2, few, omega (arith, c.append_entries.auto.to, c.requires.reader.4), c.requires.reader.6, c.requires.reader.7)

pub returns-clause-takes : goal.returns-clause-takes
returns-clause-takes g c =
    let o = g.T.PartialOrder in
    let k = kinds g.D.Same.alike o.below g.T.Lattice.joined g.T.Timestamp.start g.R.Same.alike in
    let reads = change_of g.D.Same.value o.value g.R.Same.value in
    let f = c.args.self in
    let s = f.reader.now in
    let t = own f in
    let told = c.in_ok-w.ensures in
    let w = c.in_ok-w.w in
    let few = few_held k o.value reads s t (omega (arith, c.requires.reader.0.4, c.requires.reader.4)) c.args.changes.now told.0 w c.weigh_changes.new.new told.1.0 in
    let C = c.copy_entries.new.to in
    let V = c.append_entries.new.to in
    let E = c.weigh_changes.new.edge in
    let tn = tables f.frontier.now f.reported.now C V f.waiting.now in
    let drops = c.saturating_add-reader.result in
    let hn : Held = record { progress = record { frontier = s.progress.frontier; counts = w.counts; waiting = s.progress.waiting }; reported = s.reported; held = s.held + w.new; drops = drops } in
    let made = taken k o.value reads s t (omega (arith, c.requires.reader.0.4, c.requires.reader.4)) c.args.changes.now told.0 w c.weigh_changes.new.new told.1.0 c.weigh_changes.new.sums C V drops told.1.1.0 c.copy_entries.ensures.front c.append_entries.ensures.front c.saturating_add-reader.ensures in
    let cut_edge = map o.value (take (c.in_ok-w.end - 0) E) in
    let edge : cut_edge ≡ lower_edge k.time (held_in o.value reads hn tn).progress = ap (λ j. in_use o.value j E) (sub_zero c.in_ok-w.end) ∙ told.1.2.0 ∙ sym (ap (λ x. lower_edge k.time x.progress) made) in
    let short : length cut_edge ≤ frontier_size = omega (arith, length-map (take (c.in_ok-w.end - 0) E) o.value, length-take (c.in_ok-w.end - 0) E, told.1.2.2) in
    fed_accepted o.value reads k true (changes (map reads c.args.changes.now)) s t told.0 hn tn made (c.requires.reader.0.0, told.1.1.2, c.requires.reader.0.2, c.requires.reader.0.3, few) cut_edge edge short c.let_out.new.reported c.let_out.new.held f.published.now c.let_out.new.published f.told.now c.let_out.new.told c.let_out.result c.let_out.new.self c.let_out.ensures.numbers c.let_out.ensures.out
