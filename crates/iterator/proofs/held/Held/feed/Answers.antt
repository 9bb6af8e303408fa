use Rattle.std.proofs.Common.{◌≡◌, true, false, sym, ap, ◌∙◌, rules}
use Rattle.questions.specs.declared.Refusal.TheVariants.{ShortTable}
use Rattle.capture.specs.Kinds.{kinds}
use Rattle.capture.specs.Views.{change_of, message_of}
use Rattle.iterator.specs.Readers.{lent, all_sized, held_in}
use Rattle.iterator.proofs.Feeding.{fed_refused, fed_same, short_refused}
use Rattle.iterator.proofs.Sizes.{all_tell}
use Rattle.iterator.proofs.held.Held.feed.Goals.{in-Updates, in-Progress}
use Rattle.iterator.proofs.held.Held.feed.Goals as goal

pub returns-then-not-are_all_sized : goal.returns-then-not-are_all_sized
returns-then-not-are_all_sized g c =
    let o = g.T.PartialOrder in
    let k = kinds g.D.Same.alike o.below g.T.Lattice.joined g.T.Timestamp.start g.R.Same.alike in
    let reads = change_of g.D.Same.value o.value g.R.Same.value in
    let m = message_of g.D.Same.value o.value g.R.Same.value c.args.message in
    let h = c.args.self.now in
    let t = lent c.args.tables c.args.waiting.now in
    let P = c.args.answer.published.now in
    let Q = c.args.answer.told.now in
    let sizes = all_sized h t P Q c.args.scratch.frontier.now c.args.scratch.counts.now c.args.scratch.waiting.now c.args.scratch.edge.now c.args.scratch.changes.now in
    let no : sizes ≡ false = sym c.are_all_sized.ensures ∙ c.if-not-are_all_sized.true in
    fed_refused o.value reads k sizes m h t ShortTable P Q (short_refused k sizes m (held_in o.value reads h t) no)

pub take_changes-requires-clause-reader : goal.take_changes-requires-clause-reader
take_changes-requires-clause-reader g c =
    let z = c.args.scratch in
    (all_tell c.args.self.now (lent c.args.tables c.args.waiting.now) c.args.answer.published.now c.args.answer.told.now z.frontier.now z.counts.now z.waiting.now z.edge.now z.changes.now (sym c.are_all_sized.ensures ∙ c.if-not-are_all_sized.false)).0

pub take_changes-requires-clause-scratch : goal.take_changes-requires-clause-scratch
take_changes-requires-clause-scratch g c =
    let z = c.args.scratch in
    let spare = (all_tell c.args.self.now (lent c.args.tables c.args.waiting.now) c.args.answer.published.now c.args.answer.told.now z.frontier.now z.counts.now z.waiting.now z.edge.now z.changes.now (sym c.are_all_sized.ensures ∙ c.if-not-are_all_sized.false)).1 in
    (spare.4, spare.1, spare.3)

pub take_statement-requires : goal.take_statement-requires
take_statement-requires g c =
    let z = c.args.scratch in
    let long = all_tell c.args.self.now (lent c.args.tables c.args.waiting.now) c.args.answer.published.now c.args.answer.told.now z.frontier.now z.counts.now z.waiting.now z.edge.now z.changes.now (sym c.are_all_sized.ensures ∙ c.if-not-are_all_sized.false) in
    (search rules, (long.0, (long.1.0, long.1.1, long.1.2, long.1.3)))

pub returns : goal.returns
returns g c =
    let o = g.T.PartialOrder in
    let k = kinds g.D.Same.alike o.below g.T.Lattice.joined g.T.Timestamp.start g.R.Same.alike in
    let reads = change_of g.D.Same.value o.value g.R.Same.value in
    let z = c.args.scratch in
    let P = c.args.answer.published.now in
    let Q = c.args.answer.told.now in
    let yes : all_sized c.args.self.now (lent c.args.tables c.args.waiting.now) P Q z.frontier.now z.counts.now z.waiting.now z.edge.now z.changes.now ≡ true = sym c.are_all_sized.ensures ∙ c.if-not-are_all_sized.false in
    let reading = message_of g.D.Same.value o.value g.R.Same.value in
    elim c.match-message.branch [
      | in-Updates w ↦ fed_same o.value reads k c.args.self.now (lent c.args.tables c.args.waiting.now) P Q yes (ap reading w.in-Updates.is) w.result-is w.self-is w.frontier-is w.reported-is w.counts-is w.held-is w.waiting-is w.published-is w.told-is w.take_changes.ensures.takes
      | in-Progress w ↦ fed_same o.value reads k c.args.self.now (lent c.args.tables c.args.waiting.now) P Q yes (ap reading w.in-Progress.is) w.result-is w.self-is w.frontier-is w.reported-is w.counts-is w.held-is w.waiting-is w.published-is w.told-is w.take_statement.ensures
    ]
