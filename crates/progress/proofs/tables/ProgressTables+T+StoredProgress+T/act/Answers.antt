use Rattle.std.proofs.Common.{◌≡◌, ◌≤◌, Bool, List, [], map, length, take, ℕ, Some, None, sym, ap, ◌∙◌, arith}
use Rattle.std.proofs.lemmas.Result.{err_from_is_err_and}
use Rattle.std.proofs.lemmas.List.{take-take}
use Rattle.questions.specs.Questions.{number_of, first_no}
use Rattle.frontier.specs.Counts.{added_all, room}
use Rattle.frontier.specs.Frontiers.{fits, join, pairwise}
use Rattle.frontier.specs.Tables.{in_use, counted, frontier_size, table_asks, frontier_asks}
use Rattle.frontier.proofs.Filling.{made_few, fit_length, adding}
use Rattle.frontier.proofs.Tables.{accepted, refused_full, length_in_use}
use Rattle.capture.specs.Sizes.{reader_counts}
use Rattle.capture.specs.Statements.{Progress, counts_beyond, not_passed}
use Rattle.capture.specs.Views.{statement_of}
use Rattle.progress.specs.Tables.{time_of}
use Rattle.progress.specs.Lent.{progress_in}
use Rattle.progress.proofs.Acting.{act_many_times, act_fits, same_progress}
use Rattle.progress.proofs.tables.ProgressTables+T+StoredProgress+T.act.Goals as goal

-- whether the counts of a statement that are not behind the frontier find room
abbrev few_counts : {A : Type 0} → (A → A → Bool) → Progress A → List (A × ℕ) → List A → Bool
few_counts below p counts f = room below reader_counts p.counts (counts_beyond below f counts)

pub returns-in_err-joined-clause-answer : goal.returns-in_err-joined-clause-answer
returns-in_err-joined-clause-answer g c =
    let o = g.T.PartialOrder in
    let t = time_of o.below g.T.Lattice.joined g.T.Timestamp.start in
    let self = c.args.self.now in
    let n = self.lengths in
    let p = progress_in o.value self in
    let s = statement_of o.value c.args.statement in
    let few = few_counts o.below p s.counts in
    let beside : map o.value (take n.frontier c.copy_entries.new.to) ≡ p.frontier = ap (map o.value) (c.copy_entries.ensures.front ∙ ap (take n.frontier) c.frontier.ensures ∙ take-take n.frontier n.frontier self.frontier.now (omega arith)) in
    let added : first_no (table_asks reader_counts 11 (length self.counts.now) n.counts (few p.frontier)) ≡ None = ap (λ f. first_no (table_asks reader_counts 11 (length self.counts.now) n.counts (few f))) (sym beside) ∙ c.in_ok-added.ensures.0 in
    let other : map o.value c.frontier-2.result.now ≡ p.frontier = ap (map o.value) c.frontier-2.ensures in
    let short : List _ → Bool = λ f. fits o.below frontier_size [] (pairwise g.T.Lattice.joined s.upper f) in
    let l = length c.copy_entries.new.to in
    let wide : frontier_size ≤ l = omega (arith, c.copy_entries.auto.to, c.args.spare.now.sized) in
    let first = accepted reader_counts 11 (length self.counts.now) n.counts (few p.frontier) added in
    let many = refused_full frontier_size 12 l 0 (short p.frontier) (omega arith) wide (number_of c.in_err-joined.field-0.0) (ap (λ f. first_no (frontier_asks l 0 (short f))) (sym other) ∙ c.in_err-joined.ensures.answer.0) in
    let q = err_from_is_err_and c.from_residual-in_err-joined.result c.from_residual-in_err-joined.ensures.1 in
    rw (q.1, q.2) (act_many_times t s p first.2 many.0 ∙ ap Some (sym many.1), tt)

pub copy_entries-requires-2 : goal.copy_entries-requires-2
copy_entries-requires-2 g c =
    let o = g.T.PartialOrder in
    let self = c.args.self.now in
    let made = c.in_ok-joined.ensures.answer in
    let times_few = made_few o.below o.value (pairwise g.T.Lattice.joined (map o.value c.args.statement.upper.now) (map o.value c.frontier-2.result.now)) c.in_ok-joined.joined c.join_into.new.table made.1 (length c.copy_entries.new.to) made.0 in
    (omega (arith, c.join_into.auto.table, c.copy_entries.auto.to, c.args.spare.now.sized), omega (arith, self.sized.1))

pub invariant_of-self-3 : goal.invariant_of-self-3
invariant_of-self-3 g c =
    let o = g.T.PartialOrder in
    let t = time_of o.below g.T.Lattice.joined g.T.Timestamp.start in
    let self = c.args.self.now in
    let n = self.lengths in
    let p = progress_in o.value self in
    let s = statement_of o.value c.args.statement in
    let few = few_counts o.below p s.counts in
    let beside : map o.value (take n.frontier c.copy_entries.new.to) ≡ p.frontier = ap (map o.value) (c.copy_entries.ensures.front ∙ ap (take n.frontier) c.frontier.ensures ∙ take-take n.frontier n.frontier self.frontier.now (omega arith)) in
    let added : first_no (table_asks reader_counts 11 (length self.counts.now) n.counts (few p.frontier)) ≡ None = ap (λ f. first_no (table_asks reader_counts 11 (length self.counts.now) n.counts (few f))) (sym beside) ∙ c.in_ok-added.ensures.0 in
    let other : map o.value c.frontier-2.result.now ≡ p.frontier = ap (map o.value) c.frontier-2.ensures in
    let short : List _ → Bool = λ f. fits o.below frontier_size [] (pairwise g.T.Lattice.joined s.upper f) in
    let l = length c.copy_entries.new.to in
    let wide : frontier_size ≤ l = omega (arith, c.copy_entries.auto.to, c.args.spare.now.sized) in
    let made = c.in_ok-joined.ensures.answer in
    let size : length p.counts ≤ reader_counts = omega (arith, self.sized.2, length_in_use (counted o.value) n.counts self.counts.now (omega (arith, self.sized.2, self.sized.3))) in
    let times_few = made_few o.below o.value (pairwise g.T.Lattice.joined s.upper (map o.value c.frontier-2.result.now)) c.in_ok-joined.joined c.join_into.new.table made.1 l made.0 in
    let counts_few = fit_length (adding o.below reader_counts) p.counts (counts_beyond o.below p.frontier s.counts) size (accepted reader_counts 11 (length self.counts.now) n.counts (few p.frontier) added).2 in
    let sums : length (added_all o.below p.counts (counts_beyond o.below p.frontier s.counts)) ≡ c.in_ok-added.added = ap (λ f. length (added_all o.below p.counts (counts_beyond o.below f s.counts))) (sym beside) ∙ c.in_ok-added.ensures.1.1 in
    record {
      sized = (
        times_few,
        omega (arith, c.copy_entries-2.auto.to, self.sized.1),
        omega (arith, counts_few, sums),
        omega (arith, c.add_counts.auto.table, self.sized.3),
        omega (arith, c.drop_passed-left.ensures.within, self.sized.4),
        omega (arith, c.drop_passed-left.auto.waiting, self.sized.5),
      );
    }

pub returns-clause-answer : goal.returns-clause-answer
returns-clause-answer g c =
    let o = g.T.PartialOrder in
    let t = time_of o.below g.T.Lattice.joined g.T.Timestamp.start in
    let self = c.args.self.now in
    let n = self.lengths in
    let p = progress_in o.value self in
    let s = statement_of o.value c.args.statement in
    let few = few_counts o.below p s.counts in
    let beside : map o.value (take n.frontier c.copy_entries.new.to) ≡ p.frontier = ap (map o.value) (c.copy_entries.ensures.front ∙ ap (take n.frontier) c.frontier.ensures ∙ take-take n.frontier n.frontier self.frontier.now (omega arith)) in
    let added : first_no (table_asks reader_counts 11 (length self.counts.now) n.counts (few p.frontier)) ≡ None = ap (λ f. first_no (table_asks reader_counts 11 (length self.counts.now) n.counts (few f))) (sym beside) ∙ c.in_ok-added.ensures.0 in
    let other : map o.value c.frontier-2.result.now ≡ p.frontier = ap (map o.value) c.frontier-2.ensures in
    let short : List _ → Bool = λ f. fits o.below frontier_size [] (pairwise g.T.Lattice.joined s.upper f) in
    let l = length c.copy_entries.new.to in
    let wide : frontier_size ≤ l = omega (arith, c.copy_entries.auto.to, c.args.spare.now.sized) in
    let joins = g.T.Lattice.joined in
    let made = c.in_ok-joined.ensures.answer in
    let counts_fit = (accepted reader_counts 11 (length self.counts.now) n.counts (few p.frontier) added).2 in
    let times_fit = (accepted frontier_size 12 l 0 (short p.frontier) (ap (λ f. first_no (frontier_asks l 0 (short f))) (sym other) ∙ made.0)).2 in
    let joined : in_use o.value c.in_ok-joined.joined c.join_into.new.table ≡ join o.below joins s.upper p.frontier = made.1.0 ∙ ap (join o.below joins s.upper) other in
    let front : in_use o.value c.in_ok-joined.joined c.copy_entries-2.new.to ≡ join o.below joins s.upper p.frontier = ap (map o.value) c.copy_entries-2.ensures.front ∙ joined in
    let sums = c.in_ok-added.ensures.1.0 ∙ ap (λ f. added_all o.below p.counts (counts_beyond o.below f s.counts)) beside in
    let left = c.drop_passed-left.ensures.after.0 ∙ ap (λ f. not_passed o.below f p.waiting) joined in
    (act_fits t s p counts_fit times_fit, same_progress front sums left)
