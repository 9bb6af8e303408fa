use Rattle.std.proofs.Common.{◌<◌, ltb, [], ◌∷◌, ◌++◌, map, length, take, ap, ◌∙◌, arith, rules}
use Rattle.std.proofs.lemmas.List.{take_more_set, map_push}
use Rattle.std.proofs.lemmas.Bool.{lt-ltb}
use Rattle.questions.proofs.Asking.{ask_next}
use Rattle.frontier.specs.Tables.{in_use}
use Rattle.capture.specs.Sizes.{reader_statements}
use Rattle.capture.specs.Stored.{stored_statement}
use Rattle.progress.proofs.statements.wait.Goals as goal

pub offset_bounds-waiting-len : goal.offset_bounds-waiting-len
offset_bounds-waiting-len g c =
    let h : c.args.len < length c.args.waiting.now = omega (arith, c.requires.1.1) in
    search rules

pub returns : goal.returns
returns g c =
    let o = g.T.PartialOrder in
    let stored = stored_statement o.value in
    let len = c.args.len in
    let W = c.args.waiting.now in
    let y = c.store.new.self in
    let h : len < length W = omega (arith, c.requires.1.1) in
    let near : len < reader_statements = omega arith in
    let told = c.in_ok-store.ensures in
    (ask_next (ltb len reader_statements) 10 [] (lt-ltb len reader_statements near), (ap (map stored) (take_more_set W len y h) ∙ map_push stored (take len W) y ∙ ap (λ v. in_use stored len W ++ v ∷ []) told.1, omega arith))
