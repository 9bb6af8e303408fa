use Rattle.std.proofs.Common.{ap, arith}
use Rattle.std.proofs.lemmas.Bool.Decides.{nat_tests}
use Rattle.writing.specs.Files.{messages_of, says_so}
use Rattle.writing.proofs.Appending.{posted}
use Rattle.writing.proofs.lines_post.LinesPostWriterLessonTimeAmount.poll.Goals as goal

pub invariant_of-self : goal.invariant_of-self
invariant_of-self c = record { formed = ap says_so (posted c.args.self.now.lines c.message.new.self _ c.args.self.now.formed c.in-Ok.ensures.form c.in-Ok.ensures.text) }

pub returns-in-Ok : goal.returns-in-Ok
returns-in-Ok c =
    let told = c.in-Ok.ensures in
    (grind (arith, nat_tests), ap messages_of (posted c.args.self.now.lines c.message.new.self _ c.args.self.now.formed told.form told.text))
