use Rattle.std.proofs.ByRecursion.{All-map}
use Rattle.writing.specs.Puts.{change_value}
use Rattle.writing.specs.Writing.{FormedChange}
use Rattle.writing.proofs.Forming.{where_some}
use Rattle.writing.proofs.entries.put_changes.Goals as goal

pub returns-clause-form : goal.returns-clause-form
returns-clause-form c = where_some c.put_entries.result (All-map FormedChange change_value c.args.changes.now) c.put_entries.ensures.form
