use Rattle.std.proofs.ByRecursion.{All-map}
use Rattle.lines.specs.Values.{time_value}
use Rattle.writing.specs.Writing.{FormedTime}
use Rattle.writing.proofs.Forming.{where_some}
use Rattle.writing.proofs.entries.put_times.Goals as goal

pub returns-clause-form : goal.returns-clause-form
returns-clause-form c = where_some c.put_entries.result (All-map FormedTime time_value c.args.times.now) c.put_entries.ensures.form
