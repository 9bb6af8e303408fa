use Rattle.std.proofs.Common.{rules}
use Rattle.std.proofs.lemmas.Slice.{overwrites}
use Rattle.frontier.proofs.entries.append_entries.Goals as goal

pub returns : goal.returns
returns g c = record { front = search (rules, overwrites); rest = search (rules, overwrites) }
