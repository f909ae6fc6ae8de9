use Rattle.std.proofs.Common.{rules}
use Rattle.rows.proofs.Senders.{row_from}
use Rattle.notes.proofs.entries.row_from.Goals as goal

pub returns : goal.returns
returns g c = search (rules, row_from)
