use Rattle.std.proofs.Common.{sym, rules}
use Rattle.notes.proofs.notes.note_abort.Goals as goal

pub returns : goal.returns
returns g c = let e = sym c.row_from-row.ensures in search (rules, e)
