use Rattle.rules.specs.Party.{cleared}
use Rattle.rows.proofs.Senders.{Changed}
use Rattle.notes.proofs.clear.clear_rows.Given as goal

abbrev pub invariant-loop-row : goal.invariant-loop-row
invariant-loop-row g l = Changed g.V.Value.bytes cleared l.initial.rows l.rows l.row-index
