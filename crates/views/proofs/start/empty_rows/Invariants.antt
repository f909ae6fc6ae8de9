use Rattle.rules.specs.Step.{empty_row}
use Rattle.rows.proofs.Senders.{Changed}
use Rattle.views.proofs.start.empty_rows.Given as goal

abbrev pub invariant-loop-row : goal.invariant-loop-row
invariant-loop-row g l = Changed g.V.Value.bytes (λ _. empty_row) l.initial.rows l.rows l.row-index
