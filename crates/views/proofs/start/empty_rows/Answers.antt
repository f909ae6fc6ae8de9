use Rattle.std.proofs.Common.{refl}
use Rattle.rules.specs.Step.{empty_row}
use Rattle.rows.proofs.Senders.{changed_more, changed_all}
use Rattle.views.proofs.start.empty_rows.Goals as goal

pub loop-row-preserved : goal.loop-row-preserved
loop-row-preserved g c =
    changed_more g.V.Value.bytes (λ _. empty_row) c.args.rows.now c.loop-row.rows c.loop-row.row-index c.row-item.result _
    c.loop-row-test.true c.loop-row.invariant c.row-item.is c.empty.ensures

pub returns : goal.returns
returns g c =
    changed_all g.V.Value.bytes (λ _. empty_row) refl c.args.rows.now c.loop-row.rows c.loop-row.row-index c.loop-row-test.false c.loop-row.invariant
