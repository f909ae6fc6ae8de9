use Rattle.std.proofs.Common.{get_or, refl, ap}
use Rattle.rules.specs.Party as model
use Rattle.rows.specs.Meaning.{row_of}
use Rattle.rows.proofs.Senders.{changed_more, changed_all}
use Rattle.notes.proofs.clear.clear_rows.Goals as goal

pub loop-row-preserved : goal.loop-row-preserved
loop-row-preserved g c =
    let bytes = g.V.Value.bytes in
    let told = row_of bytes (get_or c.loop-row.rows c.loop-row.row-index c.row-item.result) in
    let emptied : model.Row → model.Row = λ e. record { request = told.request; abort = told.abort; done = told.done; suggest = e.suggest; proof = e.proof; vote = e.vote } in
    changed_more bytes model.cleared c.args.rows.now c.loop-row.rows c.loop-row.row-index c.row-item.result _
    c.loop-row-test.true c.loop-row.invariant c.row-item.is (ap emptied c.empty-empty.ensures)

pub returns : goal.returns
returns g c =
    changed_all g.V.Value.bytes model.cleared refl c.args.rows.now c.loop-row.rows c.loop-row.row-index c.loop-row-test.false c.loop-row.invariant
