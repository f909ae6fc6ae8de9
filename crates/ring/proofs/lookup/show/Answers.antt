use Rattle.std.proofs.Common.{refl}
use Rattle.agreement.specs.Runs.{show}
use Rattle.agreement.proofs.Obeyed.{unfit, obeyed}
use Rattle.tables.specs.Meaning.{ring_of}
use Rattle.turns.specs.Meaning.{kind_of}
use Rattle.ring.specs.Meaning.{shown_answer}
use Rattle.ring.proofs.lookup.show.Goals as goal

pub returns-then-not-tables_in_order : goal.returns-then-not-tables_in_order
returns-then-not-tables_in_order g c w q =
    let v = g.V.Value in
    let k = kind_of v.width v.valid v.allows in
    let s = ring_of v.bytes c.args.ring.now c.args.records.now c.args.rows.now w q in
    unfit k s (show c.args.party) s c.if-not-tables_in_order.ensures refl

pub returns : goal.returns
returns g c w q =
    let v = g.V.Value in
    let k = kind_of v.width v.valid v.allows in
    let s = ring_of v.bytes c.args.ring.now c.args.records.now c.args.rows.now w q in
    obeyed k s (show c.args.party) (shown_answer v.bytes c.look_up.result) s c.if-not-tables_in_order.ensures (c.look_up.ensures w q)
