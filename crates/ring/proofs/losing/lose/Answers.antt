use Rattle.std.proofs.Common.{refl}
use Rattle.agreement.specs.Runs.{lose}
use Rattle.agreement.proofs.Obeyed.{unfit, obeyed}
use Rattle.tables.specs.Meaning.{ring_of, answer_of}
use Rattle.turns.specs.Meaning.{kind_of}
use Rattle.ring.proofs.losing.lose.Goals as goal

pub returns-then-not-tables_in_order : goal.returns-then-not-tables_in_order
returns-then-not-tables_in_order g c =
    let v = g.V.Value in
    let k = kind_of v.width v.valid v.allows in
    let s = ring_of v.bytes c.args.ring.now c.args.records.now c.args.rows.now (g.W.Wire.waiting c.args.wire.now) (g.W.Wire.capacity c.args.wire.now) in
    unfit k s (lose c.args.place) s c.if-not-tables_in_order.ensures refl

pub returns : goal.returns
returns g c =
    let v = g.V.Value in
    let k = kind_of v.width v.valid v.allows in
    let s = ring_of v.bytes c.args.ring.now c.args.records.now c.args.rows.now (g.W.Wire.waiting c.args.wire.now) (g.W.Wire.capacity c.args.wire.now) in
    obeyed k s (lose c.args.place) (answer_of c.discard.result) _ c.if-not-tables_in_order.ensures (c.discard.ensures s)
