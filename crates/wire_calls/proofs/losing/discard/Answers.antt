use Rattle.std.proofs.Common.{sym, ◌∙◌}
use Rattle.std.proofs.lemmas.Result.{err_from_is_err_and}
use Rattle.messages.specs.Meaning.{message}
use Rattle.wires.specs.Wire.{fault_number}
use Rattle.agreement.specs.Ring.{rewired}
use Rattle.agreement.proofs.Obeyed.{none_there, answered, lose_some, lose-none}
use Rattle.tables.specs.Refusals.{refusal_number}
use Rattle.turns.specs.Meaning.{kind_of}
use Rattle.wire_calls.proofs.losing.discard.Goals as goal

pub returns : goal.returns
returns g c s =
    let v = g.V.Value in
    let k = kind_of v.width v.valid v.allows in
    let here = rewired s (g.W.Wire.waiting c.args.wire.now) (g.W.Wire.capacity c.args.wire.now) in
    let e = c.in_ok-_lost.ensures in
    let w = g.W.Wire.waiting c.take_out.new.self in
    let q = g.W.Wire.capacity c.take_out.new.self in
    lose_some k here c.args.place (message v.bytes c.in_ok-_lost._lost) w q (sym e.value) e.after e.kept

pub returns-in_err-_lost : goal.returns-in_err-_lost
returns-in_err-_lost g c s =
    let v = g.V.Value in
    let k = kind_of v.width v.valid v.allows in
    let here = rewired s (g.W.Wire.waiting c.args.wire.now) (g.W.Wire.capacity c.args.wire.now) in
    let number = fault_number c.in_err-_lost.field-0.0 in
    let e = c.in_err-_lost.ensures in
    let w = g.W.Wire.waiting c.take_out.new.self in
    let q = g.W.Wire.capacity c.take_out.new.self in
    let p = err_from_is_err_and c.from_residual.result c.from_residual.ensures.1 in
    let nine = (none_there here.wire c.args.place number (sym e.value)).0 in
    rw p.1 (answered (refusal_number p.0) 9 (p.2 ∙ nine) (lose-none k here c.args.place number w q (sym e.value) e.after e.kept))
