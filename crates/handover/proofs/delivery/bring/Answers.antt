use Rattle.std.proofs.Common.{cond, length, sym, ap, subst, arith}
use Rattle.std.proofs.lemmas.Result.{err_from_is_err_and}
use Rattle.messages.specs.Meaning.{message}
use Rattle.wires.specs.Wire.{looked, taken}
use Rattle.agreement.specs.Ring.{rewired}
use Rattle.agreement.specs.Calls.{said, deliver, Gives}
use Rattle.agreement.proofs.Obeyed.{bring_all, reach_after, no_longer, room_for_step}
use Rattle.tables.specs.Meaning.{ring_in}
use Rattle.tables.specs.Refusals.{refusal_number}
use Rattle.turns.specs.Meaning.{kind_of}
use Rattle.handover.proofs.Admitting.{let_through, bring-refused}
use Rattle.handover.proofs.delivery.bring.Goals as goal

pub reach-requires : goal.reach-requires
reach-requires g c =
    let v = g.V.Value in
    let k = kind_of v.width v.valid v.allows in
    let s = ring_in v.bytes c.args.tables.now (g.W.Wire.waiting c.args.wire.now) (g.W.Wire.capacity c.args.wire.now) in
    let t = let_through s.n s.capacity s.wire (looked s.wire c.args.place) (message v.bytes c.in_ok-m.m) (sym c.in_ok-m.ensures.value) in
    let e = c.take_unless.ensures in
    let w = g.W.Wire.waiting c.take_unless.new.wire in
    let q = g.W.Wire.capacity c.take_unless.new.wire in
    record {
      fit = c.requires;
      known = t.1;
      ranged = c.in_ok-m.ensures.ranged;
      room = room_for_step s w q t.2 (omega (arith, ap length e.after, no_longer c.args.keep s.wire c.args.place)) e.kept;
    }

pub returns-clause-gives : goal.returns-clause-gives
returns-clause-gives g c =
    let v = g.V.Value in
    let k = kind_of v.width v.valid v.allows in
    let s = ring_in v.bytes c.args.tables.now (g.W.Wire.waiting c.args.wire.now) (g.W.Wire.capacity c.args.wire.now) in
    let w = cond c.args.keep s.wire (taken s.wire c.args.place) in
    let m = message v.bytes c.in_ok-m.m in
    let t = let_through s.n s.capacity s.wire (looked s.wire c.args.place) m (sym c.in_ok-m.ensures.value) in
    let e = c.take_unless.ensures in
    let q = g.W.Wire.capacity c.take_unless.new.wire in
    let s' = ring_in v.bytes c.reach.new.tables (g.W.Wire.waiting c.reach.new.wire) (g.W.Wire.capacity c.reach.new.wire) in
    bring_all k s c.args.place w m t.0 (said c.reach.result) s' t.1 t.2
    (reach_after k s m w q (said c.reach.result) s' e.kept
    (subst (λ x. Gives (deliver k (rewired s x q) m x) (said c.reach.result) s') e.after c.reach.ensures.gives))

pub returns-in_err-m-clause-gives : goal.returns-in_err-m-clause-gives
returns-in_err-m-clause-gives g c =
    let v = g.V.Value in
    let k = kind_of v.width v.valid v.allows in
    let s = ring_in v.bytes c.args.tables.now (g.W.Wire.waiting c.args.wire.now) (g.W.Wire.capacity c.args.wire.now) in
    let w = cond c.args.keep s.wire (taken s.wire c.args.place) in
    let p = err_from_is_err_and c.from_residual.result c.from_residual.ensures.1 in
    rw (p.1, p.2) (bring-refused k s w (looked s.wire c.args.place) (refusal_number c.in_err-m.field-0.0) (sym c.in_err-m.ensures.value))
