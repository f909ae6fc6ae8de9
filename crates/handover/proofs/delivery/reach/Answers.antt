use Rattle.std.proofs.Common.{arith}
use Rattle.messages.specs.Meaning.{message}
use Rattle.agreement.specs.Calls.{said}
use Rattle.tables.specs.Meaning.{ring_in}
use Rattle.tables.proofs.Fitting.{records_enough, rows_enough}
use Rattle.turns.specs.Meaning.{kind_of}
use Rattle.agreement.proofs.Obeyed.{both_known, reach_faulty, reach_honest}
use Rattle.handover.proofs.delivery.reach.Goals as goal

pub returns-then-is_named-clause-gives : goal.returns-then-is_named-clause-gives
returns-then-is_named-clause-gives g c =
    let v = g.V.Value in
    let k = kind_of v.width v.valid v.allows in
    let s = ring_in v.bytes c.args.tables.now (g.W.Wire.waiting c.args.wire.now) (g.W.Wire.capacity c.args.wire.now) in
    let m = message v.bytes c.args.m.now in
    let p = both_known s m c.requires.known in
    reach_faulty k s m (c.if-is_named.ensures (omega (arith, p.1.1, c.args.tables.now.ring.most)))

pub receive-requires : goal.receive-requires
receive-requires g c =
    let v = g.V.Value in
    let k = kind_of v.width v.valid v.allows in
    let s = ring_in v.bytes c.args.tables.now (g.W.Wire.waiting c.args.wire.now) (g.W.Wire.capacity c.args.wire.now) in
    let m = message v.bytes c.args.m.now in
    let p = both_known s m c.requires.known in
    record {
      fit = c.requires.fit;
      places = (records_enough s c.requires.fit, rows_enough s c.requires.fit);
      honest = (p.1.0, p.1.1, c.if-is_named.ensures (omega (arith, p.1.1, c.args.tables.now.ring.most)));
      sent = (p.0.0, p.0.1, c.requires.ranged);
      room = c.requires.room;
    }

pub returns-clause-gives : goal.returns-clause-gives
returns-clause-gives g c =
    let v = g.V.Value in
    let k = kind_of v.width v.valid v.allows in
    let s = ring_in v.bytes c.args.tables.now (g.W.Wire.waiting c.args.wire.now) (g.W.Wire.capacity c.args.wire.now) in
    let m = message v.bytes c.args.m.now in
    let p = both_known s m c.requires.known in
    reach_honest k s m (said c.receive.result) _ (c.if-is_named.ensures (omega (arith, p.1.1, c.args.tables.now.ring.most))) c.receive.ensures.gives
