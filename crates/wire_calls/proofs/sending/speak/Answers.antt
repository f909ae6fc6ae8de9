use Rattle.std.proofs.Common.{◌≡◌, true, ◌&&◌, arith}
use Rattle.messages.specs.Meaning.{message}
use Rattle.agreement.specs.Ring.{in_ring}
use Rattle.agreement.proofs.Obeyed.{both_known}
use Rattle.tables.specs.Meaning.{ring_with}
use Rattle.turns.specs.Meaning.{kind_of}
use Rattle.wire_calls.proofs.Sent.{send_free, send-done}
use Rattle.wire_calls.proofs.sending.speak.Goals as goal

pub returns : goal.returns
returns g c parties records rows =
    let v = g.V.Value in
    let k = kind_of v.width v.valid v.allows in
    let s = ring_with c.args.ring.now parties records rows (g.W.Wire.waiting c.args.wire.now) (g.W.Wire.capacity c.args.wire.now) in
    let m = message v.bytes c.args.m.now in
    let liar : true ≡ (in_ring s m.from && in_ring s m.to) → c.is_named.result ≡ s.faulty m.from =
    λ known. let b = both_known s m known in c.is_named.ensures (omega (arith, b.0.1, c.args.ring.now.most)) in
    let p = send_free k s m c.has_both.result c.is_named.result c.has_both.ensures liar c.in_ok-standing.ensures in
    let e = c.post.ensures in
    send-done k s m c.post.result (g.W.Wire.waiting c.post.new.wire) (g.W.Wire.capacity c.post.new.wire) p.0 p.1 e.one e.value e.after e.kept
