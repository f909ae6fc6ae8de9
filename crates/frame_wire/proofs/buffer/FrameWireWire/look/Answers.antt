use Rattle.std.proofs.Common.{◌<◌, min, arith, rules}
use Rattle.frames.specs.Frames.{frame_length}
use Rattle.messages.specs.Meaning.{message}
use Rattle.wires.proofs.Places.{looked_past}
use Rattle.frame_wire.specs.Buffer.{heard, places, slot}
use Rattle.frame_wire.proofs.Slots.{length_listing, looked_listing, heard_fair}
use Rattle.frame_wire.proofs.buffer.FrameWireWire.look.Goals as goal

pub returns-then-i-count-clause-value : goal.returns-then-i-count-clause-value
returns-then-i-count-clause-value g c = search (rules, looked_past)

pub returns-clause-value : goal.returns-clause-value
returns-clause-value g c =
    let v = g.V.Value in
    let b = c.args.self.now.buffer.now in
    let n = c.args.self.now.count in
    let size = frame_length v.width in
    let hear = heard v.valid v.width in
    let here : c.args.i < min n (places v.width b) = omega (arith, c.count.ensures.value, length_listing size hear n b, c.if-i-count.false) in
    looked_listing size hear n c.args.i b (message v.bytes c.in_slot.result) (omega (arith, here)) (omega (arith, here)) c.in_slot.ensures

pub returns-clause-ranged : goal.returns-clause-ranged
returns-clause-ranged g c =
    let v = g.V.Value in
    heard_fair v.valid v.width g.met.V.Value.blank_valid (slot v.width c.args.self.now.buffer.now c.args.i) (message v.bytes c.in_slot.result) c.in_slot.ensures
