use Rattle.std.proofs.Common.{◌≡◌, ◌-◌, ◌/◌, ◌<◌, ◌≤◌, min, length, refl, ap, ◌∙◌, arith}
use Rattle.frames.specs.Frames.{frame_length}
use Rattle.messages.specs.Meaning.{message}
use Rattle.wires.proofs.Places.{looked_past, taken_past, no_place, a_place}
use Rattle.frame_wire.specs.Buffer.{places, heard, slot, frames_in}
use Rattle.frame_wire.proofs.Slots.{length_listing, looked_listing, heard_fair, length-closed, listing_taken}
use Rattle.frame_wire.proofs.buffer.FrameWireWire.take_out.Goals as goal

pub returns-then-i-count : goal.returns-then-i-count
returns-then-i-count g c =
    let v = g.V.Value in
    let xs = frames_in v.valid v.width c.args.self.now.count c.args.self.now.buffer.now in
    let past : length xs ≤ c.args.i = omega (arith, c.count-count.ensures.value, c.if-i-count.true) in
    record { kept = refl; test = no_place xs c.args.i past; value = looked_past xs c.args.i past; ranged = tt; after = taken_past xs c.args.i past }

pub returns : goal.returns
returns g c =
    let v = g.V.Value in
    let b = c.args.self.now.buffer.now in
    let n = c.args.self.now.count in
    let i = c.args.i in
    let count = c.count-count.result in
    let h = c.if-i-count.false in
    let size = frame_length v.width in
    let hear = heard v.valid v.width in
    let xs = frames_in v.valid v.width n b in
    let e : count ≡ min n (places v.width b) = c.count-count.ensures.value ∙ length_listing size hear n b in
    let whole : count ≤ places v.width b = omega (arith, e) in
    let here : i < length xs = omega (arith, c.count-count.ensures.value, h) in
    record {
      kept = ap (λ l. l / size) (ap length c.take_slot-m.ensures.after ∙ length-closed size b i count h whole);
      test = a_place xs i here;
      value = looked_listing size hear n i b (message v.bytes c.take_slot-m.result) (omega (arith, e, h)) (omega (arith, e, h)) c.take_slot-m.ensures.value;
      ranged = heard_fair v.valid v.width g.met.V.Value.blank_valid (slot v.width b i) (message v.bytes c.take_slot-m.result) c.take_slot-m.ensures.value;
      after = ap (frames_in v.valid v.width (count - 1)) c.take_slot-m.ensures.after ∙ listing_taken size b i count h whole hear n e;
    }
