use Rattle.std.proofs.Common.{min, arith}
use Rattle.std.specs.List.{range_with_len}
use Rattle.frames.specs.Frames.{frame_length}
use Rattle.frames.proofs.Back.{all_spelled}
use Rattle.wires.specs.Wire.{fixed_request}
use Rattle.wires.proofs.Ranges.{fixed_ranged}
use Rattle.frame_wire.specs.Buffer.{heard, places, slot}
use Rattle.frame_wire.proofs.Slots.{length_listing}
use Rattle.frame_wire.proofs.buffer.FrameWireWire.count.Goals as goal

pub returns : goal.returns
returns g c =
    let v = g.V.Value in
    let b = c.args.self.now.buffer.now in
    let n = c.args.self.now.count in
    let l = length_listing (frame_length v.width) (heard v.valid v.width) n b in
    let fair = fixed_ranged v.valid v.width g.met.V.Value.blank_valid in
    record { value = omega (arith, l, c.min.ensures, c.places_of.ensures); within = omega (arith, l); ranged = all_spelled v.valid v.width (fixed_request v.width) fair (slot v.width b) (range_with_len 0 (min n (places v.width b))) }
