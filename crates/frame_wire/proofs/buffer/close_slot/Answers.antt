use Rattle.std.proofs.Common.{arith}
use Rattle.frame_wire.proofs.Slots.{gap_at}
use Rattle.frame_wire.proofs.buffer.close_slot.Goals as goal

pub overflow_mul-i : goal.overflow_mul-i
overflow_mul-i g c =
    let h = gap_at c.args.i c.args.count c.args.buffer.now g.V.Value.width c.frame_length-size.result c.frame_length-size.ensures c.requires.0 c.requires.1 in
    omega (arith, h.0, h.1)

pub overflow_mul-count : goal.overflow_mul-count
overflow_mul-count g c =
    let h = gap_at c.args.i c.args.count c.args.buffer.now g.V.Value.width c.frame_length-size.result c.frame_length-size.ensures c.requires.0 c.requires.1 in
    omega (arith, h.1)

pub close_gap-requires : goal.close_gap-requires
close_gap-requires g c = gap_at c.args.i c.args.count c.args.buffer.now g.V.Value.width c.frame_length-size.result c.frame_length-size.ensures c.requires.0 c.requires.1
