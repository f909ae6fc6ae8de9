use Rattle.std.proofs.Common.{arith, rules}
use Rattle.frame_wire.proofs.Slots.{fits_at}
use Rattle.frame_wire.proofs.buffer.in_slot.Goals as goal

pub overflow_mul-from : goal.overflow_mul-from
overflow_mul-from g c = omega (arith, fits_at c.args.i c.args.buffer.now g.V.Value.width c.frame_length-size.result c.frame_length-size.ensures c.requires)

pub overflow_add-from : goal.overflow_add-from
overflow_add-from g c = omega (arith, fits_at c.args.i c.args.buffer.now g.V.Value.width c.frame_length-size.result c.frame_length-size.ensures c.requires)

pub slice_bounds-read_frame-end : goal.slice_bounds-read_frame-end
slice_bounds-read_frame-end g c =
    let h = fits_at c.args.i c.args.buffer.now g.V.Value.width c.frame_length-size.result c.frame_length-size.ensures c.requires in
    search rules
