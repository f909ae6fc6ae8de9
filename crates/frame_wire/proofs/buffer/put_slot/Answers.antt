use Rattle.std.proofs.Common.{arith}
use Rattle.frame_wire.proofs.Slots.{fits_at, fits_whole}
use Rattle.frame_wire.proofs.buffer.put_slot.Goals as goal

pub overflow_mul-i : goal.overflow_mul-i
overflow_mul-i g c = omega (arith, fits_at c.args.i c.args.buffer.now g.V.Value.width c.frame_length-size.result c.frame_length-size.ensures c.requires)

pub write_frame_at-requires : goal.write_frame_at-requires
write_frame_at-requires g c = fits_whole c.args.i c.args.buffer.now g.V.Value.width c.frame_length-size.result c.frame_length-size.ensures c.requires
