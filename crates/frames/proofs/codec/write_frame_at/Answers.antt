use Rattle.std.proofs.Common.{◌+◌, refl, arith}
use Rattle.messages.specs.Meaning.{message}
use Rattle.frames.specs.Frames.{head, frame}
use Rattle.frames.proofs.Calls.{three_writes}
use Rattle.frames.proofs.codec.write_frame_at.Goals as goal

pub returns : goal.returns
unfolding frame
returns g c =
    let v = g.V.Value in
    let m = message v.bytes c.args.m.now in
    let size = g.met.V.Value.sized c.args.m.now.value in
    three_writes c.args.out.now c.write_head.new.out c.write.new.out c.write-2.new.out (head m) m.value m.second_value c.args.at 20 (20 + c.width_of-second.result) refl (omega arith) (omega arith) (omega arith) c.write_head.ensures (cc) (cc)
