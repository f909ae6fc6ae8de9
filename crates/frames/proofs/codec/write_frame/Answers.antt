use Rattle.std.proofs.Common.{◌≤◌, length, take, sym, ap, ◌∙◌, arith}
use Rattle.messages.specs.Meaning.{message}
use Rattle.frames.specs.Frames.{frame_length, unframe}
use Rattle.frames.proofs.Calls.{front_back, is-written, is-after}
use Rattle.frames.proofs.codec.write_frame.Goals as goal

pub returns : goal.returns
returns g c =
    let v = g.V.Value in
    let m = message v.bytes c.args.m.now in
    let out = c.args.out.now in
    let h = sym c.if-not-in_range.ensures in
    let l : frame_length v.width ≤ length out = omega (arith, c.frame_length-length.ensures) in
    record {
      answer = is-written v.valid v.width m out c.frame_length-length.result c.frame_length-length.ensures l h;
      after = c.write_frame_at.ensures ∙ is-after v.valid v.width m out l h;
      back = λ _. ap (λ w. unframe v.valid v.width (take (frame_length v.width) w)) c.write_frame_at.ensures ∙ front_back v.valid v.width out m h;
    }
