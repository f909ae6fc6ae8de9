use Rattle.std.proofs.Common.{refl}
use Rattle.frames.specs.Frames.{frame, unframe}
use Rattle.frames.proofs.figures.figures_stand.Goals as goal

pub returns : goal.returns
unfolding frame unframe
returns c =
    record {
      one_at_the_end = refl;
      two_at_the_end = refl;
      pace_600 = refl;
      pace_601 = refl;
      pace_601_bytes = refl;
      proof_in_range = refl;
      proof_frame = refl;
      proof_read = refl;
    }
