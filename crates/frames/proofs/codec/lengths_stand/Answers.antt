use Rattle.frames.proofs.Back.{frame_length_stands}
use Rattle.frames.proofs.codec.lengths_stand.Goals as goal

pub returns : goal.returns
returns c = frame_length_stands
