use Rattle.frames.proofs.Back.{reads_back}
use Rattle.frames.proofs.codec.reads_back.Goals as goal

pub returns : goal.returns
returns c = reads_back
