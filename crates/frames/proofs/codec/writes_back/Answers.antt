use Rattle.frames.proofs.Back.{writes_back}
use Rattle.frames.proofs.codec.writes_back.Goals as goal

pub returns : goal.returns
returns c = writes_back
