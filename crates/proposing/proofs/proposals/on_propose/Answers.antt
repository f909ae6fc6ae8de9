use Rattle.std.proofs.Common.{sym}
use Rattle.posting.proofs.Steps.{takes_same, does_same}
use Rattle.proposing.proofs.Settled.{settled_propose}
use Rattle.proposing.proofs.proposals.on_propose.Goals as goal

pub settle-requires : goal.settle-requires
settle-requires g c =
    takes_same _ _ (sym (settled_propose _ _ _ _ c.requires.whole.0 c.requires.whole.1)) c.requires.taken

pub returns-clause-step : goal.returns-clause-step
returns-clause-step g c =
    does_same _ _ _ (settled_propose _ _ _ _ c.requires.whole.0 c.requires.whole.1) c.settle.ensures.step
