use Rattle.std.proofs.Common.{sym}
use Rattle.posting.proofs.Steps.{takes_same, does_same}
use Rattle.proposing.proofs.Settled.{settled_wake}
use Rattle.proposing.proofs.proposals.wake_proposal.Goals as goal

pub settle-requires : goal.settle-requires
settle-requires g c =
    takes_same _ _ (sym (settled_wake _ _ _ _ c.requires.whole)) c.requires.taken

pub returns-clause-step : goal.returns-clause-step
returns-clause-step g c =
    does_same _ _ _ (settled_wake _ _ _ _ c.requires.whole) c.settle.ensures.step
