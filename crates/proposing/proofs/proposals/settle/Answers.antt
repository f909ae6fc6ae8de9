use Rattle.std.proofs.Common.{sym}
use Rattle.posting.proofs.Steps.{takes_same, does_same, does_nothing}
use Rattle.proposing.proofs.Settled.{settled_still, settled_taken}
use Rattle.proposing.proofs.proposals.settle.Goals as goal

pub take_state-requires : goal.take_state-requires
take_state-requires g c =
    takes_same _ _ (settled_taken _ _ _ _ _ c.if-settled_already.ensures c.after_message-state.ensures) c.requires

pub returns-then-settled_already-clause-step : goal.returns-then-settled_already-clause-step
returns-then-settled_already-clause-step g c =
    does_same _ _ _ (sym (settled_still _ _ _ _ c.if-settled_already.ensures)) (does_nothing _)

pub returns-else-settled_already-clause-step : goal.returns-else-settled_already-clause-step
returns-else-settled_already-clause-step g c =
    does_same _ _ _ (sym (settled_taken _ _ _ _ _ c.if-settled_already.ensures c.after_message-state.ensures)) c.take_state.ensures.step
