use Rattle.std.proofs.Common.{sym}
use Rattle.posting.proofs.Steps.{takes_same, does_same}
use Rattle.proposing.proofs.Settled.{proof_told}
use Rattle.proposing.proofs.proposals.on_proof.Goals as goal

pub wake_proposal-requires-clause-taken : goal.wake_proposal-requires-clause-taken
wake_proposal-requires-clause-taken g c =
    takes_same _ _ (proof_told _ _ _ _ _ c.note_proof.ensures) c.requires.taken

pub returns-clause-step : goal.returns-clause-step
returns-clause-step g c =
    does_same _ _ _ (sym (proof_told _ _ _ _ _ c.note_proof.ensures)) c.wake_proposal.ensures.step
