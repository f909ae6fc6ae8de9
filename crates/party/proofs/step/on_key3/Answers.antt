use Rattle.std.proofs.Common.{◌||◌, eqb, ap}
use Rattle.rules.specs.Step.{wake}
use Rattle.posting.proofs.Steps.{takes_before, takes_after}
use Rattle.party.proofs.step.on_key3.Goals as goal

pub on_vote-votes-requires-clause-taken : goal.on_vote-votes-requires-clause-taken
on_vote-votes-requires-clause-taken g c = takes_before _ (wake _ _) c.requires.taken

pub wake_proposal-echoes-requires-clause-whole : goal.wake_proposal-echoes-requires-clause-whole
wake_proposal-echoes-requires-clause-whole g c = ap (λ k. eqb k 3 || eqb k 8) c.requires.whole.2

pub wake_proposal-echoes-requires-clause-taken : goal.wake_proposal-echoes-requires-clause-taken
wake_proposal-echoes-requires-clause-taken g c =
    rw c.on_vote-votes.ensures.lent.0 (takes_after _ (wake _ _) _ c.requires.taken c.on_vote-votes.ensures.step)
