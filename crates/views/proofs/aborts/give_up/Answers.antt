use Rattle.rules.specs.Step.{leave}
use Rattle.posting.proofs.Steps.{takes_before, takes_after}
use Rattle.views.proofs.aborts.give_up.Goals as goal

pub raise_abort-aborts-requires : goal.raise_abort-aborts-requires
raise_abort-aborts-requires g c = takes_before _ (leave _ _) c.requires

pub leave_view-entries-requires : goal.leave_view-entries-requires
leave_view-entries-requires g c =
    rw c.raise_abort-aborts.ensures.lent.0 (takes_after _ (leave _ _) _ c.requires c.raise_abort-aborts.ensures.step)
