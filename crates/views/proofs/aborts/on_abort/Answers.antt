use Rattle.std.proofs.Common.{sym}
use Rattle.posting.proofs.Steps.{takes_same, does_same}
use Rattle.views.proofs.Ways.{abort_noted}
use Rattle.views.proofs.aborts.on_abort.Goals as goal

pub give_up-requires : goal.give_up-requires
give_up-requires g c =
    takes_same _ _ (abort_noted _ _ _ _ _ _ _ _ c.row_of_sender-row.ensures c.max.ensures c.note_abort.ensures c.vouched_abort-vouched.ensures) c.requires.taken

pub returns-clause-step : goal.returns-clause-step
returns-clause-step g c =
    does_same _ _ _ (sym (abort_noted _ _ _ _ _ _ _ _ c.row_of_sender-row.ensures c.max.ensures c.note_abort.ensures c.vouched_abort-vouched.ensures)) c.give_up.ensures.step
