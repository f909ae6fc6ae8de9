use Rattle.std.proofs.Common.{sym}
use Rattle.posting.proofs.Steps.{takes_same, does_same, does_nothing}
use Rattle.proposing.proofs.Ways.{suggest_proposed, suggest_still}
use Rattle.proposing.proofs.suggests.on_suggest.Goals as goal

pub propose_from-requires : goal.propose_from-requires
propose_from-requires g c =
    takes_same _ _ (suggest_proposed _ _ _ _ _ _ c.note_suggest.ensures c.if-due_propose.ensures c.best_of-best.ensures) c.requires.taken

pub returns-then-due_propose-clause-step : goal.returns-then-due_propose-clause-step
returns-then-due_propose-clause-step g c =
    does_same _ _ _ (sym (suggest_proposed _ _ _ _ _ _ c.note_suggest.ensures c.if-due_propose.ensures c.best_of-best.ensures)) c.propose_from.ensures.step

pub returns-else-due_propose-clause-step : goal.returns-else-due_propose-clause-step
returns-else-due_propose-clause-step g c =
    does_same _ _ _ (sym (suggest_still _ _ _ _ _ c.note_suggest.ensures c.if-due_propose.ensures)) (does_nothing _)
