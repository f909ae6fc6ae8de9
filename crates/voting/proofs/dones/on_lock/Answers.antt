use Rattle.std.proofs.Common.{sym}
use Rattle.posting.proofs.Steps.{takes_same, does_same, does_nothing}
use Rattle.voting.proofs.Ways.{lock_told, lock_still}
use Rattle.voting.proofs.dones.on_lock.Goals as goal

pub tell_done-requires : goal.tell_done-requires
tell_done-requires g c =
    takes_same _ _ (lock_told _ _ _ _ _ c.requires.whole.2 c.note_vote.ensures c.if-due_by_locks.ensures) c.requires.taken

pub returns-then-due_by_locks-clause-step : goal.returns-then-due_by_locks-clause-step
returns-then-due_by_locks-clause-step g c =
    does_same _ _ _ (sym (lock_told _ _ _ _ _ c.requires.whole.2 c.note_vote.ensures c.if-due_by_locks.ensures)) c.tell_done.ensures.step

pub returns-else-due_by_locks-clause-step : goal.returns-else-due_by_locks-clause-step
returns-else-due_by_locks-clause-step g c =
    does_same _ _ _ (sym (lock_still _ _ _ _ _ c.requires.whole.2 c.note_vote.ensures c.if-due_by_locks.ensures)) (does_nothing _)
