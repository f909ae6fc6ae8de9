use Rattle.std.proofs.Common.{sym}
use Rattle.posting.proofs.Steps.{takes_same, does_same, does_nothing}
use Rattle.voting.proofs.Ways.{vote_announced, vote_still}
use Rattle.voting.proofs.votes.on_vote.Goals as goal

pub announce-requires : goal.announce-requires
announce-requires g c =
    takes_same _ _ (vote_announced _ _ _ _ _ _ _ c.requires.whole.2 c.cause.ensures c.note_vote.ensures c.if-announce_due.ensures) c.requires.taken

pub returns-then-announce_due-clause-step : goal.returns-then-announce_due-clause-step
returns-then-announce_due-clause-step g c =
    does_same _ _ _ (sym (vote_announced _ _ _ _ _ _ _ c.requires.whole.2 c.cause.ensures c.note_vote.ensures c.if-announce_due.ensures)) c.announce.ensures.step

pub returns-else-announce_due-clause-step : goal.returns-else-announce_due-clause-step
returns-else-announce_due-clause-step g c =
    does_same _ _ _ (sym (vote_still _ _ _ _ _ _ _ c.requires.whole.2 c.cause.ensures c.note_vote.ensures c.if-announce_due.ensures)) (does_nothing _)
