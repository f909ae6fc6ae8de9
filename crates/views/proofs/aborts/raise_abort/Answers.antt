use Rattle.std.proofs.Common.{sym, ap}
use Rattle.posting.proofs.Steps.{takes_same, does_same, does_nothing}
use Rattle.rows.specs.Meaning.{record_of}
use Rattle.views.proofs.Ways.{told_all, told_none}
use Rattle.views.proofs.aborts.raise_abort.Goals as goal

pub send_view-posts-requires : goal.send_view-posts-requires
send_view-posts-requires g c =
    takes_same _ _ (told_all _ _ _ _ _ c.row_of_sender.ensures c.if-row_of_sender-view.true) c.requires

pub returns-then-row_of_sender-view-clause-step : goal.returns-then-row_of_sender-view-clause-step
returns-then-row_of_sender-view-clause-step g c =
    does_same _ _ _ (sym (told_all _ _ _ _ _ c.row_of_sender.ensures c.if-row_of_sender-view.true))
    (record { party = ap (λ t. record { rec = record_of g.V.Value.bytes c.args.party.now.own.now; rows = t }) c.note_abort.ensures; posts = c.send_view-posts.ensures })

pub returns-else-row_of_sender-view-clause-step : goal.returns-else-row_of_sender-view-clause-step
returns-else-row_of_sender-view-clause-step g c =
    does_same _ _ _ (sym (told_none _ _ _ _ _ c.row_of_sender.ensures c.if-row_of_sender-view.false)) (does_nothing _)
