use Rattle.std.proofs.Common.{sym, refl}
use Rattle.rows.specs.Meaning.{setting_of}
use Rattle.rows.specs.Parties.{party_in}
use Rattle.posting.proofs.Steps.{takes_same, does_same}
use Rattle.views.proofs.Ways.{enter_as}
use Rattle.views.proofs.entry.enter.Goals as goal

pub post_entry-requires : goal.post_entry-requires
post_entry-requires g c =
    let seat = c.args.party.now.seat in
    let s = setting_of g.V.Value.width g.V.Value.allows seat in
    let p = party_in g.V.Value.bytes c.args.party.now in
    takes_same _ _ (enter_as s seat.me p c.args.view _ _ (c.enter_view.ensures s seat.me) c.clear_rows.ensures) c.requires

pub returns-clause-step : goal.returns-clause-step
returns-clause-step g c =
    let seat = c.args.party.now.seat in
    let s = setting_of g.V.Value.width g.V.Value.allows seat in
    let p = party_in g.V.Value.bytes c.args.party.now in
    does_same _ _ _ (sym (enter_as s seat.me p c.args.view _ _ (c.enter_view.ensures s seat.me) c.clear_rows.ensures)) (record { party = refl; posts = c.post_entry.ensures })
