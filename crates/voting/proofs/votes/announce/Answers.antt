use Rattle.std.proofs.Common.{rules, refl}
use Rattle.rows.specs.Meaning.{setting_of}
use Rattle.posting.proofs.Choosing.{two_parts}
use Rattle.voting.proofs.votes.announce.Goals as goal

pub returns-clause-step : goal.returns-clause-step
returns-clause-step g c =
    let seat = c.args.party.now.seat in
    let moved = c.move_field.ensures (setting_of g.V.Value.width g.V.Value.allows seat) seat.me in
    record { party = two_parts _ _ _ _ moved refl; posts = search rules }
