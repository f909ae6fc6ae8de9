use Rattle.messages.specs.Meaning.{message}
use Rattle.rows.specs.Meaning.{setting_of}
use Rattle.rows.specs.Parties.{party_in}
use Rattle.party.proofs.Firsts.{propose_first}
use Rattle.party.proofs.step.take_in.Goals as goal

pub by_kind-requires-clause-whole : goal.by_kind-requires-clause-whole
by_kind-requires-clause-whole g c =
    let v = g.V.Value in
    let seat = c.args.party.now.seat in
    let first = propose_first (setting_of v.width v.allows seat) seat.me (party_in v.bytes c.args.party.now) (message v.bytes c.args.m.now) in
    (c.requires.whole.0, c.requires.whole.1, c.requires.whole.2, c.requires.whole.3, λ k. first k c.if-heeds.ensures)
