use Rattle.views.proofs.Newcomers.{takes_entry, entry_does, entry_fits}
use Rattle.views.proofs.start.start.Goals as goal

pub enter-requires : goal.enter-requires
enter-requires g c =
    let v = g.V.Value in
    let laws = g.met.V.Value in
    takes_entry v.bytes v.allows v.valid v.width laws.sized laws.sound laws.blank_valid c.args.party.now.seat (v.bytes c.args.value.now) c.new-party.result c.empty_rows.new.rows
    c.new-party.ensures c.empty_rows.ensures _ _ c.requires

pub returns-clause-step : goal.returns-clause-step
returns-clause-step g c =
    let v = g.V.Value in
    let laws = g.met.V.Value in
    entry_does v.bytes v.allows v.valid v.width laws.sized laws.sound laws.blank_valid c.args.party.now.seat (v.bytes c.args.value.now) c.new-party.result c.empty_rows.new.rows
    c.new-party.ensures c.empty_rows.ensures c.enter.ensures.step

pub returns-clause-fits : goal.returns-clause-fits
returns-clause-fits g c =
    let v = g.V.Value in
    let laws = g.met.V.Value in
    entry_fits v.bytes v.allows v.valid v.width laws.sized laws.sound laws.blank_valid c.args.party.now.seat (v.bytes c.args.value.now) c.new-party.result c.empty_rows.new.rows
    c.new-party.ensures c.empty_rows.ensures c.enter.ensures.step
