use Rattle.party.proofs.Within.{takes_timer, timer_fits}
use Rattle.party.proofs.step.timer.Goals as goal

pub on_time_out-requires : goal.on_time_out-requires
on_time_out-requires g c =
    let v = g.V.Value in
    let laws = g.met.V.Value in
    takes_timer v.bytes v.allows v.valid v.width laws.sized laws.sound laws.blank_valid c.args.party.now c.requires.fits c.requires.early _ _ c.requires.room

pub returns-clause-fits : goal.returns-clause-fits
returns-clause-fits g c =
    let v = g.V.Value in
    let laws = g.met.V.Value in
    timer_fits v.bytes v.allows v.valid v.width laws.sized laws.sound laws.blank_valid c.args.party.now c.requires.fits c.requires.early c.on_time_out.ensures.step
