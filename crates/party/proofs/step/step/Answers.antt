use Rattle.messages.specs.Meaning.{message}
use Rattle.posting.proofs.Within.{kind-low, kind-high}
use Rattle.party.proofs.Within.{takes_step, step_fits}
use Rattle.party.proofs.step.step.Goals as goal

pub take_in-requires : goal.take_in-requires
take_in-requires g c =
    let v = g.V.Value in
    let laws = g.met.V.Value in
    let m = message v.bytes c.args.m.now in
    let proper = c.requires.proper in
    record {
      whole = (proper.low, proper.high, kind-low v.valid v.width m proper.range, kind-high v.valid v.width m proper.range);
      taken = takes_step v.bytes v.allows v.valid v.width laws.sized laws.sound laws.blank_valid c.args.party.now c.requires.fits m proper _ _ c.requires.room;
    }

pub returns-clause-fits : goal.returns-clause-fits
returns-clause-fits g c =
    let v = g.V.Value in
    let laws = g.met.V.Value in
    step_fits v.bytes v.allows v.valid v.width laws.sized laws.sound laws.blank_valid c.args.party.now c.requires.fits _ c.requires.proper c.take_in.ensures.step
