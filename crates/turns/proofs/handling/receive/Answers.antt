use Rattle.std.proofs.Common.{◌-◌, ◌≤◌, length, arith, rules}
use borrow.Author.Rules.{scaled_fits≤}
use Rattle.messages.specs.Meaning.{message}
use Rattle.rules.specs.Step.{step}
use Rattle.turns.proofs.Turning.{Own, whole, fits, still_fit, turned}
use Rattle.turns.proofs.handling.receive.Goals as goal

pub offset_bounds-tables-m : goal.offset_bounds-tables-m
offset_bounds-tables-m g c = let h : c.args.m.now.to - 1 ≤ length c.args.tables.now.records.now = omega arith in search (rules, scaled_fits≤)

pub offset_bounds-tables-base : goal.offset_bounds-tables-base
offset_bounds-tables-base g c = let h : c.base_of-base.result ≤ length c.args.tables.now.rows.now = omega (arith, c.base_of-base.ensures.within, c.requires.places.1) in search (rules, scaled_fits≤)

pub step_at-requires-clause-fits : goal.step_at-requires-clause-fits
step_at-requires-clause-fits g c =
    let x = c.args.tables.now in
    let b = c.base_of-base in
    let i = c.index-tables-m in
    let o : Own x.ring (c.args.m.now.to) b.result x.records.now x.rows.now i.result c.seat.result = record { stands = c.seat.ensures; seated = (c.requires.honest.0, c.requires.honest.1); places = c.requires.places; is = i.is; value = b.ensures.value; within = b.ensures.within } in
    fits g.V.Value.bytes o c.requires.fit c.requires.honest.2

pub returns-clause-gives : goal.returns-clause-gives
returns-clause-gives g c =
    let v = g.V.Value in
    let x = c.args.tables.now in
    let b = c.base_of-base in
    let i = c.index-tables-m in
    let o : Own x.ring (c.args.m.now.to) b.result x.records.now x.rows.now i.result c.seat.result = record { stands = c.seat.ensures; seated = (c.requires.honest.0, c.requires.honest.1); places = c.requires.places; is = i.is; value = b.ensures.value; within = b.ensures.within } in
    turned v.bytes o c.step_at.new.own c.step_at.new.rows (omega (arith, whole v.bytes o)) v.width v.allows (λ k i p. step k i p (message v.bytes c.args.m.now)) _ _ _ _ _ c.step_at.ensures.step

pub returns-clause-fit : goal.returns-clause-fit
returns-clause-fit g c =
    let v = g.V.Value in
    let x = c.args.tables.now in
    let b = c.base_of-base in
    let i = c.index-tables-m in
    let o : Own x.ring (c.args.m.now.to) b.result x.records.now x.rows.now i.result c.seat.result = record { stands = c.seat.ensures; seated = (c.requires.honest.0, c.requires.honest.1); places = c.requires.places; is = i.is; value = b.ensures.value; within = b.ensures.within } in
    still_fit v.bytes o c.step_at.new.own c.step_at.new.rows (omega (arith, whole v.bytes o)) c.requires.fit c.step_at.ensures.fits
