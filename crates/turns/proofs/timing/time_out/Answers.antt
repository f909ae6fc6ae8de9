use Rattle.std.proofs.Common.{◌-◌, ◌≤◌, length, arith, rules}
use borrow.Author.Rules.{scaled_fits≤}
use Rattle.rules.specs.Step.{on_timer}
use Rattle.turns.proofs.Turning.{Own, whole, fits, early, still_fit, turned}
use Rattle.turns.proofs.timing.time_out.Goals as goal

pub offset_bounds-tables-party : goal.offset_bounds-tables-party
offset_bounds-tables-party g c = let h : c.args.party - 1 ≤ length c.args.tables.now.records.now = omega arith in search (rules, scaled_fits≤)

pub offset_bounds-tables-base : goal.offset_bounds-tables-base
offset_bounds-tables-base g c = let h : c.base_of-base.result ≤ length c.args.tables.now.rows.now = omega (arith, c.base_of-base.ensures.within, c.requires.places.1) in search (rules, scaled_fits≤)

pub timer_at-requires-clause-fits : goal.timer_at-requires-clause-fits
timer_at-requires-clause-fits g c =
    let x = c.args.tables.now in
    let b = c.base_of-base in
    let i = c.index-tables-party in
    let o : Own x.ring (c.args.party) b.result x.records.now x.rows.now i.result c.seat.result = record { stands = c.seat.ensures; seated = (c.requires.honest.0, c.requires.honest.1); places = c.requires.places; is = i.is; value = b.ensures.value; within = b.ensures.within } in
    fits g.V.Value.bytes o c.requires.fit c.requires.honest.2

pub timer_at-requires-clause-early : goal.timer_at-requires-clause-early
timer_at-requires-clause-early g c =
    let x = c.args.tables.now in
    let b = c.base_of-base in
    let i = c.index-tables-party in
    let o : Own x.ring (c.args.party) b.result x.records.now x.rows.now i.result c.seat.result = record { stands = c.seat.ensures; seated = (c.requires.honest.0, c.requires.honest.1); places = c.requires.places; is = i.is; value = b.ensures.value; within = b.ensures.within } in
    early g.V.Value.bytes o c.requires.early

pub returns-clause-gives : goal.returns-clause-gives
returns-clause-gives g c =
    let v = g.V.Value in
    let x = c.args.tables.now in
    let b = c.base_of-base in
    let i = c.index-tables-party in
    let o : Own x.ring (c.args.party) b.result x.records.now x.rows.now i.result c.seat.result = record { stands = c.seat.ensures; seated = (c.requires.honest.0, c.requires.honest.1); places = c.requires.places; is = i.is; value = b.ensures.value; within = b.ensures.within } in
    turned v.bytes o c.timer_at.new.own c.timer_at.new.rows (omega (arith, whole v.bytes o)) v.width v.allows on_timer _ _ _ _ _ c.timer_at.ensures.step

pub returns-clause-fit : goal.returns-clause-fit
returns-clause-fit g c =
    let v = g.V.Value in
    let x = c.args.tables.now in
    let b = c.base_of-base in
    let i = c.index-tables-party in
    let o : Own x.ring (c.args.party) b.result x.records.now x.rows.now i.result c.seat.result = record { stands = c.seat.ensures; seated = (c.requires.honest.0, c.requires.honest.1); places = c.requires.places; is = i.is; value = b.ensures.value; within = b.ensures.within } in
    still_fit v.bytes o c.timer_at.new.own c.timer_at.new.rows (omega (arith, whole v.bytes o)) c.requires.fit c.timer_at.ensures.fits
