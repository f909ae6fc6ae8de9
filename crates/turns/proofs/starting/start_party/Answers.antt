use Rattle.std.proofs.Common.{◌-◌, ◌≤◌, length, arith, rules}
use borrow.Author.Rules.{scaled_fits≤}
use Rattle.rules.specs.Step.{enter, newcomer}
use Rattle.turns.proofs.Turning.{Own, whole, turned}
use Rattle.turns.proofs.starting.start_party.Goals as goal

pub offset_bounds-tables-party : goal.offset_bounds-tables-party
offset_bounds-tables-party g c = let h : c.args.party - 1 ≤ length c.args.tables.now.records.now = omega arith in search (rules, scaled_fits≤)

pub offset_bounds-tables-base : goal.offset_bounds-tables-base
offset_bounds-tables-base g c = let h : c.base_of-base.result ≤ length c.args.tables.now.rows.now = omega (arith, c.base_of-base.ensures.within, c.requires.places.1) in search (rules, scaled_fits≤)

pub returns-clause-gives : goal.returns-clause-gives
returns-clause-gives g c =
    let v = g.V.Value in
    let x = c.args.tables.now in
    let b = c.base_of-base in
    let i = c.index-tables-party in
    let o : Own x.ring (c.args.party) b.result x.records.now x.rows.now i.result c.seat.result = record { stands = c.seat.ensures; seated = c.requires.seated; places = c.requires.places; is = i.is; value = b.ensures.value; within = b.ensures.within } in
    turned v.bytes o c.start_at.new.own c.start_at.new.rows (omega (arith, whole v.bytes o)) v.width v.allows (λ k i p. enter k i (newcomer (v.bytes c.args.own.now)) 1) _ _ _ _ _ c.start_at.ensures.step
