use Rattle.std.proofs.Common.{◌-◌, ◌*◌, ◌≤◌, ltb, [], length, get_or, sym, refl, ap, ◌∙◌, arith, rules}
use borrow.Author.Rules.{scaled_fits≤}
use Rattle.std.proofs.lemmas.Bool.{ltb-true}
use Rattle.std.proofs.lemmas.Result.{err_from_is_err_and}
use Rattle.messages.specs.Messages.{last_view}
use Rattle.rules.specs.Party.{none}
use Rattle.agreement.specs.Calls.{said}
use Rattle.agreement.proofs.Obeyed.{timed_all, room_for_step}
use Rattle.tables.specs.Refusals.{refusal_number}
use Rattle.tables.specs.Meaning.{ring_in}
use Rattle.tables.proofs.Fitting.{records_enough}
use Rattle.tables.proofs.Parts.{party_read}
use Rattle.turns.specs.Meaning.{kind_of}
use Rattle.timeouts.proofs.Timing.{nothing_mapped, timed-refused, timed_free}
use Rattle.timeouts.proofs.timeouts.honest_timer.Goals as goal

pub offset_bounds-tables-party : goal.offset_bounds-tables-party
offset_bounds-tables-party g c =
    let l = records_enough (ring_in g.V.Value.bytes c.args.tables.now [] 0) c.requires.fit in
    let h : c.args.party - 1 ≤ length c.args.tables.now.records.now = omega (arith, l, c.requires.honest.0, c.requires.honest.1) in
    search (rules, scaled_fits≤)

pub bounds-tables-party : goal.bounds-tables-party
bounds-tables-party g c =
    let l = records_enough (ring_in g.V.Value.bytes c.args.tables.now [] 0) c.requires.fit in
    omega (arith, l, c.requires.honest.0, c.requires.honest.1)

pub returns-in_err-in_time-clause-gives : goal.returns-in_err-in_time-clause-gives
returns-in_err-in_time-clause-gives g c =
    let v = g.V.Value in
    let k = kind_of v.width v.valid v.allows in
    let x = c.args.tables.now in
    let s = ring_in v.bytes x (g.W.Wire.waiting c.args.wire.now) (g.W.Wire.capacity c.args.wire.now) in
    let i = c.index-tables-party in
    let l = records_enough s c.requires.fit in
    let e = party_read v.bytes s.n c.args.party ((c.args.party - 1) * s.n) x.records.now x.rows.now (get_or x.records.now (c.args.party - 1) i.result) c.requires.honest.0 (omega (arith, c.requires.honest.1, l)) (ap (get_or x.records.now (c.args.party - 1)) i.is) refl in
    let undecided = nothing_mapped v.bytes _ _ c.is_none.ensures ∙ sym (ap (λ p. none p.rec.decision) e) in
    let early = sym (ap (λ p. ltb p.rec.view last_view) e) in
    let p = err_from_is_err_and c.from_residual.result c.from_residual.ensures.1 in
    rw (p.1, p.2) (timed-refused k s c.args.party c.is_none.result _ c.has_room.result (refusal_number c.in_err-in_time.field-0.0) undecided early c.has_room.ensures c.in_err-in_time.ensures)

pub time_out-requires-clause-early : goal.time_out-requires-clause-early
time_out-requires-clause-early g c =
    let v = g.V.Value in
    let k = kind_of v.width v.valid v.allows in
    let x = c.args.tables.now in
    let s = ring_in v.bytes x (g.W.Wire.waiting c.args.wire.now) (g.W.Wire.capacity c.args.wire.now) in
    let i = c.index-tables-party in
    let l = records_enough s c.requires.fit in
    let e = party_read v.bytes s.n c.args.party ((c.args.party - 1) * s.n) x.records.now x.rows.now (get_or x.records.now (c.args.party - 1) i.result) c.requires.honest.0 (omega (arith, c.requires.honest.1, l)) (ap (get_or x.records.now (c.args.party - 1)) i.is) refl in
    let undecided = nothing_mapped v.bytes _ _ c.is_none.ensures ∙ sym (ap (λ p. none p.rec.decision) e) in
    let early = sym (ap (λ p. ltb p.rec.view last_view) e) in
    let t = timed_free k s c.args.party c.is_none.result _ c.has_room.result undecided early c.has_room.ensures c.in_ok-in_time.ensures in
    ltb-true (s.parties c.args.party).rec.view last_view (sym t.1)

pub time_out-requires-clause-room : goal.time_out-requires-clause-room
time_out-requires-clause-room g c =
    let v = g.V.Value in
    let k = kind_of v.width v.valid v.allows in
    let x = c.args.tables.now in
    let s = ring_in v.bytes x (g.W.Wire.waiting c.args.wire.now) (g.W.Wire.capacity c.args.wire.now) in
    let i = c.index-tables-party in
    let l = records_enough s c.requires.fit in
    let e = party_read v.bytes s.n c.args.party ((c.args.party - 1) * s.n) x.records.now x.rows.now (get_or x.records.now (c.args.party - 1) i.result) c.requires.honest.0 (omega (arith, c.requires.honest.1, l)) (ap (get_or x.records.now (c.args.party - 1)) i.is) refl in
    let undecided = nothing_mapped v.bytes _ _ c.is_none.ensures ∙ sym (ap (λ p. none p.rec.decision) e) in
    let early = sym (ap (λ p. ltb p.rec.view last_view) e) in
    let t = timed_free k s c.args.party c.is_none.result _ c.has_room.result undecided early c.has_room.ensures c.in_ok-in_time.ensures in
    room_for_step s s.wire s.capacity t.2 (omega arith) refl

pub returns-clause-gives : goal.returns-clause-gives
returns-clause-gives g c =
    let v = g.V.Value in
    let k = kind_of v.width v.valid v.allows in
    let x = c.args.tables.now in
    let s = ring_in v.bytes x (g.W.Wire.waiting c.args.wire.now) (g.W.Wire.capacity c.args.wire.now) in
    let i = c.index-tables-party in
    let l = records_enough s c.requires.fit in
    let e = party_read v.bytes s.n c.args.party ((c.args.party - 1) * s.n) x.records.now x.rows.now (get_or x.records.now (c.args.party - 1) i.result) c.requires.honest.0 (omega (arith, c.requires.honest.1, l)) (ap (get_or x.records.now (c.args.party - 1)) i.is) refl in
    let undecided = nothing_mapped v.bytes _ _ c.is_none.ensures ∙ sym (ap (λ p. none p.rec.decision) e) in
    let early = sym (ap (λ p. ltb p.rec.view last_view) e) in
    let t = timed_free k s c.args.party c.is_none.result _ c.has_room.result undecided early c.has_room.ensures c.in_ok-in_time.ensures in
    timed_all k s c.args.party (said c.time_out.result) _ t.0 t.1 t.2 c.time_out.ensures.gives
