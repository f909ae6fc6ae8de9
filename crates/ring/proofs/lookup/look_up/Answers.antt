use Rattle.std.proofs.Common.{◌-◌, ◌*◌, [], sym, refl, ap, ◌∙◌, arith}
use Rattle.agreement.specs.Ring.{shown_party, is_faulty}
use Rattle.tables.specs.Meaning.{ring_of}
use Rattle.tables.proofs.Fitting.{records_enough}
use Rattle.tables.proofs.Parts.{party_read}
use Rattle.turns.specs.Meaning.{kind_of}
use Rattle.ring.specs.Meaning.{shown_of}
use Rattle.agreement.proofs.Obeyed.{between_parts, show_nobody, show_one, shown-faulty, shown-honest}
use Rattle.ring.proofs.lookup.look_up.Goals as goal

pub returns-then-not-has_party : goal.returns-then-not-has_party
returns-then-not-has_party g c w q =
    let v = g.V.Value in
    let k = kind_of v.width v.valid v.allows in
    let s = ring_of v.bytes c.args.ring.now c.args.records.now c.args.rows.now w q in
    show_nobody k s c.args.party c.if-not-has_party.ensures

pub overflow_cast-party : goal.overflow_cast-party
overflow_cast-party g c = let r = c.args.ring.now in let p = between_parts 1 r.n c.args.party c.if-not-has_party.ensures in omega (arith, p.1, r.most)

pub returns-then-is_named : goal.returns-then-is_named
returns-then-is_named g c w q =
    let v = g.V.Value in
    let k = kind_of v.width v.valid v.allows in
    let r = c.args.ring.now in
    let s = ring_of v.bytes c.args.ring.now c.args.records.now c.args.rows.now w q in
    let p = between_parts 1 r.n c.args.party c.if-not-has_party.ensures in
    show_one k s c.args.party _ c.if-not-has_party.ensures
    (ap (λ x. record { state = is_faulty; view = 0; lock = 0; value = x }) c.blank.ensures ∙ sym (shown-faulty k s c.args.party (c.if-is_named.ensures (omega (arith, p.1, r.most)))))

pub overflow_sub-party : goal.overflow_sub-party
overflow_sub-party g c = let p = between_parts 1 c.args.ring.now.n c.args.party c.if-not-has_party.ensures in omega (arith, p.0)

pub offset_bounds-records-party : goal.offset_bounds-records-party
offset_bounds-records-party g c =
    let l = records_enough (ring_of g.V.Value.bytes c.args.ring.now c.args.records.now c.args.rows.now [] 0) c.requires in
    let p = between_parts 1 c.args.ring.now.n c.args.party c.if-not-has_party.ensures in
    omega (arith, p.0, p.1, l)

pub bounds-records-party : goal.bounds-records-party
bounds-records-party g c =
    let l = records_enough (ring_of g.V.Value.bytes c.args.ring.now c.args.records.now c.args.rows.now [] 0) c.requires in
    let p = between_parts 1 c.args.ring.now.n c.args.party c.if-not-has_party.ensures in
    omega (arith, p.0, p.1, l)

pub returns : goal.returns
returns g c w q =
    let v = g.V.Value in
    let k = kind_of v.width v.valid v.allows in
    let s = ring_of v.bytes c.args.ring.now c.args.records.now c.args.rows.now w q in
    let p = between_parts 1 c.args.ring.now.n c.args.party c.if-not-has_party.ensures in
    let l = records_enough s c.requires in
    let i = c.index-records-party in
    let n = c.args.ring.now.n in
    let e = party_read v.bytes n c.args.party ((c.args.party - 1) * n) c.args.records.now c.args.rows.now i.result p.0 (omega (arith, p.1, l)) i.is refl in
    show_one k s c.args.party (shown_of v.bytes c.shown_record.result) c.if-not-has_party.ensures
    (c.shown_record.ensures ∙ (sym (ap (λ x. shown_party k x x.rec.decision) e) ∙ sym (shown-honest k s c.args.party (c.if-is_named.ensures (omega (arith, p.1, c.args.ring.now.most))))))
