use Rattle.std.proofs.Common.{◌≡◌, ◌≤◌, ◌+◌, ◌-◌, refl, arith}
use Rattle.turns.specs.Meaning.{kind_of}
use Rattle.setup.proofs.Entries.{none_entered, none_left, entered_same, honest_entered, faulty_entered, next_places, next_room}
use Rattle.setup.proofs.entering.enter_all.Goals as goal
use Rattle.setup.proofs.entering.enter_all.Goals.{then-not-is_named, else-not-is_named}

pub loop-party-init : goal.loop-party-init
loop-party-init g c =
    let v = g.V.Value in
    let w = g.W.Wire in
    let k = kind_of v.width v.valid v.allows in
    none_entered (record { bytes = v.bytes; waiting = w.waiting; capacity = w.capacity; kind = k; own = c.args.own.now; first = c.args.tables.now; wire = c.args.wire.now })

pub start_party-requires : goal.start_party-requires
start_party-requires g c =
    let l = c.loop-party in
    let low : 1 ≤ l.party = omega arith in
    let high : l.party ≤ c.args.tables.now.ring.n = omega arith in
    let p = next_places l.party low l.tables l.wire l.invariant high c.requires.places.1 c.requires.places.2 in
    record { places = (p.0, p.1); seated = (low, p.2); room = next_room l.party low l.tables l.wire l.invariant high c.requires.room }

pub loop-party-preserved : goal.loop-party-preserved
loop-party-preserved g c =
    let l = c.loop-party in
    let j = c.if-not-is_named in
    let low : 1 ≤ l.party = omega arith in
    let high : l.party ≤ c.args.tables.now.ring.n = omega arith in
    let next : l.party ≡ (l.party + 1) - 1 = omega arith in
    elim j.branch [
      | then-not-is_named b ↦
          let s = b.start_party in
          entered_same _ j.tables j.wire next b.tables-is b.wire-is
          (honest_entered l.party low l.tables l.wire l.invariant high b.index-own-party.result s.result c.requires.places.0 b.index-own-party.is b.if-not-is_named.ensures s.ensures.lent s.ensures.gives)
      | else-not-is_named b ↦
          entered_same _ j.tables j.wire next b.tables-is b.wire-is (faulty_entered l.party low l.tables l.wire l.invariant high b.if-not-is_named.ensures)
    ]

-- after the last party
pub returns-after-not-is_named : goal.returns-after-not-is_named
returns-after-not-is_named g c =
    let l = c.loop-party in
    let j = c.if-not-is_named in
    let low : 1 ≤ l.party = omega arith in
    let high : l.party ≤ c.args.tables.now.ring.n = omega arith in
    let last : l.party ≡ c.args.tables.now.ring.n = omega arith in
    elim j.branch [
      | then-not-is_named b ↦
          let s = b.start_party in
          let e = entered_same _ j.tables j.wire last b.tables-is b.wire-is
          (honest_entered l.party low l.tables l.wire l.invariant high b.index-own-party.result s.result c.requires.places.0 b.index-own-party.is b.if-not-is_named.ensures s.ensures.lent s.ensures.gives) in
          record { lent = e.lent; entered = e.ring }
      | else-not-is_named b ↦
          let e = entered_same _ j.tables j.wire last b.tables-is b.wire-is (faulty_entered l.party low l.tables l.wire l.invariant high b.if-not-is_named.ensures) in
          record { lent = e.lent; entered = e.ring }
    ]

-- where there is none
pub returns : goal.returns
returns g c =
    let l = c.loop-party in
    let none = none_left c.args.tables.now.ring.n l.party l.invariant.few c.loop-party-test.false in
    let e = entered_same _ l.tables l.wire none refl refl l.invariant in
    record { lent = e.lent; entered = e.ring }
