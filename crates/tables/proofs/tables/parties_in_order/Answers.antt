use Rattle.std.proofs.Common.{◌≡◌, ℕ, zero, suc, ◌<◌, ◌≤◌, Bool, ◌||◌, List, sym, refl, ap, ◌∙◌, arith}
use Rattle.rules.specs.Bounds.{every, party_fits}
use Rattle.agreement.specs.Calls.{named}
use Rattle.tables.specs.Meaning.{parties_of}
use Rattle.tables.proofs.Every.{every_up, every_next, every_fails}
use Rattle.tables.specs.declared.ring.Ring.{Ring}
use Rattle.rows.specs.declared.record.Record.{Record}
use Rattle.rows.specs.declared.row.Row.{Row}
use Rattle.tables.proofs.tables.parties_in_order.Goals as goal

-- what is asked of each party
abbrev in_order : {V : Type 0} → (V → List ℕ) → Ring → List (Record V) → List (Row V) → ℕ → Bool
in_order bytes ring records rows i = named ring.faulty i || party_fits ring.n (parties_of bytes ring.n records rows i)

pub returns-then-not-party_in_order : goal.returns-then-not-party_in_order
returns-then-not-party_in_order g c =
    let t = in_order g.V.Value.bytes c.args.ring.now c.args.records.now c.args.rows.now in
    sym (every_fails t c.args.ring.now.n c.loop-party.party (omega arith) (omega arith) (sym c.if-not-party_in_order.ensures))

pub loop-party-preserved : goal.loop-party-preserved
loop-party-preserved g c =
    let t = in_order g.V.Value.bytes c.args.ring.now c.args.records.now c.args.rows.now in
    every_next t c.loop-party.party (omega arith) c.loop-party.invariant (sym c.if-not-party_in_order.ensures)

-- after the last party
pub returns-else-not-party_in_order : goal.returns-else-not-party_in_order
returns-else-not-party_in_order g c =
    let t = in_order g.V.Value.bytes c.args.ring.now c.args.records.now c.args.rows.now in
    let e : c.loop-party.party ≡ c.args.ring.now.n = omega arith in
    sym (ap (every t) (sym e) ∙ every_up t c.loop-party.party (omega arith) c.loop-party.invariant (sym c.if-not-party_in_order.ensures))

-- where there is none
none_at_all : (n p : ℕ) → (1 ≤ n → p ≤ n) → n < p → n ≡ 0
none_at_all zero p h l = refl
none_at_all (suc n) p h l = absurd (omega (arith, h (omega arith), l))

pub returns : goal.returns
returns g c =
    let t = in_order g.V.Value.bytes c.args.ring.now c.args.records.now c.args.rows.now in
    let e : c.args.ring.now.n ≡ 0 = none_at_all c.args.ring.now.n c.loop-party.party c.loop-party.auto.party-end c.loop-party-test.false in
    sym (ap (every t) e)
