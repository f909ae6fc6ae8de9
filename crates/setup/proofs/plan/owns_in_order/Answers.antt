use Rattle.std.proofs.Common.{◌≡◌, ℕ, Bool, ◌||◌, List, map, sym, ap, ◌∙◌, arith}
use Rattle.rules.specs.Bounds.{every}
use Rattle.agreement.specs.Calls.{named, own_of}
use Rattle.tables.proofs.Every.{every_up, every_next, every_fails}
use Rattle.setup.proofs.plan.owns_in_order.Goals as goal

-- what is asked of each party
abbrev in_order : {V : Type 0} → (V → List ℕ) → (List ℕ → Bool) → ℕ → List V → ℕ → Bool
in_order bytes allows word own i = named word i || allows (own_of (map bytes own) i)

pub returns-then-not-own_in_order : goal.returns-then-not-own_in_order
returns-then-not-own_in_order g c h =
    let s = c.args.ring.now in
    let t = in_order g.V.Value.bytes g.V.Value.allows s.faulty c.args.own.now in
    sym (every_fails t s.n c.loop-party.party (omega arith) (omega arith) (sym c.if-not-own_in_order.ensures))

pub loop-party-preserved : goal.loop-party-preserved
loop-party-preserved g c =
    let t = in_order g.V.Value.bytes g.V.Value.allows c.args.ring.now.faulty c.args.own.now in
    every_next t c.loop-party.party (omega arith) c.loop-party.invariant (sym c.if-not-own_in_order.ensures)

-- after the last party
pub returns-else-not-own_in_order : goal.returns-else-not-own_in_order
returns-else-not-own_in_order g c h =
    let s = c.args.ring.now in
    let t = in_order g.V.Value.bytes g.V.Value.allows s.faulty c.args.own.now in
    let e : c.loop-party.party ≡ s.n = omega arith in
    sym (ap (every t) (sym e) ∙ every_up t c.loop-party.party (omega arith) c.loop-party.invariant (sym c.if-not-own_in_order.ensures))

-- where there is none
pub returns-else-own-ring : goal.returns-else-own-ring
returns-else-own-ring g c h =
    let s = c.args.ring.now in
    let t = in_order g.V.Value.bytes g.V.Value.allows s.faulty c.args.own.now in
    let e : s.n ≡ 0 = grind arith in
    sym (ap (every t) e)
