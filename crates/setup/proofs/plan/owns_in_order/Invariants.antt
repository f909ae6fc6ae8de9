use Rattle.std.proofs.Common.{◌≡◌, ◌-◌, true, ◌||◌, map}
use Rattle.rules.specs.Bounds.{every}
use Rattle.agreement.specs.Calls.{named, own_of}
use Rattle.setup.proofs.plan.owns_in_order.Given as goal

abbrev pub invariant-loop-party : goal.invariant-loop-party
invariant-loop-party g l = every (λ i. named l.ring.faulty i || g.V.Value.allows (own_of (map g.V.Value.bytes l.own) i)) (l.party - 1) ≡ true
