use Rattle.std.proofs.Common.{◌≡◌, ◌-◌, true, ◌||◌}
use Rattle.rules.specs.Bounds.{every, party_fits}
use Rattle.agreement.specs.Calls.{named}
use Rattle.tables.specs.Meaning.{parties_of}
use Rattle.tables.proofs.tables.parties_in_order.Given as goal

abbrev pub invariant-loop-party : goal.invariant-loop-party
invariant-loop-party g l =
    every (λ i. named l.ring.faulty i || party_fits l.ring.n (parties_of g.V.Value.bytes l.ring.n l.records l.rows i)) (l.party - 1) ≡ true
