use Rattle.std.proofs.Common.{◌≡◌, true, not, ap, arith}
use Rattle.agreement.specs.Ring.{in_ring}
use Rattle.agreement.proofs.Obeyed.{between_parts, timer-honest}
use Rattle.tables.specs.Meaning.{ring_in, answer_of}
use Rattle.turns.specs.Meaning.{kind_of}
use Rattle.timeouts.proofs.Timing.{timer_honest_one}
use Rattle.timeouts.proofs.timeouts.run_out.Goals as goal

pub returns-clause-gives : goal.returns-clause-gives
returns-clause-gives g c =
    let v = g.V.Value in
    let k = kind_of v.width v.valid v.allows in
    let x = c.args.tables.now in
    let s = ring_in v.bytes x (g.W.Wire.waiting c.args.wire.now) (g.W.Wire.capacity c.args.wire.now) in
    let liar : true ≡ in_ring s c.args.party → not c.is_liar.result ≡ not (s.faulty c.args.party) =
    λ known. let b = between_parts 1 s.n c.args.party known in ap not (c.is_liar.ensures (omega (arith, b.1, x.ring.most))) in
    let p = timer_honest_one k s c.args.party c.has_party.result (not c.is_liar.result) c.has_party.ensures liar c.in_ok-standing.ensures in
    timer-honest k s c.args.party (answer_of c.honest_timer.result) _ p.0 p.1 c.honest_timer.ensures.gives
