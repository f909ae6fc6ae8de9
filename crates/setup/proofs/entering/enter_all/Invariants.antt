use Rattle.std.proofs.Common.{◌-◌}
use Rattle.turns.specs.Meaning.{kind_of}
use Rattle.setup.proofs.Entries.{Entered}
use Rattle.setup.proofs.entering.enter_all.Given as goal

abbrev pub invariant-loop-party : goal.invariant-loop-party
invariant-loop-party g l =
    let v = g.V.Value in
    let w = g.W.Wire in
    let k = kind_of v.width v.valid v.allows in
    Entered (record { bytes = v.bytes; waiting = w.waiting; capacity = w.capacity; kind = k; own = l.own; first = l.initial.tables; wire = l.initial.wire })
    (l.party - 1) l.tables l.wire
