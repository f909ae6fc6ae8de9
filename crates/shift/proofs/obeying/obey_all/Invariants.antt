use Rattle.std.proofs.Common.{◌≡◌, ◌≤◌, true, [], map, take}
use Rattle.agreement.specs.Ring.{tables_fit}
use Rattle.tables.specs.Meaning.{ring_in, SameTables}
use Rattle.turns.specs.Meaning.{kind_of}
use Rattle.shift.specs.Meaning.{call_of, refusals, end_of}
use Rattle.shift.proofs.obeying.obey_all.Given as goal

abbrev pub invariant-loop-call : goal.invariant-loop-call
invariant-loop-call g l =
    let v = g.V.Value in
    let w = g.W.Wire in
    let k = kind_of v.width v.valid v.allows in
    let s = ring_in v.bytes l.initial.tables (w.waiting l.initial.wire) (w.capacity l.initial.wire) in
    let cs = take l.call-index (map (call_of v.bytes) l.calls) in
    record {
      lent : SameTables l.initial.tables l.tables;
      few : l.refused ≤ l.call-index;
      count : l.refused ≡ refusals k s cs;
      after : ring_in v.bytes l.tables (w.waiting l.wire) (w.capacity l.wire) ≡ end_of k s cs;
      fit : true ≡ tables_fit (ring_in v.bytes l.tables [] 0);
    }
