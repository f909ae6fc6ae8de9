use Rattle.std.proofs.Common.{◌≡◌, ◌+◌, ◌-◌, ◌<◌, ◌≤◌, min, List, map, length, get_or, drop, Ok, refl, ap, ◌∙◌, arith}
use Rattle.std.proofs.lemmas.List.{length-drop}
use Rattle.std.proofs.lemmas.List.Edits.{length-paste}
use Rattle.messages.specs.Meaning.{message}
use Rattle.wires.specs.Wire.{fixed_request}
use Rattle.wires.specs.Table.{entry, entries}
use Rattle.wires.proofs.Places.{length_front, looked_front, looked_past, taken_past, no_place, a_place, front_taken}
use Rattle.wires.proofs.Ranges.{entry-ranged}
use Rattle.table_wire.proofs.table.TableWireWire.take_out.Goals as goal

pub returns-then-i-count : goal.returns-then-i-count
returns-then-i-count g c =
    let v = g.V.Value in
    let xs = entries v.valid v.width v.bytes c.args.self.now.count c.args.self.now.table.now in
    let past : length xs ≤ c.args.i = omega (arith, c.count-count.ensures.value, c.if-i-count.true) in
    record { kept = refl; test = no_place xs c.args.i past; value = looked_past xs c.args.i past; ranged = tt; after = taken_past xs c.args.i past }

pub returns : goal.returns
returns g c =
    let v = g.V.Value in
    let t = c.args.self.now.table.now in
    let n = c.args.self.now.count in
    let i = c.args.i in
    let f = entry v.valid v.width v.bytes in
    let xs = entries v.valid v.width v.bytes n t in
    let count = c.count-count.result in
    let e : count ≡ min n (length t) = c.count-count.ensures.value ∙ length_front f t n in
    let h = c.if-i-count.false in
    let here : i < length xs = omega (arith, c.count-count.ensures.value, h) in
    let within : i + (count - (i + 1)) ≤ length t = omega (arith, e, h) in
    let enough : count - (i + 1) ≤ length (drop (i + 1) t) = omega (arith, length-drop (i + 1) t, e, h) in
    record {
      kept = ap length c.take_entry-m.ensures.after ∙ length-paste t i (drop (i + 1) t) (count - (i + 1)) within enough;
      test = a_place xs i here;
      value = looked_front f t n i (fixed_request v.width) (message v.bytes c.take_entry-m.result) (omega (arith, e, h)) (omega (arith, e, h)) c.take_entry-m.ensures.value;
      ranged = entry-ranged v.valid v.width g.met.V.Value.blank_valid v.bytes t i (message v.bytes c.take_entry-m.result) c.take_entry-m.ensures.value;
      after = ap (entries v.valid v.width v.bytes (count - 1)) c.take_entry-m.ensures.after ∙ front_taken f t n count i e h;
    }
