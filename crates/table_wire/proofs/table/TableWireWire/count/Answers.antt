use Rattle.std.proofs.Common.{arith}
use Rattle.wires.specs.Table.{entry}
use Rattle.wires.proofs.Places.{length_front}
use Rattle.wires.proofs.Ranges.{entries-ranged}
use Rattle.table_wire.proofs.table.TableWireWire.count.Goals as goal

pub returns : goal.returns
returns g c =
    let v = g.V.Value in
    let t = c.args.self.now.table.now in
    let n = c.args.self.now.count in
    let l = length_front (entry v.valid v.width v.bytes) t n in
    record { value = omega (arith, l, c.min.ensures); within = omega (arith, l); ranged = entries-ranged v.valid v.width g.met.V.Value.blank_valid v.bytes n t }
