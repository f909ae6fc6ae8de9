use Rattle.std.proofs.Common.{rules}
use Rattle.messages.specs.Meaning.{message}
use Rattle.wires.proofs.Places.{length_front, looked_front, looked_past}
use Rattle.wires.proofs.Ranges.{entry-ranged}
use Rattle.table_wire.proofs.table.TableWireWire.look.Goals as goal

pub returns-then-i-count-clause-value : goal.returns-then-i-count-clause-value
returns-then-i-count-clause-value g c = search (rules, looked_past)

pub returns-clause-value : goal.returns-clause-value
returns-clause-value g c = search (rules, length_front, looked_front)

pub returns-clause-ranged : goal.returns-clause-ranged
returns-clause-ranged g c =
    let v = g.V.Value in
    entry-ranged v.valid v.width g.met.V.Value.blank_valid v.bytes c.args.self.now.table.now _ (message v.bytes c.entry_at.result) c.entry_at.ensures
