use Rattle.std.proofs.Common.{cond, ap, ◌∙◌}
use Rattle.messages.specs.Meaning.{message}
use Rattle.wires.specs.Wire.{fixed_request}
use Rattle.wires.specs.Table.{entry}
use Rattle.wires.proofs.Places.{get_or-entry}
use Rattle.table_wire.proofs.table.entry_at.Goals as goal

pub returns-then-in_range : goal.returns-then-in_range
returns-then-in_range g c =
    let v = g.V.Value in
    let m = message v.bytes c.index-table-i.result in
    get_or-entry (entry v.valid v.width v.bytes) c.args.table.now c.args.i c.index-table-i.result (fixed_request v.width) m c.requires c.index-table-i.is (ap (λ b. cond b m (fixed_request v.width)) c.if-in_range.ensures)

pub returns-else-in_range : goal.returns-else-in_range
returns-else-in_range g c =
    let v = g.V.Value in
    let m = message v.bytes c.index-table-i.result in
    get_or-entry (entry v.valid v.width v.bytes) c.args.table.now c.args.i c.index-table-i.result (fixed_request v.width) (message v.bytes c.fixed_request.result) c.requires c.index-table-i.is (c.fixed_request.ensures ∙ ap (λ b. cond b m (fixed_request v.width)) c.if-in_range.ensures)
