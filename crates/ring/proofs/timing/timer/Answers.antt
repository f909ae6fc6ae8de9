use Rattle.std.proofs.Common.{refl, ◌∙◌}
use Rattle.agreement.specs.Runs.{timer}
use Rattle.agreement.proofs.Obeyed.{unfit, obeyed}
use Rattle.tables.specs.Meaning.{ring_in, answer_of}
use Rattle.tables.proofs.Shared.{shared_fit}
use Rattle.turns.specs.Meaning.{kind_of}
use Rattle.ring.proofs.timing.timer.Goals as goal

pub returns-then-not-tables_in_order : goal.returns-then-not-tables_in_order
returns-then-not-tables_in_order g c =
    let v = g.V.Value in
    let k = kind_of v.width v.valid v.allows in
    let s = ring_in v.bytes c.args.tables.now (g.W.Wire.waiting c.args.wire.now) (g.W.Wire.capacity c.args.wire.now) in
    record { gives = unfit k s (timer c.args.party) s (c.if-not-tables_in_order.ensures ∙ shared_fit v.bytes c.args.tables.now c.shared-seen.result.ring c.shared-seen.result.records.now c.shared-seen.result.rows.now c.shared-seen.ensures.ring c.shared-seen.ensures.same) refl; lent = (refl, (refl, refl)); untouched = (refl, refl) }

pub returns : goal.returns
returns g c =
    let v = g.V.Value in
    let k = kind_of v.width v.valid v.allows in
    let s = ring_in v.bytes c.args.tables.now (g.W.Wire.waiting c.args.wire.now) (g.W.Wire.capacity c.args.wire.now) in
    record { gives = obeyed k s (timer c.args.party) (answer_of c.run_out.result) _ (c.if-not-tables_in_order.ensures ∙ shared_fit v.bytes c.args.tables.now c.shared-seen.result.ring c.shared-seen.result.records.now c.shared-seen.result.rows.now c.shared-seen.ensures.ring c.shared-seen.ensures.same) c.run_out.ensures.gives; lent = c.run_out.ensures.lent; untouched = c.run_out.ensures.untouched }

pub run_out-requires : goal.run_out-requires
run_out-requires g c = c.if-not-tables_in_order.ensures ∙ shared_fit g.V.Value.bytes c.args.tables.now c.shared-seen.result.ring c.shared-seen.result.records.now c.shared-seen.result.rows.now c.shared-seen.ensures.ring c.shared-seen.ensures.same
