use Rattle.std.proofs.Common.{ℕ, Bool, true, false, cond, refl, ◌∙◌}
use Rattle.wires.specs.Wire.{looked, taken}
use Rattle.agreement.specs.Ring.{Kind, Ring}
use Rattle.agreement.specs.Calls.{Answer, Gives, bring_found}
use Rattle.agreement.specs.Runs.{obey, hand, repeat}
use Rattle.agreement.proofs.Obeyed.{unfit, obeyed}
use Rattle.tables.specs.Meaning.{ring_in, answer_of}
use Rattle.tables.proofs.Shared.{shared_fit}
use Rattle.turns.specs.Meaning.{kind_of}
use Rattle.ring.proofs.delivery.deliver.Goals as goal

pub returns-then-not-tables_in_order : goal.returns-then-not-tables_in_order
returns-then-not-tables_in_order g c =
    let v = g.V.Value in
    let k = kind_of v.width v.valid v.allows in
    let s = ring_in v.bytes c.args.tables.now (g.W.Wire.waiting c.args.wire.now) (g.W.Wire.capacity c.args.wire.now) in
    record { gives = unfit k s (cond c.args.keep (repeat c.args.place) (hand c.args.place)) s (c.if-not-tables_in_order.ensures ∙ shared_fit v.bytes c.args.tables.now c.shared-seen.result.ring c.shared-seen.result.records.now c.shared-seen.result.rows.now c.shared-seen.ensures.ring c.shared-seen.ensures.same) refl; lent = (refl, (refl, refl)); untouched = (refl, refl) }

-- kept, or taken out
one_of_both : (k : Kind) (s : Ring) (i : ℕ) (keep : Bool) (a : Answer) (s' : Ring) → Gives (bring_found k s (looked s.wire i) (cond keep s.wire (taken s.wire i))) a s' →
    Gives (obey k s (cond keep (repeat i) (hand i))) a s'
one_of_both k s i true a s' g = g
one_of_both k s i false a s' g = g

pub returns : goal.returns
returns g c =
    let v = g.V.Value in
    let k = kind_of v.width v.valid v.allows in
    let s = ring_in v.bytes c.args.tables.now (g.W.Wire.waiting c.args.wire.now) (g.W.Wire.capacity c.args.wire.now) in
    record {
      gives = obeyed k s (cond c.args.keep (repeat c.args.place) (hand c.args.place)) (answer_of c.bring.result) _ (c.if-not-tables_in_order.ensures ∙ shared_fit v.bytes c.args.tables.now c.shared-seen.result.ring c.shared-seen.result.records.now c.shared-seen.result.rows.now c.shared-seen.ensures.ring c.shared-seen.ensures.same)
          (one_of_both k s c.args.place c.args.keep (answer_of c.bring.result) _ c.bring.ensures.gives);
      lent = c.bring.ensures.lent;
      untouched = c.bring.ensures.untouched;
    }

pub bring-requires : goal.bring-requires
bring-requires g c = c.if-not-tables_in_order.ensures ∙ shared_fit g.V.Value.bytes c.args.tables.now c.shared-seen.result.ring c.shared-seen.result.records.now c.shared-seen.result.rows.now c.shared-seen.ensures.ring c.shared-seen.ensures.same
