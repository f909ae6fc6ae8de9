use Rattle.std.proofs.Common.{◌≡◌, map, take, sym, refl, ap, ◌∙◌, arith}
use Rattle.std.proofs.lemmas.List.{length-map, take_all}
use Rattle.agreement.specs.Runs.{call}
use Rattle.tables.specs.Meaning.{ring_in, SameTables}
use Rattle.tables.proofs.Shared.{shared_fit}
use Rattle.turns.specs.Meaning.{kind_of}
use Rattle.shift.specs.Meaning.{call_of, refusals, end_of}
use Rattle.shift.proofs.Sequences.{refused_so, end_next, count_next, count_kept, all_refused, none_changed}
use Rattle.shift.proofs.obeying.obey_all.Goals as goal
use Rattle.shift.proofs.obeying.obey_all.Goals.{then-is_err, else-is_err}

pub returns-then-not-tables_in_order : goal.returns-then-not-tables_in_order
returns-then-not-tables_in_order g c =
    let v = g.V.Value in
    let k = kind_of v.width v.valid v.allows in
    let s = ring_in v.bytes c.args.tables.now (g.W.Wire.waiting c.args.wire.now) (g.W.Wire.capacity c.args.wire.now) in
    let cs = map (call_of v.bytes) c.args.calls.now in
    let h = c.if-not-tables_in_order.ensures ∙ shared_fit v.bytes c.args.tables.now c.shared-seen.result.ring c.shared-seen.result.records.now c.shared-seen.result.rows.now c.shared-seen.ensures.ring c.shared-seen.ensures.same in
    record { lent = (refl, (refl, refl)); answer = sym (all_refused k s h cs ∙ length-map c.args.calls.now (call_of v.bytes)); after = sym (none_changed k s h cs) }

pub loop-call-init : goal.loop-call-init
loop-call-init g c = record { lent = (refl, (refl, refl)); few = omega arith; count = refl; after = refl; fit = c.if-not-tables_in_order.ensures ∙ shared_fit g.V.Value.bytes c.args.tables.now c.shared-seen.result.ring c.shared-seen.result.records.now c.shared-seen.result.rows.now c.shared-seen.ensures.ring c.shared-seen.ensures.same }

pub obey_fitting-requires : goal.obey_fitting-requires
obey_fitting-requires g c = c.loop-call.invariant.fit

pub loop-call-preserved : goal.loop-call-preserved
loop-call-preserved g c =
    let v = g.V.Value in
    let k = kind_of v.width v.valid v.allows in
    let s = ring_in v.bytes c.args.tables.now (g.W.Wire.waiting c.args.wire.now) (g.W.Wire.capacity c.args.wire.now) in
    let f = call_of v.bytes in
    let xs = c.args.calls.now in
    let l = c.loop-call in
    let i = l.call-index in
    let x = c.call-item.result in
    let h = c.loop-call-test.true in
    let is = c.call-item.is in
    let t = ring_in v.bytes l.tables (g.W.Wire.waiting l.wire) (g.W.Wire.capacity l.wire) in
    let o = c.obey_fitting.new in
    let e = c.obey_fitting.ensures in
    let s' = ring_in v.bytes o.tables (g.W.Wire.waiting o.wire) (g.W.Wire.capacity o.wire) in
    let after = end_next k f s xs i x h is t s' l.invariant.after e.after in
    let lent : SameTables c.args.tables.now o.tables = (e.lent.0 ∙ l.invariant.lent.0, (e.lent.1.0 ∙ l.invariant.lent.1.0, e.lent.1.1 ∙ l.invariant.lent.1.1)) in
    let so = refused_so c.obey_fitting.result (call k t (f x)).answer e.answer in
    elim c.if-is_err.branch [
      | then-is_err w ↦ record {
        lent = lent;
        few = omega (arith, w.refused-is, l.invariant.few);
        count = count_next k f s xs i x h is t l.refused c.if-is_err.refused l.invariant.after l.invariant.count (sym so ∙ sym w.if-is_err.ensures.value) w.refused-is;
        after = after;
        fit = e.fit;
      }
      | else-is_err w ↦ record {
        lent = lent;
        few = omega (arith, w.refused-is, l.invariant.few);
        count = count_kept k f s xs i x h is t l.refused c.if-is_err.refused l.invariant.after l.invariant.count (sym so ∙ sym w.if-is_err.ensures.value) w.refused-is;
        after = after;
        fit = e.fit;
      }
    ]

pub returns : goal.returns
returns g c =
    let v = g.V.Value in
    let k = kind_of v.width v.valid v.allows in
    let s = ring_in v.bytes c.args.tables.now (g.W.Wire.waiting c.args.wire.now) (g.W.Wire.capacity c.args.wire.now) in
    let cs = map (call_of v.bytes) c.args.calls.now in
    let i = c.loop-call.call-index in
    let e : take i cs ≡ cs = take_all i cs (omega (arith, length-map c.args.calls.now (call_of v.bytes), c.loop-call-test.false)) in
    record { lent = c.loop-call.invariant.lent; answer = c.loop-call.invariant.count ∙ ap (refusals k s) e; after = c.loop-call.invariant.after ∙ ap (end_of k s) e }
