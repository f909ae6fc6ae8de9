use Rattle.std.proofs.Common.{◌≡◌, map, sym, ap, ◌∙◌}
use Rattle.agreement.specs.Calls.{said, set_up}
use Rattle.agreement.proofs.Counted.{counts_hold}
use Rattle.tables.specs.Meaning.{ring_in}
use Rattle.turns.specs.Meaning.{kind_of}
use Rattle.setup.specs.Meaning.{plan_in, ring_cut}
use Rattle.shift.specs.Meaning.{call_of, refusals}
use Rattle.shift.proofs.Sequences.{shift-ring}
use Rattle.shift.proofs.shift.run_shift.Goals as goal

pub returns-in-Ok : goal.returns-in-Ok
returns-in-Ok g c =
    let v = g.V.Value in
    let w = g.W.Wire in
    let k = kind_of v.width v.valid v.allows in
    let p = plan_in v.bytes c.args.plan.now in
    let s = ring_cut v.bytes p.n c.args.tables.now (w.waiting c.args.wire.now) (w.capacity c.args.wire.now) in
    let cs = map (call_of v.bytes) c.args.calls.now in
    let e = c.in-Ok.ensures in
    let m = c.set_up.new in
    let o = c.obey_all.new in
    let u = c.obey_all.ensures in
    let t = ring_in v.bytes m.tables (w.waiting m.wire) (w.capacity m.wire) in
    let s' = ring_in v.bytes o.tables (w.waiting o.wire) (w.capacity o.wire) in
    let begun : t ≡ (set_up k p s).after = ap (λ j. ring_cut v.bytes j m.tables (w.waiting m.wire) (w.capacity m.wire)) e.leaves.1 ∙ e.gives.after in
    let started : (set_up k p s).answer ≡ said 0 = sym e.gives.answer ∙ ap said e.leaves.0 in
    record {
      lent = (u.lent.1.0 ∙ e.lent.0, u.lent.1.1 ∙ e.lent.1);
      run = record {
        started = started;
        passed_over = u.answer ∙ ap (λ t. refusals k t cs) begun;
        ring = shift-ring k p s t s' cs begun u.after;
        counts = counts_hold k p s cs started;
      };
    }

pub returns-in-Err : goal.returns-in-Err
returns-in-Err g c =
    let e = c.in-Err.ensures in
    record { lent = e.lent; run = (sym e.gives.answer, e.leaves.0, e.leaves.1, e.leaves.2, e.leaves.3, e.leaves.4) }
