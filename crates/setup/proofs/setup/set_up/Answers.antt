use Rattle.std.proofs.Common.{◌≡◌, ◌-◌, ◌*◌, ◌≤◌, length, sym, refl, ap, ◌∙◌, arith}
use Rattle.std.proofs.lemmas.List.{length-map}
use Rattle.std.proofs.lemmas.Bool.{leb-true, eqb-true}
use Rattle.std.proofs.lemmas.Result.{err_from_is_err_and}
use Rattle.agreement.specs.Ring.{room}
use Rattle.agreement.specs.Calls.{named}
use Rattle.turns.specs.Meaning.{kind_of}
use Rattle.setup.specs.Meaning.{plan_in, ring_cut}
use Rattle.setup.proofs.Firsts.{done_same}
use Rattle.setup.proofs.Tests.{size_parts, enough_parts, refuse_1, accept, plan_refused, plan_free, inspected}
use Rattle.setup.proofs.setup.set_up.Goals as goal

pub returns-then-not-sizes_fit : goal.returns-then-not-sizes_fit
returns-then-not-sizes_fit g c =
    let v = g.V.Value in
    let w = g.W.Wire in
    let k = kind_of v.width v.valid v.allows in
    let p = plan_in v.bytes c.args.plan.now in
    let s = ring_cut v.bytes p.n c.args.tables.now (w.waiting c.args.wire.now) (w.capacity c.args.wire.now) in
    record { lent = (refl, refl); gives = refuse_1 k p s c.if-not-sizes_fit.ensures; leaves = (refl, refl, refl, refl, refl) }

pub overflow_cast-planned : goal.overflow_cast-planned
overflow_cast-planned g c = let p = size_parts c.args.plan.now.n c.args.plan.now.f c.if-not-sizes_fit.ensures in omega (arith, p.1)

pub overflow_cast-planned-2 : goal.overflow_cast-planned-2
overflow_cast-planned-2 g c = let p = size_parts c.args.plan.now.n c.args.plan.now.f c.if-not-sizes_fit.ensures in omega (arith, p.1, p.2)

pub returns-in_err-verdict : goal.returns-in_err-verdict
returns-in_err-verdict g c =
    let v = g.V.Value in
    let w = g.W.Wire in
    let k = kind_of v.width v.valid v.allows in
    let a = c.args.plan.now in
    let p = plan_in v.bytes a in
    let s = ring_cut v.bytes p.n c.args.tables.now (w.waiting c.args.wire.now) (w.capacity c.args.wire.now) in
    let i = c.inspect.result in
    let e = c.inspect.ensures in
    let q = c.shared-seen.ensures.same in
    let seen = inspected v.bytes a.own.now a.n a.f a.faulty k s i.named i.few i.places i.owns i.vacant i.roomy e.named e.few (rw (sym q.0, sym q.1) e.places) e.owns e.vacant e.roomy in
    let f = err_from_is_err_and c.from_residual.result c.from_residual.ensures.1 in
    let h = plan_refused k p s c.if-not-sizes_fit.ensures i.named i.few i.places i.owns i.vacant i.roomy _ seen c.in_err-verdict.ensures in
    record { lent = (refl, refl); gives = rw (f.1, f.2) h; leaves = rw f.1 (refl, refl, refl, refl, refl) }

pub enter_all-requires : goal.enter_all-requires
enter_all-requires g c =
    let v = g.V.Value in
    let w = g.W.Wire in
    let k = kind_of v.width v.valid v.allows in
    let a = c.args.plan.now in
    let p = plan_in v.bytes a in
    let s = ring_cut v.bytes p.n c.args.tables.now (w.waiting c.args.wire.now) (w.capacity c.args.wire.now) in
    let i = c.inspect.result in
    let e = c.inspect.ensures in
    let q = c.shared-seen.ensures.same in
    let seen = inspected v.bytes a.own.now a.n a.f a.faulty k s i.named i.few i.places i.owns i.vacant i.roomy e.named e.few (rw (sym q.0, sym q.1) e.places) e.owns e.vacant e.roomy in
    let t = plan_free k p s i.named i.few i.places i.owns i.vacant i.roomy seen c.in_ok-verdict.ensures in
    let m = enough_parts p.n (length p.own) s.records (p.n * p.n) s.rows t.places in
    let l = length-map a.own.now v.bytes in
    let r : p.n * p.n ≤ s.capacity - length s.wire = leb-true (p.n * p.n) (room s) (sym t.space) in
    let z = eqb-true (length s.wire) 0 (sym t.wire) in
    record { places = (omega (arith, m.0, l), m.1, m.2); room = omega (arith, r, z) }

pub returns : goal.returns
returns g c =
    let v = g.V.Value in
    let w = g.W.Wire in
    let k = kind_of v.width v.valid v.allows in
    let a = c.args.plan.now in
    let p = plan_in v.bytes a in
    let s = ring_cut v.bytes p.n c.args.tables.now (w.waiting c.args.wire.now) (w.capacity c.args.wire.now) in
    let i = c.inspect.result in
    let e = c.inspect.ensures in
    let q = c.shared-seen.ensures.same in
    let seen = inspected v.bytes a.own.now a.n a.f a.faulty k s i.named i.few i.places i.owns i.vacant i.roomy e.named e.few (rw (sym q.0, sym q.1) e.places) e.owns e.vacant e.roomy in
    let t = plan_free k p s i.named i.few i.places i.owns i.vacant i.roomy seen c.in_ok-verdict.ensures in
    let o = c.enter_all.new in
    let u = c.enter_all.ensures in
    let n : o.tables.ring.n ≡ p.n = ap (λ r. r.n) u.lent.0 in
    let s' = ring_cut v.bytes p.n o.tables (w.waiting o.wire) (w.capacity o.wire) in
    let z = ap (λ j. ring_cut v.bytes j o.tables (w.waiting o.wire) (w.capacity o.wire)) (sym n) ∙ (u.entered ∙ done_same k p s p.n p.f (named p.word)) in
    record {
      lent = (u.lent.1.0, u.lent.1.1);
      gives = accept k p s c.if-not-sizes_fit.ensures t.names t.liars t.places t.values t.wire s' t.space z;
      leaves = (refl, n);
    }
