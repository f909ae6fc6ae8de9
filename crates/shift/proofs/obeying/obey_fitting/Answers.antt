use Rattle.std.proofs.Common.{sym, refl, ap, ◌∙◌}
use Rattle.std.proofs.lemmas.Result.{err_from_is_err_and}
use Rattle.messages.specs.Meaning.{message}
use Rattle.agreement.specs.Runs.{obey, hand, repeat, lose, send, timer, show}
use Rattle.tables.specs.Meaning.{ring_in}
use Rattle.tables.proofs.Shared.{shared_fit, shared_gives}
use Rattle.turns.specs.Meaning.{kind_of}
use Rattle.shift.specs.Meaning.{call_of}
use Rattle.shift.proofs.Sequences.{comes_to, answers}
use Rattle.shift.proofs.obeying.obey_fitting.Goals as goal

pub returns-in-Hand : goal.returns-in-Hand
returns-in-Hand g c =
    let v = g.V.Value in
    let w = g.W.Wire in
    let k = kind_of v.width v.valid v.allows in
    let s = ring_in v.bytes c.args.tables.now (w.waiting c.args.wire.now) (w.capacity c.args.wire.now) in
    let s' = ring_in v.bytes c.bring.new.tables (w.waiting c.bring.new.wire) (w.capacity c.bring.new.wire) in
    let o = answers k s s' _ (hand c.in-Hand.place) (ap (call_of v.bytes) c.in-Hand.is) c.requires c.bring.result c.bring.ensures.gives in
    record { lent = c.bring.ensures.lent; answer = o.0; after = o.1; fit = c.bring.ensures.fit }

pub returns-in-Repeat : goal.returns-in-Repeat
returns-in-Repeat g c =
    let v = g.V.Value in
    let w = g.W.Wire in
    let k = kind_of v.width v.valid v.allows in
    let s = ring_in v.bytes c.args.tables.now (w.waiting c.args.wire.now) (w.capacity c.args.wire.now) in
    let s' = ring_in v.bytes c.bring-in-Repeat.new.tables (w.waiting c.bring-in-Repeat.new.wire) (w.capacity c.bring-in-Repeat.new.wire) in
    let o = answers k s s' _ (repeat c.in-Repeat.place) (ap (call_of v.bytes) c.in-Repeat.is) c.requires c.bring-in-Repeat.result c.bring-in-Repeat.ensures.gives in
    record { lent = c.bring-in-Repeat.ensures.lent; answer = o.0; after = o.1; fit = c.bring-in-Repeat.ensures.fit }

pub returns-in-Lose : goal.returns-in-Lose
returns-in-Lose g c =
    let v = g.V.Value in
    let w = g.W.Wire in
    let k = kind_of v.width v.valid v.allows in
    let s = ring_in v.bytes c.args.tables.now (w.waiting c.args.wire.now) (w.capacity c.args.wire.now) in
    let s' = ring_in v.bytes c.args.tables.now (w.waiting c.discard.new.wire) (w.capacity c.discard.new.wire) in
    let o = answers k s s' _ (lose c.in-Lose.place) (ap (call_of v.bytes) c.in-Lose.is) c.requires c.discard.result (c.discard.ensures s) in
    record { lent = (refl, (refl, refl)); answer = o.0; after = o.1; fit = c.requires }

pub returns-in-Send : goal.returns-in-Send
returns-in-Send g c =
    let v = g.V.Value in
    let w = g.W.Wire in
    let k = kind_of v.width v.valid v.allows in
    let s = ring_in v.bytes c.args.tables.now (w.waiting c.args.wire.now) (w.capacity c.args.wire.now) in
    let s' = ring_in v.bytes c.args.tables.now (w.waiting c.speak.new.wire) (w.capacity c.speak.new.wire) in
    let o = answers k s s' _ (send (message v.bytes c.in-Send.m)) (ap (call_of v.bytes) c.in-Send.is) c.requires c.speak.result (c.speak.ensures s.parties s.records s.rows) in
    record { lent = (refl, (refl, refl)); answer = o.0; after = o.1; fit = c.requires }

pub returns-in-Timer : goal.returns-in-Timer
returns-in-Timer g c =
    let v = g.V.Value in
    let w = g.W.Wire in
    let k = kind_of v.width v.valid v.allows in
    let s = ring_in v.bytes c.args.tables.now (w.waiting c.args.wire.now) (w.capacity c.args.wire.now) in
    let s' = ring_in v.bytes c.run_out.new.tables (w.waiting c.run_out.new.wire) (w.capacity c.run_out.new.wire) in
    let o = answers k s s' _ (timer c.in-Timer.party) (ap (call_of v.bytes) c.in-Timer.is) c.requires c.run_out.result c.run_out.ensures.gives in
    record { lent = c.run_out.ensures.lent; answer = o.0; after = o.1; fit = c.run_out.ensures.fit }

pub returns-in_ok-look_up-in-Show : goal.returns-in_ok-look_up-in-Show
returns-in_ok-look_up-in-Show g c =
    let v = g.V.Value in
    let w = g.W.Wire in
    let k = kind_of v.width v.valid v.allows in
    let s = ring_in v.bytes c.args.tables.now (w.waiting c.args.wire.now) (w.capacity c.args.wire.now) in
    let o = comes_to k s s _ (show c.in-Show.party) (ap (call_of v.bytes) c.in-Show.is) c.requires _ (shared_gives v.bytes c.args.tables.now c.shared-seen.result.ring c.shared-seen.result.records.now c.shared-seen.result.rows.now c.shared-seen.ensures.ring c.shared-seen.ensures.same (λ s. obey k s (show c.in-Show.party)) _ s.wire s.wire s.capacity s.capacity (c.in_ok-look_up-in-Show.ensures s.wire s.capacity)) in
    record { lent = (refl, (refl, refl)); answer = o.0; after = o.1; fit = c.requires }

pub returns-in_err-look_up-in-Show : goal.returns-in_err-look_up-in-Show
returns-in_err-look_up-in-Show g c =
    let v = g.V.Value in
    let w = g.W.Wire in
    let k = kind_of v.width v.valid v.allows in
    let s = ring_in v.bytes c.args.tables.now (w.waiting c.args.wire.now) (w.capacity c.args.wire.now) in
    let o = comes_to k s s _ (show c.in-Show.party) (ap (call_of v.bytes) c.in-Show.is) c.requires _ (shared_gives v.bytes c.args.tables.now c.shared-seen.result.ring c.shared-seen.result.records.now c.shared-seen.result.rows.now c.shared-seen.ensures.ring c.shared-seen.ensures.same (λ s. obey k s (show c.in-Show.party)) _ s.wire s.wire s.capacity s.capacity (c.in_err-look_up-in-Show.ensures s.wire s.capacity)) in
    let f = err_from_is_err_and c.from_residual.result c.from_residual.ensures.1 in
    record { lent = (refl, (refl, refl)); answer = rw (f.1, f.2) o.0; after = o.1; fit = c.requires }

pub look_up-requires : goal.look_up-requires
look_up-requires g c = c.requires ∙ sym (shared_fit g.V.Value.bytes c.args.tables.now c.shared-seen.result.ring c.shared-seen.result.records.now c.shared-seen.result.rows.now c.shared-seen.ensures.ring c.shared-seen.ensures.same)
