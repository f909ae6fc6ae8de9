use Rattle.std.proofs.Common.{refl, ap}
use Rattle.std.proofs.lemmas.Result.{err_from_is_err_and}
use Rattle.messages.specs.Meaning.{message}
use Rattle.agreement.specs.Runs.{call, hand, repeat, lose, send, timer, show}
use Rattle.tables.specs.Meaning.{ring_in}
use Rattle.tables.proofs.Shared.{shared_gives}
use Rattle.turns.specs.Meaning.{kind_of}
use Rattle.shift.specs.Meaning.{call_of}
use Rattle.shift.proofs.Sequences.{called, call_answers}
use Rattle.shift.proofs.obeying.obey.Goals as goal

pub returns-in-Hand : goal.returns-in-Hand
returns-in-Hand g c =
    let v = g.V.Value in
    let w = g.W.Wire in
    let k = kind_of v.width v.valid v.allows in
    let s = ring_in v.bytes c.args.tables.now (w.waiting c.args.wire.now) (w.capacity c.args.wire.now) in
    let s' = ring_in v.bytes c.hand.new.tables (w.waiting c.hand.new.wire) (w.capacity c.hand.new.wire) in
    let o = call_answers k s s' _ (hand c.in-Hand.place) (ap (call_of v.bytes) c.in-Hand.is) c.hand.result c.hand.ensures.gives in
    record { lent = c.hand.ensures.lent; answer = o.0; after = o.1 }

pub returns-in-Repeat : goal.returns-in-Repeat
returns-in-Repeat g c =
    let v = g.V.Value in
    let w = g.W.Wire in
    let k = kind_of v.width v.valid v.allows in
    let s = ring_in v.bytes c.args.tables.now (w.waiting c.args.wire.now) (w.capacity c.args.wire.now) in
    let s' = ring_in v.bytes c.repeat.new.tables (w.waiting c.repeat.new.wire) (w.capacity c.repeat.new.wire) in
    let o = call_answers k s s' _ (repeat c.in-Repeat.place) (ap (call_of v.bytes) c.in-Repeat.is) c.repeat.result c.repeat.ensures.gives in
    record { lent = c.repeat.ensures.lent; answer = o.0; after = o.1 }

pub returns-in-Lose : goal.returns-in-Lose
returns-in-Lose g c =
    let v = g.V.Value in
    let w = g.W.Wire in
    let k = kind_of v.width v.valid v.allows in
    let s = ring_in v.bytes c.args.tables.now (w.waiting c.args.wire.now) (w.capacity c.args.wire.now) in
    let s' = ring_in v.bytes c.args.tables.now (w.waiting c.lose.new.wire) (w.capacity c.lose.new.wire) in
    let o = call_answers k s s' _ (lose c.in-Lose.place) (ap (call_of v.bytes) c.in-Lose.is) c.lose.result
    (shared_gives v.bytes c.args.tables.now c.shared-seen.result.ring c.shared-seen.result.records.now c.shared-seen.result.rows.now c.shared-seen.ensures.ring c.shared-seen.ensures.same (λ s. call k s (lose c.in-Lose.place)) _ s.wire s'.wire s.capacity s'.capacity c.lose.ensures) in
    record { lent = (refl, (refl, refl)); answer = o.0; after = o.1 }

pub returns-in-Send : goal.returns-in-Send
returns-in-Send g c =
    let v = g.V.Value in
    let w = g.W.Wire in
    let k = kind_of v.width v.valid v.allows in
    let s = ring_in v.bytes c.args.tables.now (w.waiting c.args.wire.now) (w.capacity c.args.wire.now) in
    let s' = ring_in v.bytes c.args.tables.now (w.waiting c.send.new.wire) (w.capacity c.send.new.wire) in
    let o = call_answers k s s' _ (send (message v.bytes c.in-Send.m)) (ap (call_of v.bytes) c.in-Send.is) c.send.result
    (shared_gives v.bytes c.args.tables.now c.shared-seen-in-Send.result.ring c.shared-seen-in-Send.result.records.now c.shared-seen-in-Send.result.rows.now c.shared-seen-in-Send.ensures.ring c.shared-seen-in-Send.ensures.same (λ s. call k s (send (message v.bytes c.in-Send.m))) _ s.wire s'.wire s.capacity s'.capacity c.send.ensures) in
    record { lent = (refl, (refl, refl)); answer = o.0; after = o.1 }

pub returns-in-Timer : goal.returns-in-Timer
returns-in-Timer g c =
    let v = g.V.Value in
    let w = g.W.Wire in
    let k = kind_of v.width v.valid v.allows in
    let s = ring_in v.bytes c.args.tables.now (w.waiting c.args.wire.now) (w.capacity c.args.wire.now) in
    let s' = ring_in v.bytes c.timer.new.tables (w.waiting c.timer.new.wire) (w.capacity c.timer.new.wire) in
    let o = call_answers k s s' _ (timer c.in-Timer.party) (ap (call_of v.bytes) c.in-Timer.is) c.timer.result c.timer.ensures.gives in
    record { lent = c.timer.ensures.lent; answer = o.0; after = o.1 }

pub returns-in_ok-show-in-Show : goal.returns-in_ok-show-in-Show
returns-in_ok-show-in-Show g c =
    let v = g.V.Value in
    let w = g.W.Wire in
    let k = kind_of v.width v.valid v.allows in
    let s = ring_in v.bytes c.args.tables.now (w.waiting c.args.wire.now) (w.capacity c.args.wire.now) in
    let o = called k s s _ (show c.in-Show.party) (ap (call_of v.bytes) c.in-Show.is) _
    (shared_gives v.bytes c.args.tables.now c.shared-seen-in-Show.result.ring c.shared-seen-in-Show.result.records.now c.shared-seen-in-Show.result.rows.now c.shared-seen-in-Show.ensures.ring c.shared-seen-in-Show.ensures.same (λ s. call k s (show c.in-Show.party)) _ s.wire s.wire s.capacity s.capacity (c.in_ok-show-in-Show.ensures s.wire s.capacity)) in
    record { lent = (refl, (refl, refl)); answer = o.0; after = o.1 }

pub returns-in_err-show-in-Show : goal.returns-in_err-show-in-Show
returns-in_err-show-in-Show g c =
    let v = g.V.Value in
    let w = g.W.Wire in
    let k = kind_of v.width v.valid v.allows in
    let s = ring_in v.bytes c.args.tables.now (w.waiting c.args.wire.now) (w.capacity c.args.wire.now) in
    let o = called k s s _ (show c.in-Show.party) (ap (call_of v.bytes) c.in-Show.is) _
    (shared_gives v.bytes c.args.tables.now c.shared-seen-in-Show.result.ring c.shared-seen-in-Show.result.records.now c.shared-seen-in-Show.result.rows.now c.shared-seen-in-Show.ensures.ring c.shared-seen-in-Show.ensures.same (λ s. call k s (show c.in-Show.party)) _ s.wire s.wire s.capacity s.capacity (c.in_err-show-in-Show.ensures s.wire s.capacity)) in
    let f = err_from_is_err_and c.from_residual.result c.from_residual.ensures.1 in
    record { lent = (refl, (refl, refl)); answer = rw (f.1, f.2) o.0; after = o.1 }
