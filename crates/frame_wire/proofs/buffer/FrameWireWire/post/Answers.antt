use Rattle.std.proofs.Common.{◌≡◌, ℕ, ◌+◌, ◌*◌, ◌/◌, ◌<◌, ◌≤◌, List, length, unwrap_or, sym, refl, ap, ◌∙◌, arith, rules}
use Rattle.octets.specs.Bytes.{over}
use Rattle.octets.proofs.Writes.{length_over}
use Rattle.messages.specs.Meaning.{message}
use Rattle.frames.specs.Frames.{frame, frame_length}
use Rattle.frames.proofs.Back.{frame_length_stands, reads_back}
use Rattle.wires.specs.Wire.{fixed_request, posted}
use Rattle.wires.proofs.Places.{full_test, full_answer, full_after, free_test, free_answer, free_after}
use Rattle.frame_wire.specs.Buffer.{places, heard, frames_in}
use Rattle.frame_wire.proofs.Slots.{length_listing, listing_more, fits_at}
use Rattle.frame_wire.proofs.buffer.FrameWireWire.post.Goals as goal

pub returns-then-count-places_of : goal.returns-then-count-places_of
returns-then-count-places_of g c =
    let v = g.V.Value in
    let b = c.args.self.now.buffer.now in
    let n = c.args.self.now.count in
    let most = places v.width b in
    let xs = frames_in v.valid v.width n b in
    let m = message v.bytes c.args.m.now in
    let ok = c.if-not-in_range.ensures in
    let full : most ≤ length xs = omega (arith, length_listing (frame_length v.width) (heard v.valid v.width) n b, c.places_of.ensures, c.if-count-places_of.true) in
    record { kept = refl; test = full_test v.valid v.width most xs m ok full; value = full_answer v.valid v.width most xs m ok full; after = full_after v.valid v.width most xs m ok full }

pub returns : goal.returns
returns g c =
    let v = g.V.Value in
    let b = c.args.self.now.buffer.now in
    let n = c.args.self.now.count in
    let most = places v.width b in
    let size = frame_length v.width in
    let hear = heard v.valid v.width in
    let xs = frames_in v.valid v.width n b in
    let m = message v.bytes c.args.m.now in
    let ok = c.if-not-in_range.ensures in
    let room : n < most = omega (arith, c.places_of.ensures, c.if-count-places_of.false) in
    let free : length xs < most = omega (arith, length_listing size hear n b, room) in
    let fl = frame_length_stands v.valid v.width m (sym ok) in
    let back = ap (λ o. unwrap_or o (fixed_request v.width)) (reads_back v.valid v.width m (sym ok)) in
    let fits : n * size + length (frame m) ≤ length b = rw fl (fits_at n b v.width size refl room) in
    let kept : (new : List ℕ) → new ≡ over b (n * size) (frame m) → places v.width new ≡ most = λ new e. ap (λ l. l / size) (ap length e ∙ length_over b (n * size) (frame m) fits) in
    let test = free_test v.valid v.width most xs m ok free in
    let value = free_answer v.valid v.width most xs m ok free in
    let after : (new : List ℕ) → new ≡ over b (n * size) (frame m) → frames_in v.valid v.width (n + 1) new ≡ posted v.valid v.width most xs m = λ new e. ap (frames_in v.valid v.width (n + 1)) e ∙ (listing_more size hear n b (frame m) m room fl back ∙ free_after v.valid v.width most xs m ok free) in
    search (rules, kept, test, value, after)
