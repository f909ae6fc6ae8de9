use Rattle.std.proofs.Common.{◌≡◌, ◌<◌, ◌≤◌, cond, [], ◌∷◌, ◌++◌, length, sym, refl, ap, ◌∙◌, arith, rules}
use Rattle.std.proofs.lemmas.List.{length-set}
use Rattle.messages.specs.Meaning.{message}
use Rattle.wires.specs.Wire.{fixed_request}
use Rattle.wires.specs.Table.{entry, entries}
use Rattle.wires.proofs.Places.{length_front, front_more, full_test, full_answer, full_after, free_test, free_answer, free_after}
use Rattle.table_wire.proofs.table.TableWireWire.post.Goals as goal

pub returns-then-count-self : goal.returns-then-count-self
returns-then-count-self g c =
    let v = g.V.Value in
    let t = c.args.self.now.table.now in
    let n = c.args.self.now.count in
    let xs = entries v.valid v.width v.bytes n t in
    let m = message v.bytes c.args.m.now in
    let ok = c.if-not-in_range.ensures in
    let full : length t ≤ length xs = omega (arith, length_front (entry v.valid v.width v.bytes) t n, c.if-count-self.true) in
    record { kept = refl; test = full_test v.valid v.width (length t) xs m ok full; value = full_answer v.valid v.width (length t) xs m ok full; after = full_after v.valid v.width (length t) xs m ok full }

pub returns : goal.returns
returns g c =
    let v = g.V.Value in
    let t = c.args.self.now.table.now in
    let n = c.args.self.now.count in
    let f = entry v.valid v.width v.bytes in
    let xs = entries v.valid v.width v.bytes n t in
    let m = message v.bytes c.args.m.now in
    let ok = c.if-not-in_range.ensures in
    let free : length xs < length t = omega (arith, length_front f t n, c.if-count-self.false) in
    let own : f c.args.m.now ≡ m = ap (λ b. cond b m (fixed_request v.width)) (sym ok) in
    let kept = length-set t n c.args.m.now in
    let test = free_test v.valid v.width (length t) xs m ok free in
    let value = free_answer v.valid v.width (length t) xs m ok free in
    let after = front_more f t n c.args.m.now c.if-count-self.false ∙ (ap (λ x. xs ++ x ∷ []) own ∙ free_after v.valid v.width (length t) xs m ok free) in
    search (rules, kept, test, value, after)
