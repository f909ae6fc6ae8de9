use Rattle.std.proofs.Common.{◌<◌, sym, refl, ap, ◌∙◌, arith, rules}
use Rattle.std.specs.Int.Digits.{AllBelowBase}
use Rattle.std.proofs.ByRecursion.{All-from_get_or}
use Rattle.frames.proofs.Back.{writes_back}
use Rattle.frames.proofs.Calls.{fields_are, no_length, no_zero, no_value, no_second, no_range, is-message, first_part, second_part}
use Rattle.frames.proofs.codec.read_frame.Goals as goal
use Rattle.frames.proofs.codec.read_frame.Goals.{then-from-frame_length-via-then-from-frame_length, then-from-frame_length-via-else-from-frame_length+then-from-ne0}

pub returns-then-from-frame_length : goal.returns-then-from-frame_length
returns-then-from-frame_length g c =
    elim c.then-from-frame_length.branch [
      | then-from-frame_length-via-then-from-frame_length w ↦ (no_length g.V.Value.valid g.V.Value.width c.args.from.now (λ e. omega (arith, c.frame_length.ensures, w.if-from-frame_length.true)), refl)
      | then-from-frame_length-via-else-from-frame_length+then-from-ne0 w ↦ (no_zero g.V.Value.valid g.V.Value.width c.args.from.now (λ e. omega (arith, w.if-from-ne0.true)), refl)
    ]

pub returns-in_err-ok_or : goal.returns-in_err-ok_or
returns-in_err-ok_or g c =
    let v = g.V.Value in
    let bs = c.args.from.now in
    let barred = rw c.in_err-ok_or.ensures.ok_part at c.read.ensures in
    let none = no_value v.valid v.width bs (ap v.valid (first_part bs v.width c.width_of-second.result c.width_of-second.ensures) ∙ barred) in
    search (rules, none)

pub returns-in_err-ok_or-2 : goal.returns-in_err-ok_or-2
returns-in_err-ok_or-2 g c =
    let v = g.V.Value in
    let bs = c.args.from.now in
    let barred = rw c.in_err-ok_or-2.ensures.ok_part at c.read-2.ensures in
    let none = no_second v.valid v.width bs (ap v.valid (second_part bs v.width c.width_of-second.result c.width_of-second.ensures) ∙ barred) in
    search (rules, none)

pub returns-else-in_range : goal.returns-else-in_range
returns-else-in_range g c =
    let v = g.V.Value in
    let bs = c.args.from.now in
    let one = rw c.in_ok-ok_or.ensures.ok_part at c.read.ensures in
    let two = rw c.in_ok-ok_or-2.ensures.ok_part at c.read-2.ensures in
    let x = one.1 ∙ sym (first_part bs v.width c.width_of-second.result c.width_of-second.ensures) in
    let y = two.1 ∙ sym (second_part bs v.width c.width_of-second.result c.width_of-second.ensures) in
    let e = fields_are v.width bs c.number_at.result c.number_at-2.result c.number_at-3.result c.number_at-4.result c.previous_of.result (v.bytes c.in_ok-ok_or.field-0) (v.bytes c.in_ok-ok_or-2.field-0) (cc) (cc) (cc) (cc) (cc) x y in
    (no_range v.valid v.width bs _ e (sym c.if-in_range.ensures), refl)

pub returns-then-in_range : goal.returns-then-in_range
returns-then-in_range g c =
    let v = g.V.Value in
    let bs = c.args.from.now in
    let one = rw c.in_ok-ok_or.ensures.ok_part at c.read.ensures in
    let two = rw c.in_ok-ok_or-2.ensures.ok_part at c.read-2.ensures in
    let x = one.1 ∙ sym (first_part bs v.width c.width_of-second.result c.width_of-second.ensures) in
    let y = two.1 ∙ sym (second_part bs v.width c.width_of-second.result c.width_of-second.ensures) in
    let e = fields_are v.width bs c.number_at.result c.number_at-2.result c.number_at-3.result c.number_at-4.result c.previous_of.result (v.bytes c.in_ok-ok_or.field-0) (v.bytes c.in_ok-ok_or-2.field-0) (cc) (cc) (cc) (cc) (cc) x y in
    let u : AllBelowBase 256 bs = All-from_get_or (λ b. b < 256) bs 0 (λ i h. omega (arith, c.type_inv.from i)) in
    let m = is-message v.valid v.width bs _ (c.if-from-frame_length.false ∙ c.frame_length.ensures) c.if-from-ne0.false e (sym c.if-in_range.ensures) in
    (m, writes_back v.valid v.width bs _ u m)
