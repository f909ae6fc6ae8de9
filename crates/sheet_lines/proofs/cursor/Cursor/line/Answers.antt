use Rattle.std.proofs.Common.{◌+◌, ◌-◌, length, take, drop, sym, refl, ap, ◌∙◌, subst, arith}
use Rattle.std.proofs.lemmas.List.{get_or_past, take_rest}
use Rattle.sheet_fields.specs.Cuts.{before}
use Rattle.sheet_lines.proofs.Walk.{Along, none_left, next_line, last_line, line_within, kept_not, kept_long, kept_whole}
use Rattle.sheet_lines.proofs.cursor.Cursor.line.Goals as goal

pub returns-then-self : goal.returns-then-self
returns-then-self c =
    let s = c.args.self.now in
    let n = none_left s.sheet.now s.at s.passed s.along c.if-self.true in
    record { same = refl; cases = (get_or_past _ _ _ n, refl) }

pub invariant_of-self : goal.invariant_of-self
invariant_of-self c =
    let s = c.args.self.now in
    let p = last_line s.sheet.now _ s.at s.passed s.along (take_rest s.sheet.now s.at) c.in_default.ensures c.if-self.false in
    record { within = omega arith; counted = omega (arith, s.counted); along = p.1 }

pub invariant_of-self-2 : goal.invariant_of-self-2
invariant_of-self-2 c =
    let s = c.args.self.now in
    let h = c.in-Some.ensures in
    let rest = take (length s.sheet.now - s.at) (drop s.at s.sheet.now) in
    let e = take_rest s.sheet.now s.at in
    let p = next_line s.sheet.now rest s.at s.passed s.along e h.0 in
    let w = line_within s.sheet.now rest s.at e h.0 in
    let f = ap length h.1.0 in
    let a : Along s.sheet.now (s.at + (length c.in-Some.halves.front.now + 1)) (s.passed + 1) = subst (λ n. Along s.sheet.now (s.at + (n + 1)) (s.passed + 1)) (sym f) p.1 in
    record { within = omega arith; counted = omega (arith, s.counted); along = a }

pub returns-then-self-gt-MOST_BYTES : goal.returns-then-self-gt-MOST_BYTES
returns-then-self-gt-MOST_BYTES c =
    let s = c.args.self.now in
    let h = c.in-Some.ensures in
    let rest = take (length s.sheet.now - s.at) (drop s.at s.sheet.now) in
    let p = next_line s.sheet.now rest s.at s.passed s.along (take_rest s.sheet.now s.at) h.0 in
    let f = ap length h.1.0 in
    record { same = refl; cases = (p.0 ∙ kept_not s.at (before 10 rest) (omega arith), refl) }

pub returns-then-text-gt-MOST_IN_LINE : goal.returns-then-text-gt-MOST_IN_LINE
returns-then-text-gt-MOST_IN_LINE c =
    let s = c.args.self.now in
    let h = c.in-Some.ensures in
    let rest = take (length s.sheet.now - s.at) (drop s.at s.sheet.now) in
    let p = next_line s.sheet.now rest s.at s.passed s.along (take_rest s.sheet.now s.at) h.0 in
    let f = ap length h.1.0 in
    record { same = refl; cases = (p.0 ∙ kept_long s.at (before 10 rest) (omega arith), rw c.into-then-text-gt-MOST_IN_LINE.ensures refl) }

pub returns-in_default : goal.returns-in_default
returns-in_default c =
    let s = c.args.self.now in
    let p = last_line s.sheet.now _ s.at s.passed s.along (take_rest s.sheet.now s.at) c.in_default.ensures c.if-self.false in
    record { same = refl; cases = (p.0, rw c.into.ensures refl) }

pub returns : goal.returns
returns c =
    let s = c.args.self.now in
    let h = c.in-Some.ensures in
    let rest = take (length s.sheet.now - s.at) (drop s.at s.sheet.now) in
    let p = next_line s.sheet.now rest s.at s.passed s.along (take_rest s.sheet.now s.at) h.0 in
    let f = ap length h.1.0 in
    record { same = refl; cases = (h.1.0 ∙ sym (p.0 ∙ kept_whole s.at (before 10 rest) (omega arith) (omega arith)), refl, refl) }
