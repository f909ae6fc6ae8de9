use Rattle.std.proofs.Common.{◌≡◌, ◌+◌, ◌-◌, ◌<◌, length, Ok, Err, sym, ap, ◌∙◌, subst, arith, rules, tests}
use Rattle.std.proofs.lemmas.Result.{err_from_is_err_and}
use Rattle.std.proofs.lemmas.Bool.{leb-false}
use Rattle.sheet_lines.specs.Faults.{outcome, fault_line}
use Rattle.sheet_lines.specs.Lines.{lines, line_after}
use Rattle.sheet_lines.specs.Readings.{call_line}
use Rattle.sheet.specs.Sheets.{line_gives, sized}
use Rattle.sheet.proofs.Eaches.{some_calls, size_more, size_stops}
use Rattle.sheet.proofs.calls.pass_calls.Goals as goal

pub returns-in_err-take : goal.returns-in_err-take
returns-in_err-take c =
    let s = c.loop-cursor.cursor in
    let v = c.loop-cursor.invariant in
    let first = c.args.cursor.now.passed in
    let p = err_from_is_err_and c.from_residual.result c.from_residual.ensures.1 in
    let t = leb-false _ _ (sym c.loop-cursor-test.ensures) in
    let q = ap (λ s. length (lines s)) v.0 in
    let e : Err (fault_line c.take.new.self.passed c.in_err-take.field-0.0) ≡ line_gives (s.passed + 1) (call_line (line_after (lines s.sheet.now) s.passed)) = search (rules, tests) in
    let k : s.passed ≡ first + (s.passed - first) = omega arith in
    let l : s.passed - first < length (lines c.args.cursor.now.sheet.now) - first = omega (arith, t, q) in
    let h = size_stops s.sheet.now c.args.cursor.now.sheet.now first s.passed (s.passed - first) _ _ v.0 k l (rw v.1 at v.4) e in
    record { value = ap (outcome _) (p.1 ∙ ap Err p.2) ∙ h }

pub loop-cursor-preserved : goal.loop-cursor-preserved
loop-cursor-preserved c =
    let s = c.loop-cursor.cursor in
    let v = c.loop-cursor.invariant in
    let first = c.passed_lines-first.result in
    let b = c.in_ok-take.ensures in
    let t = leb-false _ _ (sym c.loop-cursor-test.ensures) in
    let q = ap (λ s. length (lines s)) v.0 in
    let e : Ok c.in_ok-take.field-0 ≡ line_gives (s.passed + 1) (call_line (line_after (lines s.sheet.now) s.passed)) = search (rules, tests) in
    let k : s.passed ≡ first + (s.passed - first) = omega arith in
    let m = size_more s.sheet.now c.args.cursor.now.sheet.now first s.passed (s.passed - first) _ v.0 k v.4 e in
    let n : s.passed - first + 1 ≡ c.take.new.self.passed - first = omega (arith, b.passed) in
    (b.same ∙ v.0, v.1, omega (arith, b.passed), omega (arith, t, q, b.passed), subst (λ n. sized (some_calls c.args.cursor.now.sheet.now first n) ≡ Ok n) n m)
