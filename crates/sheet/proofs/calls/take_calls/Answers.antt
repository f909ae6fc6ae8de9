use Rattle.std.proofs.Common.{◌≡◌, ◌+◌, ◌-◌, ◌<◌, [], ◌∷◌, ◌++◌, length, Ok, Err, vec_items, sym, ap, ◌∙◌, arith, rules, tests}
use Rattle.std.proofs.lemmas.List.{length_push}
use Rattle.std.proofs.lemmas.Result.{err_from_is_err_and}
use Rattle.std.proofs.lemmas.Bool.{leb-false}
use Rattle.sheet_lines.specs.Faults.{fault_line}
use Rattle.sheet_lines.specs.Lines.{lines, line_after}
use Rattle.sheet_lines.specs.Readings.{call_line}
use Rattle.sheet.specs.Sheets.{line_gives}
use Rattle.sheet.proofs.Eaches.{some_calls, call_more, call_stops}
use Rattle.sheet.proofs.calls.take_calls.Goals as goal

pub returns-in_err-take : goal.returns-in_err-take
returns-in_err-take c =
    let s = c.loop-calls.cursor in
    let v = c.loop-calls.invariant in
    let p = err_from_is_err_and c.from_residual.result c.from_residual.ensures.1 in
    let t = leb-false _ _ (sym c.loop-calls-test.ensures) in
    let q = ap (λ s. length (lines s)) v.0 in
    let e : Err (fault_line c.take.new.self.passed c.in_err-take.field-0.0) ≡ line_gives (s.passed + 1) (call_line (line_after (lines s.sheet.now) s.passed)) = search (rules, tests) in
    let k = length (vec_items c.loop-calls.calls) in
    let n = length (lines c.args.cursor.now.sheet.now) - c.args.cursor.now.passed in
    let l : k < n = omega (arith, t, q, v.1) in
    let h = call_stops s.sheet.now c.args.cursor.now.sheet.now c.args.cursor.now.passed s.passed k n _ _ v.0 v.1 l v.3 e in
    record { value = rw (p.1, p.2) h }

pub loop-calls-preserved : goal.loop-calls-preserved
loop-calls-preserved c =
    let s = c.loop-calls.cursor in
    let v = c.loop-calls.invariant in
    let b = c.in_ok-take.ensures in
    let x = c.in_ok-take.field-0 in
    let t = leb-false _ _ (sym c.loop-calls-test.ensures) in
    let q = ap (λ s. length (lines s)) v.0 in
    let e : Ok x ≡ line_gives (s.passed + 1) (call_line (line_after (lines s.sheet.now) s.passed)) = search (rules, tests) in
    let k = length (vec_items c.loop-calls.calls) in
    let m = call_more s.sheet.now c.args.cursor.now.sheet.now c.args.cursor.now.passed s.passed k _ _ v.0 v.1 v.3 e in
    let w : vec_items c.push.new.self ≡ vec_items c.loop-calls.calls ++ x ∷ [] = search (rules, tests) in
    let n : length (vec_items c.push.new.self) ≡ k + 1 = ap length w ∙ length_push (vec_items c.loop-calls.calls) x in (
      b.same ∙ v.0,
      omega (arith, b.passed, v.1, n),
      omega (arith, t, q, v.1, n),
      ap (some_calls c.args.cursor.now.sheet.now c.args.cursor.now.passed) n ∙ (m ∙ ap Ok (sym w)),
    )
