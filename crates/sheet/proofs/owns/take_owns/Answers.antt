use Rattle.std.proofs.Common.{◌≡◌, ◌+◌, replicate, Ok, Err, sym, refl, ap, ◌∙◌, arith, rules, tests}
use Rattle.std.proofs.lemmas.List.{length-set}
use Rattle.std.proofs.lemmas.Result.{err_from_is_err_and}
use Rattle.sheet_lines.specs.Faults.{outcome_as, fault_line}
use Rattle.sheet_lines.specs.Lines.{lines, line_after}
use Rattle.sheet_lines.specs.Readings.{own_line}
use Rattle.sheet.specs.Sheets.{line_gives}
use Rattle.sheet.proofs.Eaches.{own_more, own_stops, write_front, blanks_after}
use Rattle.sheet.proofs.owns.take_owns.Goals as goal

pub returns-in_err-value-clause-value : goal.returns-in_err-value-clause-value
returns-in_err-value-clause-value g c =
    let s = c.loop-i.cursor in
    let v = c.loop-i.invariant in
    let p = err_from_is_err_and c.from_residual.result c.from_residual.ensures.1 in
    let e : Err (fault_line c.take.new.self.passed c.in_err-value.field-0.0) ≡ line_gives (s.passed + 1) (own_line g.V.SheetValue.reads (replicate g.V.Value.width 0) c.args.faulty (c.loop-i.i + 1) (line_after (lines s.sheet.now) s.passed)) = search (rules, tests) in
    ap (outcome_as _ _) (p.1 ∙ ap Err p.2)
    ∙ own_stops g.V.SheetValue.reads (replicate g.V.Value.width 0) s.sheet.now c.args.cursor.now.sheet.now
    c.args.faulty c.args.cursor.now.passed s.passed c.loop-i.i c.args.parties _ _ v.1 v.2 (omega arith) v.3 e

pub loop-i-preserved : goal.loop-i-preserved
loop-i-preserved g c =
    let s = c.loop-i.cursor in
    let v = c.loop-i.invariant in
    let x = c.in_ok-value.field-0 in
    let e : Ok (g.V.Value.bytes x) ≡ line_gives (s.passed + 1) (own_line g.V.SheetValue.reads (replicate g.V.Value.width 0) c.args.faulty (c.loop-i.i + 1) (line_after (lines s.sheet.now) s.passed)) = search (rules, tests) in
    let m = own_more g.V.SheetValue.reads (replicate g.V.Value.width 0) s.sheet.now c.args.cursor.now.sheet.now
    c.args.faulty c.args.cursor.now.passed s.passed c.loop-i.i _ _ v.1 v.2 v.3 e in (
      length-set c.loop-i.value-items c.loop-i.i x ∙ v.0,
      c.in_ok-value.ensures.same ∙ v.1,
      omega (arith, c.in_ok-value.ensures.passed),
      m ∙ ap Ok (sym (write_front g.V.Value.bytes c.loop-i.value-items c.loop-i.i x (omega arith))),
    )

pub returns-clause-rest : goal.returns-clause-rest
returns-clause-rest g c = blanks_after g.V.Value.bytes c.loop-i.value-items _ c.args.parties _ c.loop-i.invariant.0 (rw c.blank-own.ensures refl)
