use Rattle.std.proofs.Common.{◌≡◌, ◌+◌, ◌*◌, ◌^◌, ◌<◌, ◌≤◌, true, length, get_or, Some, sym, ap, ◌∙◌, arith, rules, tests, ◌-◌}
use Rattle.std.proofs.lemmas.Result.{err_from_is_err_and}
use Rattle.std.proofs.lemmas.Bool.Decides.{nat_tests}
use Rattle.std.specs.Str.Parse.{digits_value}
use Rattle.std.proofs.lemmas.List.{take_all}
use Rattle.std.proofs.lemmas.Int.Digits.{digits_value_more}
use Rattle.sheet_fields.proofs.Digits.{digit_value, no_digit, low_digit, high_digit, is_digit, too_large, number_is, digits_more, numeral-is}
use Rattle.sheet_fields.specs.Numbers.{digits, numeral}
use Rattle.sheet_fields.proofs.number.read_number.Goals as goal
use Rattle.sheet_fields.proofs.number.read_number.Goals.{else-s-gt1-via-then-s-gt1+else-s-eq48, else-s-gt1-via-else-s-gt1}

pub returns-in_default : goal.returns-in_default
returns-in_default c =
    let s = c.args.s.now in
    let i = c.loop-b.b-index in
    no_digit s i (omega arith) (low_digit (get_or s i 0) (omega arith))

pub returns-in_default-2 : goal.returns-in_default-2
returns-in_default-2 c =
    let s = c.args.s.now in
    let i = c.loop-b.b-index in
    no_digit s i (omega arith) (high_digit (get_or s i 0) (omega arith))

pub returns-in_err-tens : goal.returns-in_err-tens
returns-in_err-tens c =
    let s = c.args.s.now in
    let i = c.loop-b.b-index in
    let e = digits_value_more 10 s i c.loop-b-test.true in
    let p = err_from_is_err_and c.from_residual.result c.from_residual.ensures.1 in
    let h : 2 ^ 64 ≤ c.loop-b.n * 10 = search (rules, tests) in
    rw p.1 (sym (too_large s (i + 1) (omega arith)))

pub returns-in_err-n : goal.returns-in_err-n
returns-in_err-n c =
    let s = c.args.s.now in
    let i = c.loop-b.b-index in
    let e = digits_value_more 10 s i c.loop-b-test.true in
    let p = err_from_is_err_and c.from_residual-in_err-n.result c.from_residual-in_err-n.ensures.1 in
    let q : 48 ≤ get_or s i 0 = omega arith in
    let r : get_or s i 0 ≤ 57 = omega arith in
    let d = digit_value (get_or s i 0) q r in
    let h : 2 ^ 64 ≤ c.loop-b.n * 10 + (get_or s i 0 - 48) = search (rules, tests) in
    rw p.1 (sym (too_large s (i + 1) (omega arith)))

pub loop-b-preserved : goal.loop-b-preserved
loop-b-preserved c =
    let i = c.loop-b.b-index in
    let s = c.args.s.now in
    let e = digits_value_more 10 s i c.loop-b-test.true in
    let p : 48 ≤ get_or s i 0 = omega arith in
    let q : get_or s i 0 ≤ 57 = omega arith in
    let d = digit_value (get_or s i 0) p q in
    let m = digits_more s i c.loop-b-test.true c.loop-b.invariant.1 (is_digit (get_or s i 0) p q) in
    search (rules)

pub returns : goal.returns
returns c =
    let s = c.args.s.now in
    let all = take_all c.loop-b.b-index s (omega arith) in
    let v : c.loop-b.n ≡ digits_value 10 s = c.loop-b.invariant.0 ∙ ap (digits_value 10) all in
    let d : digits s ≡ true = sym (ap digits all) ∙ c.loop-b.invariant.1 in
    let l : 0 < length s = grind (arith, nat_tests, c.if-is_empty.ensures) in
    let n : numeral s ≡ digits s =
    elim c.else-s-gt1.branch [
      | else-s-gt1-via-then-s-gt1+else-s-eq48 w ↦ numeral-is s l (λ _ e. omega arith)
      | else-s-gt1-via-else-s-gt1 w ↦ numeral-is s l (λ h _. omega arith)
    ] in
    ap Some v ∙ sym (number_is s (n ∙ d) (omega arith))
