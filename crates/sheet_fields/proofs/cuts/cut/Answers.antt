use Rattle.std.proofs.Common.{◌≡◌, ◌+◌, ◌<◌, ◌≤◌, eqb, take, drop, length, sym, ap, ◌∙◌, arith, rules, tests}
use Rattle.std.proofs.lemmas.Iterator.{YieldsList-from_slice}
use Rattle.std.proofs.lemmas.Iterator.Search.{position_from_yields_List}
use Rattle.std.proofs.lemmas.List.{take_rest}
use Rattle.std.proofs.lemmas.Bool.{le-ltb, lt-ltb}
use Rattle.sheet_fields.specs.Cuts.{before}
use Rattle.sheet_fields.proofs.Cutting.{end_before, has-is, before_front, after-drop}
use Rattle.sheet_fields.proofs.cuts.cut.Goals as goal

pub returns-then-end-s : goal.returns-then-end-s
returns-then-end-s c =
    let stop = c.args.stop in
    let s = c.args.s.now in
    let p = position_from_yields_List (λ b. eqb b stop) _ _ c.position.result c.position.ensures.ran (YieldsList-from_slice s c.iter.ensures.rest) (λ x b q k. search (rules, tests)) in
    let e = end_before stop s c.position.result c.unwrap_or-end.result p c.unwrap_or-end.ensures in
    let h : length s ≤ length (before stop s) = omega (arith, e, c.if-end-s.true) in
    has-is stop s ∙ le-ltb (length (before stop s)) (length s) h

pub returns : goal.returns
returns c =
    let stop = c.args.stop in
    let s = c.args.s.now in
    let p = position_from_yields_List (λ b. eqb b stop) _ _ c.position.result c.position.ensures.ran (YieldsList-from_slice s c.iter.ensures.rest) (λ x b q k. search (rules, tests)) in
    let e = end_before stop s c.position.result c.unwrap_or-end.result p c.unwrap_or-end.ensures in
    let h : length (before stop s) < length s = omega (arith, e, c.if-end-s.false) in (
      has-is stop s ∙ lt-ltb (length (before stop s)) (length s) h,
      (
        ap (λ n. take n s) e ∙ sym (before_front stop s),
        take_rest s _ ∙ (ap (λ n. drop (n + 1) s) e ∙ sym (after-drop stop s)),
      ),
    )
