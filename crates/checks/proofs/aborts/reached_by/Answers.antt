use Rattle.std.proofs.Common.{◌≡◌, ℕ, Bool, true, false, leb, length, sym, ap, ◌∙◌, arith, le-leb}
use borrow.Author.Tests.{lt-leb}
use Rattle.rules.specs.Counting.{count, largest}
use Rattle.rows.specs.Meaning.{rows_of}
use Rattle.checks.proofs.Turns.{largest_more}
use Rattle.checks.proofs.aborts.reached_by.Goals as goal
use Rattle.checks.proofs.aborts.reached_by.Goals.{then-tally-size, else-tally-size}

pub loop-row-preserved : goal.loop-row-preserved
loop-row-preserved g c =
    let b = g.V.Value.bytes in
    let rs = c.args.rows.now in
    let t : ℕ → Bool = λ x. leb c.args.size (count (λ j. leb x (rows_of b rs j).abort) (length rs)) in
    elim c.if-tally-size.branch [
      | then-tally-size w ↦ largest_more b rs c.loop-row.row-index c.row-item.result c.loop-row-test.true c.row-item.is t c.loop-row.top c.if-tally-size.top true (sym (le-leb _ _ w.if-tally-size.true) ∙ ap (leb c.args.size) c.tally.ensures) c.loop-row.invariant (w.top-is ∙ w.max-top.ensures)
      | else-tally-size w ↦ largest_more b rs c.loop-row.row-index c.row-item.result c.loop-row-test.true c.row-item.is t c.loop-row.top c.if-tally-size.top false (sym (lt-leb _ _ w.if-tally-size.false) ∙ ap (leb c.args.size) c.tally.ensures) c.loop-row.invariant w.top-is
    ]

pub returns : goal.returns
returns g c =
    let b = g.V.Value.bytes in
    let rs = c.args.rows.now in
    let e : c.loop-row.row-index ≡ length rs = omega arith in
    c.loop-row.invariant ∙ ap (largest (λ j. (rows_of b rs j).abort) (λ x. leb c.args.size (count (λ j. leb x (rows_of b rs j).abort) (length rs)))) e
