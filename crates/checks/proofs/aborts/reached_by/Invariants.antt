use Rattle.std.proofs.Common.{◌≡◌, leb, length}
use Rattle.rules.specs.Counting.{count, largest}
use Rattle.rows.specs.Meaning.{rows_of}
use Rattle.checks.proofs.aborts.reached_by.Given as goal

abbrev pub invariant-loop-row : goal.invariant-loop-row
invariant-loop-row g l =
    l.top ≡ largest (λ j. (rows_of g.V.Value.bytes l.rows j).abort) (λ x. leb l.size (count (λ j. leb x (rows_of g.V.Value.bytes l.rows j).abort) (length l.rows))) l.row-index
