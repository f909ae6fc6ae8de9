use Rattle.std.proofs.Common.{◌≡◌, ◌+◌, ◌-◌, ◌≤◌, length, Ok, vec_items}
use Rattle.sheet_lines.specs.Lines.{lines}
use Rattle.sheet.proofs.Eaches.{some_calls}
use Rattle.sheet.proofs.calls.take_calls.Given as goal

abbrev pub invariant-loop-calls : goal.invariant-loop-calls
invariant-loop-calls l =
    (l.cursor.sheet.now ≡ l.initial.cursor.sheet.now)
    × (l.cursor.passed ≡ l.initial.cursor.passed + length (vec_items l.calls))
    × (length (vec_items l.calls) ≤ length (lines l.initial.cursor.sheet.now) - l.initial.cursor.passed)
    × (some_calls l.initial.cursor.sheet.now l.initial.cursor.passed (length (vec_items l.calls)) ≡ Ok (vec_items l.calls))

abbrev pub decreases-loop-calls : goal.decreases-loop-calls
decreases-loop-calls l = length (lines l.initial.cursor.sheet.now) - l.cursor.passed
