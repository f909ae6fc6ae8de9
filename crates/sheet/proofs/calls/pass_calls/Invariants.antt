use Rattle.std.proofs.Common.{◌≡◌, ◌-◌, ◌≤◌, length, Ok}
use Rattle.sheet_lines.specs.Lines.{lines}
use Rattle.sheet.specs.Sheets.{sized}
use Rattle.sheet.proofs.Eaches.{some_calls}
use Rattle.sheet.proofs.calls.pass_calls.Given as goal

abbrev pub invariant-loop-cursor : goal.invariant-loop-cursor
invariant-loop-cursor l =
    let count = l.cursor.passed - l.first in
    (l.cursor.sheet.now ≡ l.initial.cursor.sheet.now)
    × (l.first ≡ l.initial.cursor.passed)
    × (l.first ≤ l.cursor.passed)
    × (count ≤ length (lines l.initial.cursor.sheet.now) - l.first)
    × (sized (some_calls l.initial.cursor.sheet.now l.first count) ≡ Ok count)

abbrev pub decreases-loop-cursor : goal.decreases-loop-cursor
decreases-loop-cursor l = length (lines l.initial.cursor.sheet.now) - l.cursor.passed
