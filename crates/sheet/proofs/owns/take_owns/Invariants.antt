use Rattle.std.proofs.Common.{◌≡◌, ◌+◌, map, length, take, replicate, Ok}
use Rattle.sheet_lines.specs.Lines.{lines}
use Rattle.sheet.specs.Sheets.{own_values}
use Rattle.sheet.proofs.owns.take_owns.Given as goal

abbrev pub invariant-loop-i : goal.invariant-loop-i
invariant-loop-i g l =
    (length l.value-items ≡ l.fn.parties)
    × (l.cursor.sheet.now ≡ l.fn.cursor.sheet.now)
    × (l.cursor.passed ≡ l.fn.cursor.passed + l.i)
    × (own_values g.V.SheetValue.reads (replicate g.V.Value.width 0) (lines l.fn.cursor.sheet.now) l.faulty l.fn.cursor.passed l.i
    ≡ Ok (take l.i (map g.V.Value.bytes l.value-items)))
