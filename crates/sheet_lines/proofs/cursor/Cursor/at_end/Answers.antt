use Rattle.std.proofs.Common.{rules}
use Rattle.sheet_lines.proofs.Walk.{ends_alike, some_left}
use Rattle.sheet_lines.proofs.cursor.Cursor.at_end.Goals as goal

pub returns : goal.returns
returns c =
    let s = c.args.self.now in
    let e = ends_alike s.sheet.now s.at s.passed s.along (some_left s.sheet.now s.at s.passed s.along) in
    search rules
