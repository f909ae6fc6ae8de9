use Rattle.std.proofs.Common.{◌-◌, ◌≤◌, length, arith, rules}
use borrow.Author.Rules.{scaled_fits≤}
use Rattle.rows.proofs.Senders.{row_put}
use Rattle.notes.proofs.entries.put_row.Goals as goal

pub offset_bounds-rows-i : goal.offset_bounds-rows-i
offset_bounds-rows-i g c =
    let h : c.args.from - 1 ≤ length c.args.rows.now = omega arith in search (rules, scaled_fits≤)

pub returns : goal.returns
returns g c = row_put g.V.Value.bytes c.args.rows.now c.args.from c.args.row.now c.requires.0 c.requires.1
