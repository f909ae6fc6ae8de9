use Rattle.std.proofs.Common.{◌≡◌, rules}
use Rattle.rows.specs.Votes.{vote_number}
use Rattle.notes.proofs.Tables.{lock_voted}
use Rattle.notes.proofs.notes.voted_row.Goals as goal

pub returns-in-Lock : goal.returns-in-Lock
returns-in-Lock g c = let e : vote_number c.args.vote ≡ 9 = search rules in lock_voted g.V.Value.bytes c.args.row c.args.value.now (vote_number c.args.vote) e
