use Rattle.std.proofs.Common.{◌-◌, arith}
use Rattle.std.proofs.lemmas.Nat.{one_shl}
use Rattle.sheet_fields.proofs.Sets.{joins}
use Rattle.sheet_fields.proofs.parties.with_party.Goals as goal

pub returns : goal.returns
returns c =
    let e = one_shl (c.args.party - 1) 64 (omega arith) in
    let j = joins c.args.word c.args.low c.args.party (omega arith) (omega arith) in
    (omega arith, omega arith)
