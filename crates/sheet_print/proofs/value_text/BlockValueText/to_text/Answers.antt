use Rattle.std.proofs.Common.{arith}
use Rattle.sheet_print.proofs.Back.{block_back}
use Rattle.sheet_print.proofs.value_text.BlockValueText.to_text.Goals as goal

pub returns-clause-back : goal.returns-clause-back
returns-clause-back c =
    let b = c.args.self.now in
    λ _. block_back b.first b.count b.party (omega arith) (omega arith) (omega arith)
