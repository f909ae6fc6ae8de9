use Rattle.std.proofs.Common.{◌<◌, arith, rules}
use Rattle.std.specs.Int.Digits.{AllBelowBase}
use Rattle.std.proofs.ByRecursion.{All-from_get_or}
use Rattle.values.proofs.Readings.{block_back}
use Rattle.values.proofs.block.BlockValue.read.Goals as goal

pub returns : goal.returns
returns c =
    let bs = c.args.from.now in
    let u : AllBelowBase 256 bs = All-from_get_or (λ b. b < 256) bs 0 (λ i h. omega (arith, c.type_inv.from i)) in
    search (rules, block_back)
