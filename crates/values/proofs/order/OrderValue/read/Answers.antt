use Rattle.std.proofs.Common.{◌<◌, arith, rules}
use Rattle.std.specs.Int.Digits.{AllBelowBase}
use Rattle.std.proofs.ByRecursion.{All-from_get_or}
use Rattle.values.proofs.Readings.{order_back}
use Rattle.values.proofs.order.OrderValue.read.Goals as goal

pub returns-in-3-default : goal.returns-in-3-default
returns-in-3-default c =
    let bs = c.args.from.now in
    let u : AllBelowBase 256 bs = All-from_get_or (λ b. b < 256) bs 0 (λ i h. omega (arith, c.type_inv.from i)) in
    let e = order_back bs c.number_at-number.result c.requires u c.number_at-number.ensures in
    search (rules, e)
