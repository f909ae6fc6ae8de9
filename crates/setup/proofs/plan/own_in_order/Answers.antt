use Rattle.std.proofs.Common.{sym, ap, ◌∙◌, arith}
use Rattle.tables.proofs.Parts.{or_second}
use Rattle.setup.proofs.Firsts.{own-from}
use Rattle.setup.proofs.plan.own_in_order.Goals as goal

pub returns-else-is_named : goal.returns-else-is_named
returns-else-is_named g c =
    let v = g.V.Value in
    let i = c.index-own-party in
    or_second _ _ _ (c.if-is_named.ensures (omega (arith, c.args.ring.now.most, c.requires.1)))
    (c.allowed.ensures ∙ ap v.allows (sym (own-from v.bytes c.args.own.now c.args.party i.result c.requires.0 (omega (arith, c.requires.1, c.requires.2)) i.is)))
