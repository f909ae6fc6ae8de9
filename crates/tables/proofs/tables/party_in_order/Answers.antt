use Rattle.std.proofs.Common.{arith}
use Rattle.tables.proofs.Parts.{or_first, or_second, party_tested}
use Rattle.tables.proofs.tables.party_in_order.Goals as goal

pub returns-then-is_named : goal.returns-then-is_named
returns-then-is_named g c = or_first _ _ (c.if-is_named.ensures (omega (arith, c.args.ring.now.most)))

pub base_of-base-requires : goal.base_of-base-requires
base_of-base-requires g c = (omega arith, c.args.ring.now.most)

pub returns : goal.returns
returns g c =
    let i = c.index-records-party in
    let b = c.base_of-base in
    or_second _ _ _ (c.if-is_named.ensures (omega (arith, c.args.ring.now.most)))
    (party_tested g.V.Value.bytes c.args.ring.now.n c.args.party b.result c.args.records.now c.args.rows.now i.result c.party_in_bounds.result
    (omega arith) (omega arith) i.is b.ensures.value (omega (arith, b.ensures.within, c.requires.places.1)) c.party_in_bounds.ensures)
