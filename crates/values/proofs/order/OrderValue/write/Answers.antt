use Rattle.std.proofs.Common.{◌+◌, ◌∷◌, [], ap, ◌∙◌, refl, sym, arith}
use Rattle.octets.specs.Bytes.{be, over}
use Rattle.octets.proofs.Writes.{two_writes}
use Rattle.values.proofs.order.OrderValue.write.Goals as goal

pub returns : goal.returns
returns c =
    let out = c.args.out.now in
    let p = c.parts-what.result in
    let two = c.put-2.ensures ∙ ap (over c.put.new.out (c.args.at + 1)) c.to_bytes.ensures in
    two_writes out c.put.new.out c.put-2.new.out (p.0 ∷ []) (be 2 p.1) _ c.args.at 1 refl (omega (arith, c.requires)) c.put.ensures two (sym c.parts-what.ensures)
