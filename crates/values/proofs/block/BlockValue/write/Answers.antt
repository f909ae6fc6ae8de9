use Rattle.std.proofs.Common.{◌+◌, ◌++◌, ap, ◌∙◌, refl, arith}
use Rattle.octets.specs.Bytes.{be, over}
use Rattle.octets.proofs.Writes.{two_writes}
use Rattle.values.proofs.block.BlockValue.write.Goals as goal

pub returns : goal.returns
returns c =
    let b = c.args.self.now in
    let out = c.args.out.now in
    let at = c.args.at in
    let one = c.put.ensures ∙ ap (over out at) c.to_bytes.ensures in
    let two = c.put-2.ensures ∙ ap (over c.put.new.out (at + 8)) c.to_bytes-2.ensures in
    let three = c.put-3.ensures ∙ ap (over c.put-2.new.out (at + 12)) c.to_bytes-3.ensures in
    let both = two_writes out c.put.new.out c.put-2.new.out (be 8 b.first) (be 4 b.count) (be 8 b.first ++ be 4 b.count) at 8 refl (omega (arith, c.requires)) one two refl in
    two_writes out c.put-2.new.out c.put-3.new.out (be 8 b.first ++ be 4 b.count) (be 2 b.party) _ at 12 refl (omega (arith, c.requires)) both three refl
