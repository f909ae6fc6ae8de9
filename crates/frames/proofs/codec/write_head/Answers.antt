use Rattle.std.proofs.Common.{◌+◌, ◌++◌, ◌∷◌, [], List, ℕ, refl, ap, ◌∙◌, arith}
use Rattle.octets.specs.Bytes.{be, over}
use Rattle.octets.proofs.Writes.{two_writes}
use Rattle.frames.specs.Frames.{word}
use Rattle.frames.proofs.codec.write_head.Goals as goal

pub returns : goal.returns
returns g c =
    let m = c.args.m.now in
    let out = c.args.out.now in
    let at = c.args.at in
    let first : List ℕ = m.kind ∷ m.from ∷ m.to ∷ 0 ∷ [] in
    let two = c.put-2.ensures ∙ ap (over c.put.new.out (at + 4)) c.to_bytes.ensures in
    let three = c.put-3.ensures ∙ ap (over c.put-2.new.out (at + 8)) c.to_bytes-2.ensures in
    let four = c.put-4.ensures ∙ ap (over c.put-3.new.out (at + 12)) c.to_bytes-3.ensures in
    let five = c.put-5.ensures ∙ ap (over c.put-4.new.out (at + 16)) (c.to_bytes-4.ensures ∙ ap (be 4) c.word_of.ensures) in
    let b = two_writes out c.put.new.out c.put-2.new.out first (be 4 m.view) _ at 4 refl (omega (arith, c.requires)) c.put.ensures two refl in
    let d = two_writes out c.put-2.new.out c.put-3.new.out (first ++ be 4 m.view) (be 4 m.key) _ at 8 refl (omega (arith, c.requires)) b three refl in
    let e = two_writes out c.put-3.new.out c.put-4.new.out ((first ++ be 4 m.view) ++ be 4 m.key) (be 4 m.second_key) _ at 12 refl (omega (arith, c.requires)) d four refl in
    two_writes out c.put-4.new.out c.put-5.new.out (((first ++ be 4 m.view) ++ be 4 m.key) ++ be 4 m.second_key) (be 4 (word m.previous)) _ at 16 refl (omega (arith, c.requires)) e five refl
