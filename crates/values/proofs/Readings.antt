-- Blocks and orders from their bytes.
use Rattle.std.proofs.Common.{◌≡◌, ℕ, ◌<◌, List, ◌∷◌, ◌++◌, length, get_or, take, drop, sym, ap, ◌∙◌, arith}
use Rattle.std.specs.Int.Digits.{number_from_digits, AllBelowBase}
use Rattle.std.proofs.lemmas.List.{take_all, drop_more, length-drop}
use Rattle.octets.specs.Bytes.{be}
use Rattle.octets.proofs.Numbers.{be-part, part_rest}

-- the bytes of the three numbers that stand in 14 bytes
pub block_back : (bs : List ℕ) (first count party : ℕ) → length bs ≡ 14 → AllBelowBase 256 bs → first ≡ number_from_digits 256 (take 8 (drop 0 bs)) → count ≡ number_from_digits 256 (take 4 (drop 8 bs)) → party ≡ number_from_digits 256 (take 2 (drop 12 bs)) → be 8 first ++ (be 4 count ++ be 2 party) ≡ bs
block_back bs first count party l u e f g =
    let a : be 8 first ≡ take 8 bs = ap (be 8) e ∙ be-part 8 0 bs (omega arith) u in
    let b : be 4 count ≡ take 4 (drop 8 bs) = ap (be 4) f ∙ be-part 4 8 bs (omega arith) u in
    let c : be 2 party ≡ drop 12 bs = ap (be 2) g ∙ (be-part 2 12 bs (omega arith) u ∙ take_all 2 (drop 12 bs) (omega (arith, length-drop 12 bs))) in
    let d : be 4 count ++ be 2 party ≡ drop 8 bs = ap (λ w. w ++ be 2 party) b ∙ (ap (λ w. take 4 (drop 8 bs) ++ w) c ∙ part_rest 4 8 bs) in
    ap (λ w. w ++ (be 4 count ++ be 2 party)) a ∙ (ap (λ w. take 8 bs ++ w) d ∙ part_rest 8 0 bs)

-- three bytes by the first, and the number that follows
pub order_back : (bs : List ℕ) (n : ℕ) → length bs ≡ 3 → AllBelowBase 256 bs → n ≡ number_from_digits 256 (take 2 (drop 1 bs)) → get_or bs 0 0 ∷ be 2 n ≡ bs
order_back bs n l u e =
    let some : 0 < length bs = omega arith in
    let rest : be 2 n ≡ drop 1 bs = ap (be 2) e ∙ (be-part 2 1 bs (omega arith) u ∙ take_all 2 (drop 1 bs) (omega (arith, length-drop 1 bs))) in
    ap (λ w. get_or bs 0 0 ∷ w) rest ∙ sym (drop_more bs 0 0 some)
