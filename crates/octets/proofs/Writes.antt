-- One list written over another, and one write after another.
use Rattle.std.proofs.Common.{◌≡◌, ℕ, ◌+◌, ◌≤◌, List, ◌++◌, length, take, drop, sym, ap, ◌∙◌, arith}
use Rattle.std.proofs.lemmas.List.{drop-drop, take_at, drop_at, append_assoc, length-append, length-take-le, length-drop}
use Rattle.octets.specs.Bytes.{over}

pub over-over : (xs ys zs : List ℕ) (at n : ℕ) → length ys ≡ n → at + n ≤ length xs → over (over xs at ys) (at + n) zs ≡ over xs at (ys ++ zs)
over-over xs ys zs at n e h =
    let p : List ℕ = take at xs ++ ys in
    let r : List ℕ = drop (at + length ys) xs in
    let small : at ≤ length xs = omega arith in
    let l : length p ≡ at + n = length-append (take at xs) ys ∙ omega (arith, length-take-le at xs small) in
    let split : over xs at ys ≡ p ++ r = sym (append_assoc (take at xs) ys r) in
    let t : take (at + n) (over xs at ys) ≡ p = ap (take (at + n)) split ∙ take_at p r (at + n) l in
    let d : drop ((at + n) + length zs) (over xs at ys) ≡ drop (at + length (ys ++ zs)) xs = ap (drop ((at + n) + length zs)) split ∙ (sym (drop-drop (length zs) (at + n) (p ++ r)) ∙ (ap (drop (length zs)) (drop_at p r (at + n) l) ∙ (drop-drop (length zs) (at + length ys) xs ∙ ap (λ k. drop k xs) (omega (arith, length-append ys zs))))) in
    ap (λ w. w ++ (zs ++ drop ((at + n) + length zs) (over xs at ys))) t ∙ (ap (λ w. p ++ (zs ++ w)) d ∙ (append_assoc (take at xs) ys (zs ++ drop (at + length (ys ++ zs)) xs) ∙ ap (λ w. take at xs ++ w) (sym (append_assoc ys zs (drop (at + length (ys ++ zs)) xs)))))

pub two_writes : (xs one two ys zs whole : List ℕ) (at n : ℕ) → length ys ≡ n → at + n ≤ length xs → one ≡ over xs at ys → two ≡ over one (at + n) zs → ys ++ zs ≡ whole → two ≡ over xs at whole
two_writes xs one two ys zs whole at n e b f g h = g ∙ (ap (λ w. over w (at + n) zs) f ∙ (over-over xs ys zs at n e b ∙ ap (λ w. over xs at w) h))

pub length_over : (xs : List ℕ) (at : ℕ) (ys : List ℕ) → at + length ys ≤ length xs → length (over xs at ys) ≡ length xs
length_over xs at ys h =
    let small : at ≤ length xs = omega arith in
    length-append (take at xs) (ys ++ drop (at + length ys) xs) ∙ omega (arith, length-append ys (drop (at + length ys) xs), length-take-le at xs small, length-drop (at + length ys) xs)

-- the written part reads as what was written
pub part-over : (xs : List ℕ) (at : ℕ) (ys : List ℕ) (n : ℕ) → length ys ≡ n → at ≤ length xs → take n (drop at (over xs at ys)) ≡ ys
part-over xs at ys n e h =
    ap (take n) (drop_at (take at xs) (ys ++ drop (at + length ys) xs) at (length-take-le at xs h)) ∙ take_at ys (drop (at + length ys) xs) n e
