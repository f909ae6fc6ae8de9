-- Numbers and their bytes, each law once over the width.
use Rattle.std.proofs.Common.{◌≡◌, ℕ, zero, suc, ◌+◌, ◌*◌, ◌/◌, ◌%◌, ◌^◌, ◌<◌, ◌≤◌, List, [], ◌∷◌, ◌++◌, length, get_or, take, drop, sym, refl, ap, ◌∙◌, arith}
use native.Mathlib.Nat.{pow-succ'}
use Rattle.std.specs.Int.Digits.{number_from_digits, AllBelowBase}
use Rattle.std.proofs.lemmas.Int.Digits.{number_push}
use Rattle.std.proofs.lemmas.List.{drop-drop, take-append-drop, length-append, length-drop, take_more, take_all, length-take-le, nil_from_length}
use Rattle.std.proofs.ByRecursion.{All-get_or, All-take, All-drop}
use Rattle.octets.specs.Bytes.{be}

pub length-be : (k n : ℕ) → length (be k n) ≡ k
length-be zero n = refl
length-be (suc k) n = length-append (be k (n / 256)) (n % 256 ∷ []) ∙ omega (arith, length-be k (n / 256))

-- the number that a number's bytes write
pub number-be : (k n : ℕ) → n < 256 ^ k → number_from_digits 256 (be k n) ≡ n
number-be zero n h = omega arith
number-be (suc k) n h =
    let e : 256 ^ suc k ≡ 256 * 256 ^ k = pow-succ' 256 k in
    let small : n / 256 < 256 ^ k = omega arith in
    number_push 256 (be k (n / 256)) (n % 256) ∙ omega (arith, number-be k (n / 256) small)

-- the bytes of the number that bytes write
pub be-number : (k : ℕ) (bs : List ℕ) → length bs ≡ k → AllBelowBase 256 bs → be k (number_from_digits 256 bs) ≡ bs
be-number zero bs l u = sym (nil_from_length bs l)
be-number (suc k) bs l u =
    let front : List ℕ = take k bs in
    let d : ℕ = get_or bs k 0 in
    let within : k < length bs = omega arith in
    let split : bs ≡ front ++ (d ∷ []) = sym (take_all (k + 1) bs (omega arith)) ∙ take_more bs k 0 within in
    let byte : d < 256 = All-get_or (λ b. b < 256) bs k 0 within u in
    let n : number_from_digits 256 bs ≡ number_from_digits 256 front * 256 + d = ap (number_from_digits 256) split ∙ number_push 256 front d in
    let high : number_from_digits 256 bs / 256 ≡ number_from_digits 256 front = omega arith in
    let low : number_from_digits 256 bs % 256 ≡ d = omega arith in
    let rest : be k (number_from_digits 256 front) ≡ front = be-number k front (length-take-le k bs (omega arith)) (All-take (λ b. b < 256) k bs u) in
    ap (λ x. be k x ++ (number_from_digits 256 bs % 256 ∷ [])) high ∙ (ap (λ x. be k (number_from_digits 256 front) ++ (x ∷ [])) low ∙ (ap (λ x. x ++ (d ∷ [])) rest ∙ sym split))

-- a part of bytes, and the number that it writes
pub be-part : (k at : ℕ) (bs : List ℕ) → at + k ≤ length bs → AllBelowBase 256 bs → be k (number_from_digits 256 (take k (drop at bs))) ≡ take k (drop at bs)
be-part k at bs h u =
    let room : k ≤ length (drop at bs) = omega (arith, length-drop at bs) in
    be-number k (take k (drop at bs)) (length-take-le k (drop at bs) room) (All-take (λ b. b < 256) k (drop at bs) (All-drop (λ b. b < 256) at bs u))

-- numbers with the same bytes are the same
pub same_from_be : (k m n : ℕ) → m < 256 ^ k → n < 256 ^ k → be k m ≡ be k n → m ≡ n
same_from_be k m n p q e = sym (number-be k m p) ∙ (ap (number_from_digits 256) e ∙ number-be k n q)

-- a part, and what follows it
pub part_rest : (k at : ℕ) (bs : List ℕ) → take k (drop at bs) ++ drop (at + k) bs ≡ drop at bs
part_rest k at bs = ap (λ w. take k (drop at bs) ++ w) (sym (drop-drop k at bs)) ∙ take-append-drop k (drop at bs)
