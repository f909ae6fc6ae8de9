-- What is written reads back.
use Rattle.std.proofs.Common.{◌≡◌, ℕ, ◌^◌, ◌<◌, ◌≤◌, true, false, cond, ◌||◌, eqb, List, [], ◌∷◌, ◌++◌, length, Some, codes, decimal, refl, ap, ◌∙◌, ⊎_elim, arith}
use Rattle.std.specs.Str.Parse.{AllDigits}
use Rattle.std.proofs.lemmas.Fmt.{decimal_is_IsNumeral, decimal_digit, first_decimal}
use Rattle.std.proofs.lemmas.Str.Parse.{digit_from_value}
use Rattle.std.proofs.lemmas.Bool.{ne_eqb, cases_lt}
use Rattle.std.proofs.lemmas.Bool.Decides.{nat_tests}
use Rattle.octets.specs.Bytes.{be}
use Rattle.sheet_fields.specs.Cuts.{has, before, after}
use Rattle.sheet_fields.specs.Numbers.{digits, numeral, number, between}
use Rattle.sheet_fields.specs.Texts.{block_from, block_text, order_text}
use Rattle.sheet_fields.proofs.Digits.{numeral-is, number_is}

-- a text of digits has no comma, and is a text of digits
pub digits_clear : (ds : List ℕ) → AllDigits 10 ds → has 44 ds ≡ false
digits_clear [] h = refl
digits_clear (d ∷ ds) h =
    let b = digit_from_value d h.0 in
    let e = digits_clear ds h.1 in
    rw (ne_eqb d 44 (λ z. omega (arith, b.0)), e) refl

pub digits_true : (ds : List ℕ) → AllDigits 10 ds → digits ds ≡ true
digits_true [] h = refl
digits_true (d ∷ ds) h =
    let b = digit_from_value d h.0 in
    let e = digits_true ds h.1 in
    grind (arith, nat_tests)

-- a text cut where it was joined
pub has_joined : (xs ys : List ℕ) → has 44 (xs ++ (44 ∷ ys)) ≡ true
has_joined [] ys = refl
has_joined (x ∷ xs) ys = let h = has_joined xs ys in grind (arith, nat_tests)

pub before_joined : (xs ys : List ℕ) → has 44 xs ≡ false → before 44 (xs ++ (44 ∷ ys)) ≡ xs
before_joined [] ys h = refl
before_joined (x ∷ xs) ys h =
    elim (eqb x 44) as (λ v. (v || has 44 xs) ≡ false → cond v [] (x ∷ before 44 (xs ++ (44 ∷ ys))) ≡ x ∷ xs)
    [ true ↦ λ e. (let z : ◌≡◌ {A = ℕ} 0 1 = cc in absurd (omega arith)) | false ↦ λ e. ap (λ t. x ∷ t) (before_joined xs ys e) ] h

pub after_joined : (xs ys : List ℕ) → has 44 xs ≡ false → after 44 (xs ++ (44 ∷ ys)) ≡ ys
after_joined [] ys h = refl
after_joined (x ∷ xs) ys h =
    elim (eqb x 44) as (λ v. (v || has 44 xs) ≡ false → cond v (xs ++ (44 ∷ ys)) (after 44 (xs ++ (44 ∷ ys))) ≡ ys)
    [ true ↦ λ e. (let z : ◌≡◌ {A = ℕ} 0 1 = cc in absurd (omega arith)) | false ↦ λ e. after_joined xs ys e ] h

numeral_decimal : (n : ℕ) → n < 2 ^ 64 → numeral (decimal n) ≡ true
numeral_decimal n h =
    let r = decimal_is_IsNumeral n h in
    numeral-is (decimal n) r.0.0
    (λ l e. ⊎_elim (λ (p : 0 < n). let f = first_decimal n p h in omega arith)
    (λ (p : n ≤ 0). let z : n ≡ 0 = omega arith in let k = ap length (decimal_digit n (omega arith)) in omega arith)
    (cases_lt 0 n))
    ∙ digits_true (decimal n) r.0.1

pub number_decimal : (n : ℕ) → n < 2 ^ 64 → number (decimal n) ≡ Some n
number_decimal n h =
    let r = decimal_is_IsNumeral n h in
    number_is (decimal n) (numeral_decimal n h) (omega (arith, r.1)) ∙ ap Some r.1

within : (low high n : ℕ) → low ≤ n → n ≤ high → between low high (Some n) ≡ Some n
within low high n p q = grind (arith, nat_tests)

pub between_decimal : (low high n : ℕ) → n < 2 ^ 64 → low ≤ n → n ≤ high → between low high (number (decimal n)) ≡ Some n
between_decimal low high n h p q = ap (between low high) (number_decimal n h) ∙ within low high n p q

block_cut : (x y a b c : List ℕ) → has 44 x ≡ true → after 44 x ≡ y → has 44 y ≡ true → before 44 x ≡ a → before 44 y ≡ b → after 44 y ≡ c → block_text x ≡ block_from a b c
block_cut x y a b c h e g p q r = rw (h, e, g, p, q, r) refl

block-numbers : (a b c : List ℕ) (f n p : ℕ) → number a ≡ Some f → between 0 4294967295 (number b) ≡ Some n → between 0 65535 (number c) ≡ Some p → block_from a b c ≡ Some (be 8 f ++ (be 4 n ++ be 2 p))
block-numbers a b c f n p d e g = rw (d, e, g) refl

pub block_back : (f n p : ℕ) → f < 2 ^ 64 → n < 2 ^ 32 → p < 2 ^ 16 → block_text (decimal f ++ (44 ∷ (decimal n ++ (44 ∷ decimal p)))) ≡ Some (be 8 f ++ (be 4 n ++ be 2 p))
block_back f n p hf hn hp =
    let cf = digits_clear (decimal f) (decimal_is_IsNumeral f hf).0.1 in
    let cn = digits_clear (decimal n) (decimal_is_IsNumeral n (omega arith)).0.1 in
    let y = decimal n ++ (44 ∷ decimal p) in
    block_cut (decimal f ++ (44 ∷ y)) y (decimal f) (decimal n) (decimal p)
    (has_joined (decimal f) y) (after_joined (decimal f) y cf) (has_joined (decimal n) (decimal p))
    (before_joined (decimal f) y cf) (before_joined (decimal n) (decimal p) cn) (after_joined (decimal n) (decimal p) cn)
    ∙ block-numbers (decimal f) (decimal n) (decimal p) f n p
    (number_decimal f hf) (between_decimal 0 4294967295 n (omega arith) (omega arith) (omega arith)) (between_decimal 0 65535 p (omega arith) (omega arith) (omega arith))

pub pace_back : (n : ℕ) → 1 ≤ n → n ≤ 600 → order_text (codes "pace," ++ decimal n) ≡ Some (3 ∷ be 2 n)
pace_back n p q = rw (between_decimal 1 600 n (omega arith) p q) refl
