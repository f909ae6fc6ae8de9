-- Facts about numbers in base ten.
use Rattle.std.proofs.Common.{◌≡◌, ℕ, zero, suc, ◌+◌, ◌-◌, ◌^◌, ◌<◌, ◌≤◌, true, false, List, [], ◌∷◌, map, length, get_or, take, drop, Some, None, sym, refl, ap, add-one, arith}
use Rattle.std.specs.Str.Parse.{digits_value}
use Rattle.std.specs.Char.{digit_value as digitValue}
use Rattle.std.specs.Int.Digits.{number_from_digits_after}
use Rattle.std.proofs.lemmas.List.{take-append-drop, map-append}
use Rattle.std.proofs.lemmas.Int.Digits.{digits_value_is, number_after_append, number_after_ge}
use Rattle.std.proofs.lemmas.Bool.{le-ltb, and_right, and_from, and_parts, cond-false}
use Rattle.std.proofs.lemmas.Bool.Decides.{nat_tests}
use Rattle.sheet_fields.specs.Numbers.{digit, digits, numeral, number}

pub digit_value : (b : ℕ) → 48 ≤ b → b ≤ 57 → digitValue b ≡ b - 48
digit_value b p q = grind (arith, nat_tests)

pub digits_more : (bs : List ℕ) (i : ℕ) → i < length bs → digits (take i bs) ≡ true → digit (get_or bs i 0) ≡ true → digits (take (i + 1) bs) ≡ true
digits_more [] i l h e = absurd (omega arith)
digits_more (b ∷ bs) zero l h e = rw e refl
digits_more (b ∷ bs) (suc i) l h e =
    let m : digits (take (i + 1) bs) ≡ true = digits_more bs i (omega arith) (and_parts (digit b) (digits (take i bs)) h).1 e in
    rw add-one (and_from (digit b) (digits (take (suc i) bs)) (and_parts (digit b) (digits (take i bs)) h).0 (rw add-one at m))

pub digits_break : (bs : List ℕ) (i : ℕ) → i < length bs → digit (get_or bs i 0) ≡ false → digits bs ≡ false
digits_break [] i l e = absurd (omega arith)
digits_break (b ∷ bs) zero l e = rw e refl
digits_break (b ∷ bs) (suc i) l e = and_right (digit b) (digits bs) (digits_break bs i (omega arith) e)

-- without a leading zero a text of digits is a numeral
pub numeral-is : (bs : List ℕ) → 0 < length bs → (1 < length bs → get_or bs 0 0 ≡ 48 → ⊥) → numeral bs ≡ digits bs
numeral-is [] l h = absurd (omega arith)
numeral-is (b ∷ []) l h = grind (arith, nat_tests)
numeral-is (b ∷ (c ∷ cs)) l h = let n : b ≡ 48 → ⊥ = h (omega arith) in grind (arith, nat_tests)

pub numeral_zero : (bs : List ℕ) → 1 < length bs → get_or bs 0 0 ≡ 48 → numeral bs ≡ false
numeral_zero [] l h = absurd (omega arith)
numeral_zero (b ∷ []) l h = absurd (omega arith)
numeral_zero (b ∷ (c ∷ cs)) l h = rw h refl

pub not_numeral : (bs : List ℕ) → numeral bs ≡ false → number bs ≡ None
not_numeral bs e = rw e refl

-- digits that follow make no number smaller
pub value_front : (bs : List ℕ) (k : ℕ) → digits_value 10 (take k bs) ≤ digits_value 10 bs
value_front bs k =
    let e = digits_value_is 10 bs in
    let f = digits_value_is 10 (take k bs) in
    let s = ap (λ t. number_from_digits_after 10 0 (map digitValue t)) (take-append-drop k bs) in
    let m = ap (λ t. number_from_digits_after 10 0 t) (map-append digitValue (take k bs) (drop k bs)) in
    let a = number_after_append 10 0 (map digitValue (take k bs)) (map digitValue (drop k bs)) in
    let g = number_after_ge 10 (number_from_digits_after 10 0 (map digitValue (take k bs))) (map digitValue (drop k bs)) (omega arith) in
    omega (arith, e, f, s, m, a, g)

pub too_large : (bs : List ℕ) (k : ℕ) → 2 ^ 64 ≤ digits_value 10 (take k bs) → number bs ≡ None
too_large bs k h =
    let v = value_front bs k in
    cond-false _ _ _ (and_right (numeral bs) _ (le-ltb (digits_value 10 bs) (2 ^ 64) (omega arith)))

pub number_is : (bs : List ℕ) → numeral bs ≡ true → digits_value 10 bs < 2 ^ 64 → number bs ≡ Some (digits_value 10 bs)
number_is bs e h = grind (arith, nat_tests)

pub numeral-digits : (bs : List ℕ) → digits bs ≡ false → numeral bs ≡ false
numeral-digits [] e = refl
numeral-digits (b ∷ []) e = grind (arith, nat_tests)
numeral-digits (b ∷ (c ∷ cs)) e = and_right _ _ e

pub no_digit : (bs : List ℕ) (i : ℕ) → i < length bs → digit (get_or bs i 0) ≡ false → None ≡ number bs
no_digit bs i l e = sym (not_numeral bs (numeral-digits bs (digits_break bs i l e)))

pub low_digit : (b : ℕ) → b < 48 → digit b ≡ false
low_digit b h = grind (arith, nat_tests)

pub high_digit : (b : ℕ) → 57 < b → digit b ≡ false
high_digit b h = grind (arith, nat_tests)

pub is_digit : (b : ℕ) → 48 ≤ b → b ≤ 57 → digit b ≡ true
is_digit b p q = grind (arith, nat_tests)
