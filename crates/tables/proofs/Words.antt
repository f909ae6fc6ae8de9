-- A word of bits as the names of parties.
use Rattle.std.proofs.Common.{◌≡◌, ℕ, zero, suc, ◌+◌, ◌-◌, ◌*◌, ◌/◌, ◌<◌, ◌≤◌, Bool, true, false, cond, eqb, ltb, sym, refl, ap, ◌∙◌, inl, inr, div-lt_iff_lt-mul, one-mul, add-one, arith}
use Rattle.std.proofs.lemmas.Bool.{cases_lt, eq-eqb, ne_eqb, lt-ltb, le-ltb}
use Rattle.rules.specs.Counting.{count}

-- one party more
next : (p : ℕ → Bool) (j : ℕ) → 1 ≤ j → count p ((j + 1) - 1) ≡ cond (p j) (count p (j - 1) + 1) (count p (j - 1))
next p zero low = absurd (omega arith)
next p (suc j) low =
    let e : suc j ≡ (suc j + 1) - 1 = omega arith in
    let k : suc j - 1 ≡ j = omega arith in
    ap (count p) (sym e) ∙ rw (k, add-one) refl

pub count_more : (p : ℕ → Bool) (j c : ℕ) → 1 ≤ j → p j ≡ true → c ≡ count p (j - 1) → c + 1 ≡ count p ((j + 1) - 1)
count_more p j c low e h = ap (λ x. x + 1) h ∙ sym (next p j low ∙ ap (λ b. cond b (count p (j - 1) + 1) (count p (j - 1))) e)

pub count_same : (p : ℕ → Bool) (j c : ℕ) → 1 ≤ j → p j ≡ false → c ≡ count p (j - 1) → c ≡ count p ((j + 1) - 1)
count_same p j c low e h = h ∙ sym (next p j low ∙ ap (λ b. cond b (count p (j - 1) + 1) (count p (j - 1))) e)

-- a quotient is nothing exactly below the divisor
pub quotient_none : (a b : ℕ) → 0 < b → eqb (a / b) 0 ≡ ltb a b
quotient_none a b h =
    elim (cases_lt a b) [
      | inl l ↦
          let q : a / b < 1 = (div-lt_iff_lt-mul {k = b} {x = a} {y = 1} h).1 (omega (arith, one-mul b)) in
          eq-eqb (a / b) 0 (omega arith) ∙ sym (lt-ltb a b l)
      | inr l ↦
          ne_eqb (a / b) 0 (λ e. let q : a < 1 * b = (div-lt_iff_lt-mul {k = b} {x = a} {y = 1} h).0 (omega arith) in omega (arith, one-mul b)) ∙ sym (le-ltb a b l)
    ]
