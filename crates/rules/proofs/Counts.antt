-- Laws of counting the parties that pass a test.
use Rattle.std.proofs.Common.{◌≡◌, ℕ, zero, suc, ◌+◌, ◌<◌, ◌≤◌, Bool, true, false, not, ◌&&◌, refl, ap, inl, inr, arith}
use Rattle.std.proofs.lemmas.Bool.{and_parts, cases_lt}
use Rattle.rules.specs.Counting.{count}

pub count_mono : (p q : ℕ → Bool) (n : ℕ) → ((j : ℕ) → 1 ≤ j → j ≤ n → p j ≡ true → q j ≡ true) → count p n ≤ count q n
count_mono p q zero h = omega arith
count_mono p q (suc n) h =
    let ih : count p n ≤ count q n = count_mono p q n (λ j k l. h j k (omega arith)) in
    let k : p (suc n) ≡ true → q (suc n) ≡ true = h (suc n) (omega arith) (omega arith) in
    grind arith

-- those that pass one test and those that pass another overlap in all that exceeds n
pub count-meet : (p q : ℕ → Bool) (n : ℕ) → count p n + count q n ≤ n + count (λ j. p j && q j) n
count-meet p q zero = omega arith
count-meet p q (suc n) =
    let ih = count-meet p q n in
    grind arith

pub count_not : (p : ℕ → Bool) (n : ℕ) → count p n + count (λ j. not (p j)) n ≡ n
count_not p zero = omega arith
count_not p (suc n) =
    let ih = count_not p n in
    grind arith

pub count_le : (p : ℕ → Bool) (n : ℕ) → count p n ≤ n
count_le p n = omega (arith, count_not p n)

pub count_all : (n : ℕ) → count (λ _. true) n ≡ n
count_all zero = refl
count_all (suc n) = ap suc (count_all n)

-- a positive count has a member
pub count_some : (p : ℕ → Bool) (n : ℕ) → 0 < count p n → (j : ℕ) × (1 ≤ j) × (j ≤ n) × (p j ≡ true)
count_some p zero h = absurd (omega arith)
count_some p (suc n) h = go (p (suc n)) refl (count_some p n)
  where
    go : (b : Bool) → p (suc n) ≡ b → (0 < count p n → (j : ℕ) × (1 ≤ j) × (j ≤ n) × (p j ≡ true)) → (j : ℕ) × (1 ≤ j) × (j ≤ suc n) × (p j ≡ true)
    go true e ih = (suc n, omega arith, omega arith, e)
    go false e ih =
        let t : 0 < count p n = grind arith in
        let r = ih t in
        (r.0, r.1, omega (arith, r.2), r.3)

-- a member makes a count positive
pub count_pos : (p : ℕ → Bool) (n j : ℕ) → 1 ≤ j → j ≤ n → p j ≡ true → 0 < count p n
count_pos p zero j k l e = absurd (omega arith)
count_pos p (suc n) j k l e =
    elim (cases_lt n j) [
      | inl m ↦ let q : j ≡ suc n = omega arith in grind arith
      | inr m ↦ let ih = count_pos p n j k m e in grind arith
    ]

-- two sets that are too large together share a member
pub count_share : (p q : ℕ → Bool) (n : ℕ) → n < count p n + count q n → (j : ℕ) × (1 ≤ j) × (j ≤ n) × (p j ≡ true) × (q j ≡ true)
count_share p q n h =
    let m = count-meet p q n in
    let r = count_some (λ j. p j && q j) n (omega arith) in
    let s = and_parts (p r.0) (q r.0) r.3 in
    (r.0, r.1, r.2, s.0, s.1)

-- tests that agree count alike
pub count_ext : (p q : ℕ → Bool) (n : ℕ) → ((j : ℕ) → 1 ≤ j → j ≤ n → p j ≡ q j) → count p n ≡ count q n
count_ext p q zero h = refl
count_ext p q (suc n) h =
    let ih : count p n ≡ count q n = count_ext p q n (λ j k l. h j k (omega arith)) in
    let k : p (suc n) ≡ q (suc n) = h (suc n) (omega arith) (omega arith) in
    cc
