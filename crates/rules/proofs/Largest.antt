-- Laws of the largest entry that passes a test, and of the largest number that so many entries have reached.
use Rattle.std.proofs.Common.{◌≡◌, ℕ, zero, suc, ◌+◌, ◌-◌, ◌*◌, ◌<◌, ◌≤◌, max, Bool, true, false, leb, ◌⊎◌, refl, inl, inr, arith}
use Rattle.std.proofs.lemmas.Bool.{leb-true, le-leb, cases_lt}
use Rattle.std.proofs.lemmas.Bool.Decides.{nat_tests}
use Rattle.rules.specs.Counting.{count, largest}
use Rattle.rules.specs.Party.{Setting}
use Rattle.rules.specs.Thresholds.{quorum, voucher, vouched, reached}
use Rattle.rules.proofs.Counts.{count_mono, count_pos, count_all}

-- it is 0, or an entry that passes
pub largest-is : (a : ℕ → ℕ) (t : ℕ → Bool) (n : ℕ) → (largest a t n ≡ 0) ⊎ (t (largest a t n) ≡ true)
largest-is a t zero = inl refl
largest-is a t (suc n) = go (t (a (suc n))) refl (cases_lt (a (suc n)) (largest a t n)) (largest-is a t n)
  where
    go : (b : Bool) → t (a (suc n)) ≡ b → (a (suc n) < largest a t n) ⊎ (largest a t n ≤ a (suc n)) → (largest a t n ≡ 0) ⊎ (t (largest a t n) ≡ true) →
        (largest a t (suc n) ≡ 0) ⊎ (t (largest a t (suc n)) ≡ true)
    go false e o ih = rw e ih
    go true e (inl l) ih =
        let m : max (a (suc n)) (largest a t n) ≡ largest a t n = omega arith in
        rw (e, m) ih
    go true e (inr l) ih =
        let m : max (a (suc n)) (largest a t n) ≡ a (suc n) = omega arith in
        inr (rw (e, m, e))

-- no entry that passes is larger
pub largest_most : (a : ℕ → ℕ) (t : ℕ → Bool) (n j : ℕ) → 1 ≤ j → j ≤ n → t (a j) ≡ true → a j ≤ largest a t n
largest_most a t zero j k l e = absurd (omega arith)
largest_most a t (suc n) j k l e =
    elim (cases_lt n j) [
      | inl m ↦ let q : j ≡ suc n = omega arith in grind arith
      | inr m ↦ let ih = largest_most a t n j k m e in grind arith
    ]

-- a bound of the entries bounds it
pub largest-below : (a : ℕ → ℕ) (t : ℕ → Bool) (n b : ℕ) → ((j : ℕ) → 1 ≤ j → j ≤ n → a j ≤ b) → largest a t n ≤ b
largest-below a t zero b h = omega arith
largest-below a t (suc n) b h =
    let ih = largest-below a t n b (λ j k l. h j k (omega arith)) in
    let e = h (suc n) (omega arith) (omega arith) in
    grind arith

-- one index more
upto : (P : ℕ → Type 0) (n : ℕ) → ((j : ℕ) → 1 ≤ j → j ≤ n → P j) → P (suc n) → (j : ℕ) → 1 ≤ j → j ≤ suc n → P j
upto P n h k j i l = elim (cases_lt n j) [ inl m ↦ let q : suc n ≡ j = omega arith in rw q at k | inr m ↦ h j i m ]

-- the least entry that reaches v
least_above : (a : ℕ → ℕ) (v n : ℕ) → 0 < count (λ j. leb v (a j)) n →
    (m : ℕ) × (1 ≤ m) × (m ≤ n) × (v ≤ a m) × ((j : ℕ) → 1 ≤ j → j ≤ n → v ≤ a j → a m ≤ a j)
least_above a v zero h = absurd (omega arith)
least_above a v (suc n) h = go (cases_lt 0 (count (λ j. leb v (a j)) n)) (cases_lt (a (suc n)) v) (least_above a v n)
  where
    Least : ℕ → Type 0
    Least k = (m : ℕ) × (1 ≤ m) × (m ≤ k) × (v ≤ a m) × ((j : ℕ) → 1 ≤ j → j ≤ k → v ≤ a j → a m ≤ a j)

    P : ℕ → ℕ → Type 0
    P m j = v ≤ a j → a m ≤ a j

    pick : (r : Least n) → (a (suc n) < v) ⊎ (v ≤ a (suc n)) → (a r.0 < a (suc n)) ⊎ (a (suc n) ≤ a r.0) → Least (suc n)
    pick r (inl l) o = (r.0, r.1, omega (arith, r.2), r.3, upto (P r.0) n r.4 (λ k. absurd (omega arith)))
    pick r (inr l) (inl o) = (r.0, r.1, omega (arith, r.2), r.3, upto (P r.0) n r.4 (λ k. omega arith))
    pick r (inr l) (inr o) = (suc n, omega arith, omega arith, l, upto (P (suc n)) n (λ j i k m. let z = r.4 j i k m in omega arith) (λ k. omega arith))

    go : (0 < count (λ j. leb v (a j)) n) ⊎ (count (λ j. leb v (a j)) n ≤ 0) → (a (suc n) < v) ⊎ (v ≤ a (suc n)) →
        (0 < count (λ j. leb v (a j)) n → Least n) → Least (suc n)
    go (inl c) d ih = pick (ih c) d (cases_lt (a (ih c).0) (a (suc n)))
    go (inr c) d ih =
        let here : v ≤ a (suc n) = grind (arith, nat_tests) in (
          suc n,
          omega arith,
          omega arith,
          here,
          upto (P (suc n)) n (λ j i k m. absurd (let z = count_pos (λ i. leb v (a i)) n j i k (le-leb v (a j) m) in omega arith)) (λ k. omega arith),
        )

-- the largest number that k of n entries have reached, so the kth largest entry
pub record Kth (k : ℕ) (a : ℕ → ℕ) (n u : ℕ) : Type 0 where
  pub enough : k ≤ count (λ j. leb u (a j)) n
  pub most : (v : ℕ) → k ≤ count (λ j. leb v (a j)) n → v ≤ u

pub kth_is : (k : ℕ) (a : ℕ → ℕ) (n : ℕ) → 0 < k → k ≤ n → Kth k a n (largest a (λ x. leb k (count (λ j. leb x (a j)) n)) n)
kth_is k a n pos fits =
    record {
      enough =
          elim (largest-is a t n) [
            | inl e ↦ let m = count_mono (λ _. true) (λ j. leb u (a j)) n (λ j i l _. le-leb u (a j) (omega arith)) in omega (arith, count_all n)
            | inr e ↦ leb-true _ _ e
          ];
      most = λ v h.
          let r = least_above a v n (omega arith) in
          let m = count_mono (λ j. leb v (a j)) (λ j. leb (a r.0) (a j)) n (λ j i l e. le-leb _ _ (r.4 j i l (leb-true _ _ e))) in
          let z = largest_most a t n r.0 r.1 r.2 (le-leb k _ (omega arith)) in
          omega (arith, r.3);
    }
  where
    t : ℕ → Bool
    t x = leb k (count (λ j. leb x (a j)) n)

    u : ℕ
    u = largest a t n

pub kth_one : (k : ℕ) (a : ℕ → ℕ) (n u v : ℕ) → Kth k a n u → Kth k a n v → u ≡ v
kth_one k a n u v x y = omega (arith, x.most v y.enough, y.most u x.enough)

module _ (g : Setting) (few : 3 * g.f < g.n) (a : ℕ → ℕ) where
  -- the (f + 1)th largest entry
  pub vouched-is : Kth (g.f + 1) a g.n (vouched g a)
  vouched-is = kth_is (g.f + 1) a g.n (omega arith) (omega arith)

  -- the (n - f)th largest entry
  pub reached-is : Kth (g.n - g.f) a g.n (reached g a)
  reached-is = kth_is (g.n - g.f) a g.n (omega arith) (omega arith)

  -- a voucher has reached what is vouched, and nothing higher
  pub vouched_enough : voucher g (λ j. leb (vouched g a) (a j)) ≡ true
  vouched_enough = le-leb _ _ vouched-is.enough

  pub vouched_most : (v : ℕ) → voucher g (λ j. leb v (a j)) ≡ true → v ≤ vouched g a
  vouched_most v h = vouched-is.most v (leb-true _ _ h)

  -- a quorum has reached what is reached, and nothing higher
  pub reached_enough : quorum g (λ j. leb (reached g a) (a j)) ≡ true
  reached_enough = le-leb _ _ reached-is.enough

  pub reached_most : (v : ℕ) → quorum g (λ j. leb v (a j)) ≡ true → v ≤ reached g a
  reached_most v h = reached-is.most v (leb-true _ _ h)

module _ (g : Setting) (a : ℕ → ℕ) (b : ℕ) (h : (j : ℕ) → 1 ≤ j → j ≤ g.n → a j ≤ b) where
  -- both stay within a common bound of the entries
  pub vouched-below : vouched g a ≤ b
  vouched-below = largest-below a (λ x. voucher g (λ j. leb x (a j))) g.n b h

  pub reached-below : reached g a ≤ b
  reached-below = largest-below a (λ x. quorum g (λ j. leb x (a j))) g.n b h
