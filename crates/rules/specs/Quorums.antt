-- What the rules rest on where they ask for a quorum or a voucher: five laws, whatever makes one.
use Rattle.std.specs.Prelude.{◌≡◌, ℕ, ◌≤◌, Bool, true, ◌&&◌}

pub record Quorums (n : ℕ) (honest : ℕ → Bool) (quorum voucher : (ℕ → Bool) → Bool) : Type 0 where
  -- more parties keep a quorum, and a voucher
  pub more_quorum : (p q : ℕ → Bool) → ((j : ℕ) → 1 ≤ j → j ≤ n → p j ≡ true → q j ≡ true) → quorum p ≡ true → quorum q ≡ true
  pub more_voucher : (p q : ℕ → Bool) → ((j : ℕ) → 1 ≤ j → j ≤ n → p j ≡ true → q j ≡ true) → voucher p ≡ true → voucher q ≡ true
  -- the honest parties form a quorum
  pub honest_quorum : quorum honest ≡ true
  -- the honest members of a quorum form a voucher
  pub honest_part : (p : ℕ → Bool) → quorum p ≡ true → voucher (λ j. p j && honest j) ≡ true
  -- a voucher and a quorum share a party
  pub meet : (p q : ℕ → Bool) → voucher p ≡ true → quorum q ≡ true → (j : ℕ) × (1 ≤ j) × (j ≤ n) × (p j ≡ true) × (q j ≡ true)
  -- a voucher has an honest member
  pub one_honest : (p : ℕ → Bool) → voucher p ≡ true → (j : ℕ) × (1 ≤ j) × (j ≤ n) × (p j ≡ true) × (honest j ≡ true)
