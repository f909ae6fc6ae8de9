-- What makes a quorum, what makes a voucher, and who leads a view. Every rule asks here.
use Rattle.std.specs.Prelude.{ℕ, ◌+◌, ◌-◌, ◌*◌, ◌%◌, Bool, ◌&&◌, nat_le, nat_lt}
use Rattle.messages.specs.Messages.{between, most_parties}
use Rattle.rules.specs.Counting.{count, largest}
use Rattle.rules.specs.Party.{Setting}

-- sizes that a ring may have: at most 64 parties, and the liars fewer than a third
abbrev pub sizes_fit : ℕ → ℕ → Bool
sizes_fit n f = between 1 most_parties n && nat_lt (3 * f) n

-- the party that leads view v
abbrev pub primary : Setting → ℕ → ℕ
primary g v = v % g.n + 1

-- how many parties a quorum has, and how many a voucher has: a voucher is so large that it has an honest member
abbrev pub quorum_size : ℕ → ℕ → ℕ
quorum_size n f = n - f

abbrev pub voucher_size : ℕ → ℕ
voucher_size f = f + 1

abbrev pub quorum : Setting → (ℕ → Bool) → Bool
quorum g p = nat_le (quorum_size g.n g.f) (count p g.n)

abbrev pub voucher : Setting → (ℕ → Bool) → Bool
voucher g p = nat_le (voucher_size g.f) (count p g.n)

-- the largest number that a voucher of entries has reached: the (f + 1)th largest entry
abbrev pub vouched : Setting → (ℕ → ℕ) → ℕ
vouched g a = largest a (λ x. voucher g (λ j. nat_le x (a j))) g.n

-- the largest number that a quorum of entries has reached: the (n - f)th largest entry
abbrev pub reached : Setting → (ℕ → ℕ) → ℕ
reached g a = largest a (λ x. quorum g (λ j. nat_le x (a j))) g.n
