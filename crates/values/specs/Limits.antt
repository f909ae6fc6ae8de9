-- Limits that values and messages share.
use Rattle.std.specs.Prelude.{ℕ}

-- the largest number of parties of a ring
abbrev pub party_limit : ℕ
party_limit = 64
