-- A set of parties as a word of 64 bits: bit j - 1 is party j.
use Rattle.std.specs.Prelude.{ℕ, ◌-◌, ◌/◌, ◌%◌, ◌^◌, Bool, ◌&&◌, ◌==◌, nat_le}

-- whether party j, from 1 to 64, is in the set
abbrev pub member : ℕ → ℕ → Bool
member word j = nat_le 1 j && (nat_le j 64 && word / 2 ^ (j - 1) % 2 == 1)
