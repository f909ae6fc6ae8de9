-- The paces that there are.
use Rattle.std.specs.Prelude.{ℕ, Bool, ◌&&◌, nat_le}

abbrev pub pace_fits : ℕ → Bool
pace_fits n = nat_le 1 n && nat_le n 600
