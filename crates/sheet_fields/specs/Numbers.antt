-- Numbers of a run sheet: base ten, below 2^64, at least one digit, no sign, no leading zero.
use Rattle.std.specs.Prelude.{ℕ, ◌^◌, Bool, true, false, cond, not, ◌&&◌, List, [], ◌∷◌, Some, None, Option, ◌==◌, nat_le, nat_lt}
use Rattle.std.specs.Str.Parse.{digits_value}

-- the bytes from '0' to '9'
abbrev pub digit : ℕ → Bool
digit b = nat_le 48 b && nat_le b 57

abbrev pub digits : List ℕ → Bool
digits [] = true
digits (b ∷ bs) = digit b && digits bs

-- a text of digits that begins with '0' only if it is "0"
abbrev pub numeral : List ℕ → Bool
numeral [] = false
numeral (b ∷ []) = digit b
numeral (b ∷ (c ∷ cs)) = not (b == 48) && digits (b ∷ (c ∷ cs))

-- the number that a text writes, if it writes one
abbrev pub number : List ℕ → Option ℕ
number bs = cond (numeral bs && nat_lt (digits_value 10 bs) (2 ^ 64)) (Some (digits_value 10 bs)) None

-- the number that a text writes, if it is from `low` to `high`
abbrev pub between : ℕ → ℕ → Option ℕ → Option ℕ
between low high None = None
between low high (Some n) = cond (nat_le low n && nat_le n high) (Some n) None
