-- Blocks by their bytes: the first number (8 bytes), the count (4) and the party (2).
use Rattle.std.specs.Prelude.{ℕ, ◌+◌, ◌-◌, ◌^◌, Bool, ◌&&◌, List, ◌++◌, length, take, drop, ◌==◌, nat_le, nat_lt}
use Rattle.std.specs.Int.Digits.{number_from_digits}
use Rattle.octets.specs.Bytes.{be}
use Rattle.values.specs.Limits.{party_limit}
use Rattle.values.specs.declared.block.Block.{Block}

-- what a block means
abbrev pub block_bytes : Block → List ℕ
block_bytes b = be 8 b.first ++ (be 4 b.count ++ be 2 b.party)

-- any 14 bytes are a block
abbrev pub block_valid : List ℕ → Bool
block_valid bs = length bs == 14

-- the numbers of a block that a ring may agree on
abbrev pub numbers_allow : ℕ → ℕ → ℕ → Bool
numbers_allow first count party =
    nat_le 1 count && (nat_le count 1000000 && (nat_lt (first + count - 1) (2 ^ 64) && (nat_le 1 party && nat_le party party_limit)))

-- the bytes of such a block
abbrev pub block_allows : List ℕ → Bool
block_allows bs =
    block_valid bs && numbers_allow (number_from_digits 256 (take 8 bs)) (number_from_digits 256 (take 4 (drop 8 bs))) (number_from_digits 256 (take 2 (drop 12 bs)))
