-- Orders by their bytes: what to do (1 byte), and the pace (2 bytes), 0 where it is none.
use Rattle.std.specs.Prelude.{ℕ, Bool, not, ◌&&◌, ◌||◌, List, ◌∷◌, length, take, drop, replicate, ◌==◌, nat_lt, slice_index}
use Rattle.std.specs.Int.Digits.{number_from_digits}
use Rattle.octets.specs.Bytes.{be}
use Rattle.values.specs.Paces.{pace_fits}
use Rattle.values.specs.Same.{equal}
use Rattle.values.specs.declared.order.Order.{Order}
use Rattle.values.specs.declared.order.Order.TheVariants.{Blank, Hold, Resume, Pace}

-- what an order means
abbrev pub order_bytes : Order → List ℕ
order_bytes Blank = 0 ∷ be 2 0
order_bytes Hold = 1 ∷ be 2 0
order_bytes Resume = 2 ∷ be 2 0
order_bytes (Pace r) = 3 ∷ be 2 r.number

-- a first byte and a number that make an order
abbrev pub order_fits : ℕ → ℕ → Bool
order_fits what n = (nat_lt what 3 && n == 0) || (what == 3 && pace_fits n)

-- the bytes that some order has
abbrev pub order_valid : List ℕ → Bool
order_valid bs = length bs == 3 && order_fits (slice_index bs 0) (number_from_digits 256 (take 2 (drop 1 bs)))

-- the bytes of an order that a ring may agree on: all but the blank
abbrev pub order_allows : List ℕ → Bool
order_allows bs = order_valid bs && not (equal bs (replicate 3 0))
