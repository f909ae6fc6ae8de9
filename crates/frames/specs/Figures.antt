-- Figures of the rules, worked out: they hold of the definitions that the calls promise.
use Rattle.std.specs.Prelude.{◌≡◌, ℕ, ◌-◌, ◌^◌, true, false, List, [], ◌∷◌, ◌++◌, replicate, Some, None}
use Rattle.octets.specs.Bytes.{be}
use Rattle.values.specs.Blocks.{block_allows}
use Rattle.values.specs.Orders.{order_valid}
use Rattle.messages.specs.Messages.{Msg, in_range}
use Rattle.frames.specs.Frames.{frame, unframe}

-- a block of party 1 by its first number and its count
abbrev pub block_of : ℕ → ℕ → List ℕ
block_of first count = be 8 first ++ (be 4 count ++ be 2 1)

-- an order to print at a pace
abbrev pub pace : ℕ → List ℕ
pace n = 3 ∷ be 2 n

-- the proof from 1 to 4 in view 3 of pace 600 with key 0, and no previous key
abbrev pub pace_proof : Msg
pace_proof =
    record {
      kind = 3;
      from = 1;
      to = 4;
      view = 3;
      key = 0;
      value = pace 600;
      second_key = 0;
      second_value = replicate 3 0;
      previous = None;
    }

-- its bytes
abbrev pub pace_frame : List ℕ
pace_frame =
    0x03 ∷ 0x01 ∷ 0x04 ∷ 0x00 ∷
    0x00 ∷ 0x00 ∷ 0x00 ∷ 0x03 ∷
    0x00 ∷ 0x00 ∷ 0x00 ∷ 0x00 ∷
    0x00 ∷ 0x00 ∷ 0x00 ∷ 0x00 ∷
    0xff ∷ 0xff ∷ 0xff ∷ 0xff ∷
    0x03 ∷ 0x02 ∷ 0x58 ∷
    0x00 ∷ 0x00 ∷ 0x00 ∷ []

pub record Figures : Type 0 where
  -- the last number of all may be printed, and none after it
  pub one_at_the_end : block_allows (block_of (2 ^ 64 - 1) 1) ≡ true
  pub two_at_the_end : block_allows (block_of (2 ^ 64 - 1) 2) ≡ false
  -- 03 02 58 is an order, and 03 02 59 is none
  pub pace_600 : order_valid (0x03 ∷ 0x02 ∷ 0x58 ∷ []) ≡ true
  pub pace_601 : order_valid (0x03 ∷ 0x02 ∷ 0x59 ∷ []) ≡ false
  pub pace_601_bytes : pace 601 ≡ 0x03 ∷ 0x02 ∷ 0x59 ∷ []
  -- one message, byte for byte
  pub proof_in_range : in_range order_valid 3 pace_proof ≡ true
  pub proof_frame : frame pace_proof ≡ pace_frame
  pub proof_read : unframe order_valid 3 pace_frame ≡ Some pace_proof
