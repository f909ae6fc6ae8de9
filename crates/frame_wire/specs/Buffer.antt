-- What a buffer of frames means as a wire.
use Rattle.std.specs.Prelude.{ℕ, ◌+◌, ◌-◌, ◌*◌, ◌/◌, min, Bool, List, map, length, take, drop}
use Rattle.std.proofs.Math.Seq.{paste}
use Rattle.std.specs.List.{range_with_len}
use Rattle.std.specs.Option.{unwrap_or}
use Rattle.messages.specs.Messages.{Msg}
use Rattle.frames.specs.Frames.{frame_length, unframe}
use Rattle.wires.specs.Wire.{fixed_request}

-- how many frames fit whole
abbrev pub places : ℕ → List ℕ → ℕ
places width buffer = length buffer / frame_length width

-- the bytes of the place `k`
abbrev pub slot : ℕ → List ℕ → ℕ → List ℕ
slot width buffer k = take (frame_length width) (drop (k * frame_length width) buffer)

-- the buffer with the place `i` closed: what stood after it, as far as the place `count`, moved up
abbrev pub closed : ℕ → List ℕ → ℕ → ℕ → List ℕ
closed size buffer i count = paste buffer (i * size) (drop (i * size + size) buffer) (count * size - (i * size + size))

module _ (valid : List ℕ → Bool) (width : ℕ) where
  -- a frame means its message, other bytes the one fixed request
  abbrev pub heard : List ℕ → Msg
  heard bs = unwrap_or (unframe valid width bs) (fixed_request width)

  -- the first `count` places, as far as the buffer goes
  abbrev pub frames_in : ℕ → List ℕ → List Msg
  frames_in count buffer = map (λ k. heard (slot width buffer k)) (range_with_len 0 (min count (places width buffer)))
