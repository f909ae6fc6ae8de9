-- What the calls on frames answer, and what the buffer then holds.
use Rattle.std.specs.Prelude.{ℕ, Bool, cond, List, length, is_ok, Ok, Err, Result, nat_lt}
use Rattle.octets.specs.Bytes.{over}
use Rattle.messages.specs.Messages.{Msg, in_range}
use Rattle.frames.specs.declared.fault.FrameFault.{FrameFault}
use Rattle.frames.specs.declared.fault.FrameFault.TheVariants.{Short, Range}
use Rattle.frames.specs.Frames.{frame, frame_length}

module _ (valid : List ℕ → Bool) (width : ℕ) where
  -- the answer of writing into a buffer: its length is tested first, then the ranges
  abbrev pub written : Msg → List ℕ → Result ℕ FrameFault
  written m out = cond (nat_lt (length out) (frame_length width)) (Err Short) (cond (in_range valid width m) (Ok (frame_length width)) (Err Range))

  -- the buffer after it: the frame at the front, or nothing changed
  abbrev pub buffer_after : Msg → List ℕ → List ℕ
  buffer_after m out = cond (is_ok (written m out)) (over out 0 (frame m)) out
