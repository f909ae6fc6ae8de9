-- The number that each refusal answers.
use Rattle.std.specs.Prelude.{ℕ}
use Rattle.frames.specs.declared.fault.FrameFault.{FrameFault}
use Rattle.frames.specs.declared.fault.FrameFault.TheVariants.{Short, Range, NotFrame}

-- 4 a buffer too short, 6 a field out of range, 7 not a frame
abbrev pub frame_number : FrameFault → ℕ
frame_number Short = 4
frame_number Range = 6
frame_number NotFrame = 7
