-- Frames: the bytes of a message, and the message that bytes spell.
use Rattle.std.specs.Prelude.{◌≡◌, ℕ, ◌+◌, ◌*◌, Bool, true, cond, ◌&&◌, List, ◌∷◌, ◌++◌, length, take, drop, Some, None, Option, ◌==◌, slice_index}
use Rattle.std.specs.Int.Digits.{number_from_digits, AllBelowBase}
use Rattle.octets.specs.Bytes.{be}
use Rattle.messages.specs.Messages.{Msg, in_range}

-- `previous` as a word of four bytes: none is -1 in two's complement
abbrev pub word : Option ℕ → ℕ
word None = 4294967295
word (Some n) = n

abbrev pub unword : ℕ → Option ℕ
unword n = cond (n == 4294967295) None (Some n)

-- the layout: kind, from, to and a zero, a byte each; view, key, second key and previous, four
-- bytes each; then the two values
abbrev pub head : Msg → List ℕ
head m =
    m.kind ∷ m.from ∷ m.to ∷ 0 ∷
    (be 4 m.view ++ (be 4 m.key ++ (be 4 m.second_key ++ be 4 (word m.previous))))

unfoldable pub frame : Msg → List ℕ
frame m = head m ++ (m.value ++ m.second_value)

-- how many bytes a frame has, for values of a width
abbrev pub frame_length : ℕ → ℕ
frame_length width = 20 + 2 * width

-- four bytes at a place, as a number
abbrev pub word_at : ℕ → List ℕ → ℕ
word_at at bs = number_from_digits 256 (take 4 (drop at bs))

-- the fields that stand in the bytes
abbrev pub fields : ℕ → List ℕ → Msg
fields width bs =
    record {
      kind = slice_index bs 0;
      from = slice_index bs 1;
      to = slice_index bs 2;
      view = word_at 4 bs;
      key = word_at 8 bs;
      value = take width (drop 20 bs);
      second_key = word_at 12 bs;
      second_value = drop (20 + width) bs;
      previous = unword (word_at 16 bs);
    }

module _ (valid : List ℕ → Bool) (width : ℕ) where
  -- bytes that are a frame: of the length, with the zero, and with fields in range
  abbrev pub is_frame : List ℕ → Bool
  is_frame bs = length bs == frame_length width && (slice_index bs 3 == 0 && in_range valid width (fields width bs))

  -- the message that bytes spell, if they are a frame
  unfoldable pub unframe : List ℕ → Option Msg
  unframe bs = cond (is_frame bs) (Some (fields width bs)) None

-- The laws of frames, for every kind of value.

-- the frame of a message in range has the length
abbrev pub FrameLength : Type 0
FrameLength = (valid : List ℕ → Bool) (width : ℕ) (m : Msg) → in_range valid width m ≡ true → length (frame m) ≡ frame_length width

-- the frame of a message in range reads as that message
abbrev pub ReadsBack : Type 0
ReadsBack = (valid : List ℕ → Bool) (width : ℕ) (m : Msg) → in_range valid width m ≡ true → unframe valid width (frame m) ≡ Some m

-- bytes that read as a message are the frame of that message
abbrev pub WritesBack : Type 0
WritesBack = (valid : List ℕ → Bool) (width : ℕ) (bs : List ℕ) (m : Msg) → AllBelowBase 256 bs → unframe valid width bs ≡ Some m → frame m ≡ bs
