-- The lines of a sheet. A line that cannot be read, whatever it says, stands as the empty line, which no rule reads.
use Rattle.std.specs.Prelude.{ℕ, ◌+◌, cond, ◌&&◌, List, [], ◌∷◌, length, nat_le, slice_index_or}
use Rattle.sheet_fields.specs.Cuts.{pieces}

-- a line that begins after `at` bytes: at most 120 bytes, and its newline among the first 60,000 of the sheet
abbrev pub kept : ℕ → List ℕ → List ℕ
kept at l = cond (nat_le (length l) 120 && nat_le (at + (length l + 1)) 60000) l []

-- what follows the last newline: nothing, or a line without its end
abbrev pub unended : List ℕ → List (List ℕ)
unended [] = []
unended (b ∷ bs) = [] ∷ []

-- the lines among the pieces between newlines
abbrev pub lines_from : ℕ → List (List ℕ) → List (List ℕ)
lines_from at [] = []
lines_from at (l ∷ []) = unended l
lines_from at (l ∷ (m ∷ ms)) = kept at l ∷ lines_from (at + (length l + 1)) (m ∷ ms)

abbrev pub lines : List ℕ → List (List ℕ)
lines bs = lines_from 0 (pieces 10 bs)

-- the line after so many lines; a missing one reads as the empty line too
abbrev pub line_after : List (List ℕ) → ℕ → List ℕ
line_after ls k = slice_index_or ls k []
