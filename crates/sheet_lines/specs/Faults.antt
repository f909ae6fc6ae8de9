-- What a fault answers: its number, and the number of its line.
use Rattle.std.specs.Prelude.{ℕ, ◌+◌, Ok, Err, Result}
use Rattle.sheet_lines.specs.declared.fault.SheetFault.{SheetFault}
use Rattle.sheet_lines.specs.declared.fault.SheetFault.TheVariants.{Missing, TooLong, Line}

-- every fault of a sheet is the refusal 8
abbrev pub fault_number : SheetFault → ℕ
fault_number Missing = 8
fault_number TooLong = 8
fault_number (Line l) = 8

-- the line at fault, after so many lines: a missing one is the next, any other the last one read
abbrev pub fault_line : ℕ → SheetFault → ℕ
fault_line lines Missing = lines + 1
fault_line lines TooLong = lines
fault_line lines (Line l) = lines

-- what a reader answers, with the number of the line in the place of its fault
abbrev pub outcome : {T : Type 0} → ℕ → Result T SheetFault → Result T ℕ
outcome lines (Ok x) = Ok x
outcome lines (Err e) = Err (fault_line lines e)

-- and what that means
abbrev pub outcome_as : {T B : Type 0} → (T → B) → ℕ → Result T SheetFault → Result B ℕ
outcome_as f lines (Ok x) = Ok (f x)
outcome_as f lines (Err e) = Err (fault_line lines e)
