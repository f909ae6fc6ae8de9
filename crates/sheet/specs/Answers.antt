-- What it says of a sheet that its calls are not handed out.
use Rattle.std.specs.Prelude.{◌≡◌, ℕ, Err, Result}
use Rattle.sheet_lines.specs.declared.fault.SheetFault.{SheetFault}
use Rattle.sheet_lines.specs.Faults.{fault_line, fault_number}
use Rattle.sheet.specs.declared.fault.NoCalls.{NoCalls}
use Rattle.sheet.specs.declared.fault.NoCalls.TheVariants.{Unreadable, Memory}
use Rattle.sheet.specs.declared.fault.Unreadable as line
use Rattle.sheet.specs.Sheets.{Meaning}

-- a fault is at its line, after so many lines; want of memory says nothing of the sheet
abbrev pub LinesStopped : {A : Type 0} → Result A ℕ → ℕ → NoCalls SheetFault → Type 0
LinesStopped r passed (Unreadable f) = r ≡ Err (fault_line passed f)
LinesStopped r passed Memory = Unit {0}

-- the same, with the number of the line
abbrev pub HasNoCalls : Result Meaning ℕ → NoCalls line.Unreadable → Type 0
HasNoCalls r (Unreadable u) = (r ≡ Err u.line) × (fault_number u.fault ≡ 8)
HasNoCalls r Memory = Unit {0}
