-- What taking a line by a reader answers, `answers` being what the reader answers of a line.
use Rattle.std.specs.Prelude.{◌≡◌, ℕ, ◌⊎◌, List, [], Ok, Err, Result}
use Rattle.sheet_lines.specs.declared.cursor.Line.{Line}
use Rattle.sheet_lines.specs.declared.fault.LineFault.{LineFault}
use Rattle.sheet_lines.specs.declared.fault.SheetFault.{SheetFault}
use Rattle.sheet_lines.specs.declared.fault.SheetFault.TheVariants as fault
use Rattle.sheet_lines.specs.Faults.{fault_line}

-- the reader answers this of a line with this text
abbrev pub Answered : {R : Type 0} → (Line → R → Type 0) → List ℕ → R → Type 0
Answered answers text r = (l : Line) × (l.text.now ≡ text) × answers l r

-- what it understands; else a fault at the line with this number, which is not there, unreadable or not understood
abbrev pub Taken : {T : Type 0} → (Line → Result T LineFault → Type 0) → List ℕ → ℕ → ℕ → Result T SheetFault → Type 0
Taken answers text number passed (Ok x) = Answered answers text (Ok x)
Taken answers text number passed (Err e) = (fault_line passed e ≡ number) × ((text ≡ []) ⊎ ((f : LineFault) × (e ≡ fault.Line f) × Answered answers text (Err f)))
