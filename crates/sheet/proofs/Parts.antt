-- The parts of a sheet, one after another.
use Rattle.std.proofs.Common.{◌≡◌, ℕ, ◌+◌, List, map, Ok, Err, MatchResult, OnOk, IfOk, Result, sym, refl, ap, ◌∙◌}
use Rattle.sheet_lines.specs.declared.fault.SheetFault.{SheetFault}
use Rattle.sheet_lines.specs.declared.kind.Kind.{Kind}
use Rattle.sheet_lines.specs.Faults.{outcome_as, fault_line}
use Rattle.sheet_lines.specs.Lines.{line_after}
use Rattle.sheet_lines.specs.Readings.{kind_line, parties_line}
use Rattle.sheet.specs.declared.setup.Setup.{Setup}
use Rattle.sheet.specs.Plans.{setup_means}
use Rattle.sheet.specs.Sheets.{FaultPart, line_gives, fault_lines, own_list, kind_reads, kind_blank, set_with, setting_part}

pub set_same : (k : Kind) (n m f g w v c d : ℕ) (vs : List (List ℕ)) → m ≡ n → g ≡ f → v ≡ w → d ≡ c → set_with k n f w vs c ≡ set_with k m g v vs d
set_same k n m f g w v c d vs a b e h =
    ap (λ x. set_with k x f w vs c) (sym a)
    ∙ (ap (λ x. set_with k m x w vs c) (sym b)
    ∙ (ap (λ x. set_with k m g x vs c) (sym e)
    ∙ ap (λ x. set_with k m g v vs x) (sym h)))

-- all parts before the calls, by what the readers of each answer
pub setting_read : {V : Type 0} (ls : List (List ℕ)) (k : Kind) (n : ℕ) (f : FaultPart) (passed : ℕ) (bytes : V → List ℕ) (r : Result (Setup V) SheetFault)
    → line_gives 1 (kind_line (line_after ls 0)) ≡ Ok k → line_gives 2 (parties_line (line_after ls 1)) ≡ Ok n → fault_lines ls n ≡ Ok f
    → OnOk r (passed ≡ f.passed + n) → IfOk r (λ s. (s.parties ≡ n) × (s.faults ≡ f.faults) × (s.faulty ≡ f.faulty))
    → outcome_as (λ s. map bytes s.own) passed r ≡ own_list (kind_reads k) (kind_blank k) ls f.faulty f.passed n
    → MatchResult r (λ s. setting_part ls ≡ Ok (setup_means k bytes s passed)) (λ e. setting_part ls ≡ Err (fault_line passed e))
setting_read ls k n f passed bytes (Ok s) a b c p g o =
    rw (a, b, c, ← o) (ap Ok (set_same k n s.parties f.faults s.faults f.faulty s.faulty (f.passed + n) passed (map bytes s.own) g.0 g.1 g.2 p))
setting_read ls k n f passed bytes (Err e) a b c p g o = rw (a, b, c, ← o) refl
