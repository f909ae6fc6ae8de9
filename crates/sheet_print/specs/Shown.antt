-- The texts of values.
use Rattle.std.specs.Prelude.{◌≡◌, ℕ, List, [], ◌∷◌, ◌++◌, Ok, Err, codes, decimal, Result}
use Rattle.sheet.specs.Sheets.{Meaning}
use Rattle.values.specs.declared.block.Block.{Block}
use Rattle.values.specs.declared.order.Order.{Order}
use Rattle.values.specs.declared.order.Order.TheVariants.{Blank, Hold, Resume, Pace}

-- three numbers with commas
abbrev pub block_shown : Block → List ℕ
block_shown b = decimal b.first ++ (44 ∷ (decimal b.count ++ (44 ∷ decimal b.party)))

-- `hold`, `resume`, or `pace,` and a number; the blank has no text of its own
abbrev pub order_shown : Order → List ℕ
order_shown Blank = codes "-"
order_shown Hold = codes "hold"
order_shown Resume = codes "resume"
order_shown (Pace r) = codes "pace," ++ decimal r.number

-- the refusal of an unreadable sheet: its number, and the number of the line
abbrev pub stopped_shown : ℕ → List ℕ
stopped_shown line = (codes "stopped=8" ++ (10 ∷ codes "line=")) ++ (decimal line ++ (10 ∷ []))

-- an unreadable sheet is reported as such
abbrev pub ReportSays : Result Meaning ℕ → List ℕ → Type 0
ReportSays (Ok m) text = Unit {0}
ReportSays (Err line) text = text ≡ stopped_shown line
