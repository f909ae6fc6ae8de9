-- What a plan means.
use Rattle.std.specs.Prelude.{◌≡◌, ℕ, List, map, Ok, Err, Result}
use Rattle.values.specs.Blocks.{block_bytes}
use Rattle.values.specs.Orders.{order_bytes}
use Rattle.sheet_lines.specs.declared.kind.Kind.{Kind}
use Rattle.sheet_lines.specs.declared.kind.Kind.TheVariants.{Blocks, Orders}
use Rattle.sheet.specs.declared.setup.Setup.{Setup}
use Rattle.sheet.specs.declared.setup.Plan.{Plan}
use Rattle.sheet.specs.declared.setup.Plan.TheVariants as plan
use Rattle.sheet.specs.Sheets.{Setting, Meaning, set_with}

-- a setup of a kind, read from so many lines
abbrev pub setup_means : {V : Type 0} → Kind → (V → List ℕ) → Setup V → ℕ → Setting
setup_means k bytes s count = set_with k s.parties s.faults s.faulty (map bytes s.own) count

abbrev pub plan_means : Plan → ℕ → Setting
plan_means (plan.Blocks s) count = setup_means Blocks block_bytes s count
plan_means (plan.Orders s) count = setup_means Orders order_bytes s count

-- a sheet is readable, and its meaning begins with this plan
abbrev pub PlanMeant : Result Meaning ℕ → Plan → Type 0
PlanMeant (Ok m) p = m.setting ≡ plan_means p m.setting.count
PlanMeant (Err line) p = ⊥
