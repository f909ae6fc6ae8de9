-- The number of each refusal.
use Rattle.std.specs.Prelude.{ℕ}
use Rattle.tables.specs.declared.refusal.Refusal.{Refusal}
use Rattle.tables.specs.declared.refusal.Refusal.TheVariants.{Sizes, NoParty, Standing, Tables, OwnValue, Field, NoMessage, NoRoom, WireInUse, Decided, LastView}

abbrev pub refusal_number : Refusal → ℕ
refusal_number Sizes = 1
refusal_number NoParty = 2
refusal_number Standing = 3
refusal_number Tables = 4
refusal_number OwnValue = 5
refusal_number Field = 6
refusal_number NoMessage = 9
refusal_number NoRoom = 10
refusal_number WireInUse = 11
refusal_number Decided = 12
refusal_number LastView = 13
