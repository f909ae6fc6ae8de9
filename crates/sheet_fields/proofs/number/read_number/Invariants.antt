use Rattle.std.proofs.Common.{◌≡◌, ◌^◌, ◌<◌, true, take}
use Rattle.std.specs.Str.Parse.{digits_value}
use Rattle.sheet_fields.specs.Numbers.{digits}
use Rattle.sheet_fields.proofs.number.read_number.Given as goal

abbrev pub invariant-loop-b : goal.invariant-loop-b
invariant-loop-b l = (l.n ≡ digits_value 10 (take l.b-index l.s)) × (digits (take l.b-index l.s) ≡ true) × (l.n < 2 ^ 64)
