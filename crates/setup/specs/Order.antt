-- In which order set-up refuses a plan whose sizes are right.
use Rattle.std.specs.Prelude.{ℕ, Bool, cond, Some, None, Option, Ok, Err, Result}
use Rattle.tables.specs.declared.refusal.Refusal.{Refusal}
use Rattle.tables.specs.Refusals.{refusal_number}

-- the number of the first test that fails
abbrev pub by_order : Bool → Bool → Bool → Bool → Bool → Bool → Option ℕ
by_order named few places owns vacant roomy =
    cond named (cond few (cond places (cond owns (cond vacant (cond roomy None (Some 10)) (Some 11)) (Some 5)) (Some 4)) (Some 3)) (Some 2)

-- the number of the refusal, if there is one
abbrev pub refusal_in : {A : Type 0} → Result A Refusal → Option ℕ
refusal_in (Ok x) = None
refusal_in (Err refusal) = Some (refusal_number refusal)
