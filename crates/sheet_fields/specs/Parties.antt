-- The set of faulty parties that a text writes.
use Rattle.std.specs.Prelude.{ℕ, ◌+◌, ◌-◌, ◌^◌, cond, List, [], ◌∷◌, Some, None, codes, Option}
use Rattle.values.specs.Same.{equal}
use Rattle.sheet_fields.specs.Cuts.{pieces}
use Rattle.sheet_fields.specs.Numbers.{number, between}

-- the set with the parties that the pieces write, each above `low` and the one before it, at most 64
abbrev pub rising : ℕ → ℕ → List (List ℕ) → Option ℕ
rising low word [] = Some word
rising low word (p ∷ ps) =
    elim (between (low + 1) 64 (number p)) [ None ↦ None | Some j ↦ rising j (word + 2 ^ (j - 1)) ps ]

-- the set that a text writes: `none`, or rising numbers with commas
abbrev pub party_set : List ℕ → Option ℕ
party_set bs = cond (equal bs (codes "none")) (Some 0) (rising 0 0 (pieces 44 bs))
