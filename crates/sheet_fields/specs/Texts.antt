-- Values as texts of a run sheet: the bytes of the value that a text writes, if it writes one.
use Rattle.std.specs.Prelude.{ℕ, cond, ◌&&◌, List, ◌∷◌, ◌++◌, Some, None, codes, Option}
use Rattle.values.specs.Same.{equal}
use Rattle.octets.specs.Bytes.{be}
use Rattle.sheet_fields.specs.Cuts.{has, before, after, then}
use Rattle.sheet_fields.specs.Numbers.{number, between}

-- a block from the texts of its first number, its count and its party, each such that its bytes hold it
abbrev pub block_from : List ℕ → List ℕ → List ℕ → Option (List ℕ)
block_from first count party =
    then (number first) (λ f.
    then (between 0 4294967295 (number count)) (λ n.
    then (between 0 65535 (number party)) (λ p. Some (be 8 f ++ (be 4 n ++ be 2 p)))))

-- three numbers with commas
abbrev pub block_text : List ℕ → Option (List ℕ)
block_text bs =
    cond (has 44 bs && has 44 (after 44 bs)) (block_from (before 44 bs) (before 44 (after 44 bs)) (after 44 (after 44 bs))) None

-- `pace,` and a number from 1 to 600
abbrev pub pace_text : List ℕ → Option (List ℕ)
pace_text bs =
    cond (has 44 bs && equal (before 44 bs) (codes "pace"))
    (then (between 1 600 (number (after 44 bs))) (λ n. Some (3 ∷ be 2 n)))
    None

-- `hold`, `resume`, or a pace
abbrev pub order_text : List ℕ → Option (List ℕ)
order_text bs =
    cond (equal bs (codes "hold")) (Some (1 ∷ be 2 0))
    (cond (equal bs (codes "resume")) (Some (2 ∷ be 2 0)) (pace_text bs))
