-- What a whole sheet says: its meaning, or the number of the first line that is unreadable or missing.
use Rattle.std.specs.Prelude.{ℕ, zero, suc, ◌+◌, ◌-◌, cond, List, [], ◌∷◌, ◌++◌, length, replicate, Some, None, Ok, Err, codes, Option, Result}
use Rattle.sheet_fields.specs.Texts.{block_text, order_text}
use Rattle.sheet_lines.specs.declared.kind.Kind.{Kind}
use Rattle.sheet_lines.specs.declared.kind.Kind.TheVariants.{Blocks, Orders}
use Rattle.sheet_lines.specs.declared.call.Call.{Call}
use Rattle.sheet_lines.specs.Lines.{lines, line_after}
use Rattle.sheet_lines.specs.Readings.{number_line, kind_line, parties_line, faults_here, faulty_line, own_line, call_line}

-- the lines of faults: how many, which parties, and how many lines were passed after them
pub record FaultPart : Type 0 where
  pub faults : ℕ
  pub faulty : ℕ
  pub passed : ℕ

-- what a line gives, or its number
abbrev pub line_gives : {A : Type 0} → ℕ → Option A → Result A ℕ
line_gives number None = Err number
line_gives number (Some x) = Ok x

-- one part of a sheet after another
abbrev pub next : {A B : Type 0} → Result A ℕ → (A → Result B ℕ) → Result B ℕ
next (Err number) f = Err number
next (Ok x) f = f x

-- the faults of a ring whose sheet does not give them
abbrev pub faults_left_out : ℕ → ℕ
faults_left_out parties = 0

abbrev pub fault_part : ℕ → ℕ → ℕ → FaultPart
fault_part f w passed = record { faults = f; faulty = w; passed = passed }

-- faults unless left out, then faulty
abbrev pub fault_lines : List (List ℕ) → ℕ → Result FaultPart ℕ
fault_lines ls n =
    cond (faults_here (line_after ls 2))
    (next (line_gives 3 (number_line (codes "faults") (line_after ls 2))) (λ f.
    next (line_gives 4 (faulty_line (line_after ls 3))) (λ w. Ok (fault_part f w 4))))
    (next (line_gives 3 (faulty_line (line_after ls 2))) (λ w. Ok (fault_part (faults_left_out n) w 3)))

-- one more reading after those that came before
abbrev pub one_more : {A : Type 0} → Result (List A) ℕ → ℕ → Option A → Result (List A) ℕ
one_more (Err number) m o = Err number
one_more (Ok xs) m None = Err m
one_more (Ok xs) m (Some x) = Ok (xs ++ x ∷ [])

-- what `n` lines after the first `from` give, `read j` being what the one after j of them gives
abbrev pub each : {A : Type 0} → (ℕ → Option A) → ℕ → ℕ → Result (List A) ℕ
each read from zero = Ok []
each read from (suc j) = one_more (each read from j) (from + j + 1) (read j)

-- the own values of parties 1 to n, as their bytes
abbrev pub own_values : (List ℕ → Option (List ℕ)) → List ℕ → List (List ℕ) → ℕ → ℕ → ℕ → Result (List (List ℕ)) ℕ
own_values reads blank ls faulty from n = each (λ j. own_line reads blank faulty (j + 1) (line_after ls (from + j))) from n

-- the calls, in all lines that are left
abbrev pub call_list : List (List ℕ) → ℕ → Result (List Call) ℕ
call_list ls from = each (λ j. call_line (line_after ls (from + j))) from (length ls - from)

-- how many there are
abbrev pub sized : {A : Type 0} → Result (List A) ℕ → Result ℕ ℕ
sized (Ok xs) = Ok (length xs)
sized (Err m) = Err m

-- the own values of a kind's table of 8 places, blank after the last party
abbrev pub own_list : (List ℕ → Option (List ℕ)) → List ℕ → List (List ℕ) → ℕ → ℕ → ℕ → Result (List (List ℕ)) ℕ
own_list reads blank ls faulty from n =
    next (own_values reads blank ls faulty from n) (λ vs. Ok (vs ++ replicate (8 - n) blank))

-- the texts of a kind, and its blank
abbrev pub kind_reads : Kind → List ℕ → Option (List ℕ)
kind_reads Blocks bs = block_text bs
kind_reads Orders bs = order_text bs

abbrev pub kind_blank : Kind → List ℕ
kind_blank Blocks = replicate 14 0
kind_blank Orders = replicate 3 0

-- what a ring is set up with, and how many lines say so
pub record Setting : Type 0 where
  pub kind : Kind
  pub parties : ℕ
  pub faults : ℕ
  pub faulty : ℕ
  pub own : List (List ℕ)
  pub count : ℕ

abbrev pub set_with : Kind → ℕ → ℕ → ℕ → List (List ℕ) → ℕ → Setting
set_with k n f w vs count = record { kind = k; parties = n; faults = f; faulty = w; own = vs; count = count }

-- kind, parties, faults, faulty, then one own line for each party
abbrev pub setting_part : List (List ℕ) → Result Setting ℕ
setting_part ls =
    next (line_gives 1 (kind_line (line_after ls 0))) (λ k.
    next (line_gives 2 (parties_line (line_after ls 1))) (λ n.
    next (fault_lines ls n) (λ f.
    next (own_list (kind_reads k) (kind_blank k) ls f.faulty f.passed n) (λ vs.
    Ok (set_with k n f.faults f.faulty vs (f.passed + n))))))

-- what a readable sheet means
pub record Meaning : Type 0 where
  pub setting : Setting
  pub calls : List Call

abbrev pub meant : Setting → List Call → Meaning
meant s cs = record { setting = s; calls = cs }

-- the meaning of a sheet's bytes, or the number of its first line that is unreadable or missing
abbrev pub sheet_means : List ℕ → Result Meaning ℕ
sheet_means bs =
    next (setting_part (lines bs)) (λ s.
    next (call_list (lines bs) s.count) (λ cs. Ok (meant s cs)))

-- the two parts of a meaning
abbrev pub setting_of : Result Meaning ℕ → Result Setting ℕ
setting_of r = next r (λ m. Ok m.setting)

abbrev pub calls_of : Result Meaning ℕ → Result (List Call) ℕ
calls_of r = next r (λ m. Ok m.calls)
