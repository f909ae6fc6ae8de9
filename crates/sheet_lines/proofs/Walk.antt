-- A cursor's step from one line to the next.
use Rattle.std.proofs.Common.{◌≡◌, ℕ, zero, suc, ◌+◌, ◌-◌, ◌<◌, ◌≤◌, Bool, true, false, cond, eqb, leb, List, [], ◌∷◌, length, get_or, drop, sym, refl, ap, ◌∙◌, add-one, arith}
use Rattle.std.proofs.lemmas.List.{drop_all, drop-drop, length-drop}
use Rattle.std.proofs.lemmas.Bool.{ltb-true}
use Rattle.std.proofs.lemmas.Bool.Decides.{nat_tests}
use Rattle.sheet_fields.specs.Cuts.{has, before, after, onto, pieces}
use Rattle.sheet_fields.proofs.Cutting.{pieces_more, pieces_last, after-drop, has-is}
use Rattle.sheet_lines.specs.Lines.{kept, unended, lines_from, lines, line_after}

-- there is always a piece
pub pieces_some : (stop : ℕ) (bs : List ℕ) → 0 < length (pieces stop bs)
pieces_some stop [] = omega arith
pieces_some stop (b ∷ bs) =
    elim (eqb b stop) as (λ v. 0 < length (cond v ([] ∷ pieces stop bs) (onto b (pieces stop bs)))) [
      | true ↦ omega arith
      | false ↦ elim (pieces stop bs) as (λ ps. 0 < length (onto b ps)) [ [] ↦ omega arith | ◌∷◌ p ps ↦ omega arith ]
    ]

lines_cons : (at : ℕ) (l : List ℕ) (ps : List (List ℕ)) → 0 < length ps → lines_from at (l ∷ ps) ≡ kept at l ∷ lines_from (at + (length l + 1)) ps
lines_cons at l [] h = absurd (omega arith)
lines_cons at l (m ∷ ms) h = refl

-- the first line of what is left, and the others
pub lines_more : (at : ℕ) (bs : List ℕ) → has 10 bs ≡ true → lines_from at (pieces 10 bs) ≡ kept at (before 10 bs) ∷ lines_from (at + (length (before 10 bs) + 1)) (pieces 10 (after 10 bs))
lines_more at bs h = ap (lines_from at) (pieces_more 10 bs h) ∙ lines_cons at (before 10 bs) (pieces 10 (after 10 bs)) (pieces_some 10 (after 10 bs))

unended_some : (bs : List ℕ) → 0 < length bs → unended bs ≡ [] ∷ []
unended_some [] h = absurd (omega arith)
unended_some (b ∷ bs) h = refl

pub lines_last : (at : ℕ) (bs : List ℕ) → has 10 bs ≡ false → 0 < length bs → lines_from at (pieces 10 bs) ≡ [] ∷ []
lines_last at bs h l = ap (lines_from at) (pieces_last 10 bs h) ∙ unended_some bs l

-- what stands at a place, from what is left there
at_cons : (ls : List (List ℕ)) (k : ℕ) (x : List ℕ) (xs : List (List ℕ)) → x ∷ xs ≡ drop k ls → (get_or ls k [] ≡ x) × (xs ≡ drop (k + 1) ls) × (k < length ls)
at_cons [] zero x xs e = let z : ◌≡◌ {A = ℕ} 0 1 = cc in absurd (omega arith)
at_cons [] (suc k) x xs e = let z : ◌≡◌ {A = ℕ} 0 1 = cc in absurd (omega arith)
at_cons (y ∷ ys) zero x xs e = (cc, cc, omega arith)
at_cons (y ∷ ys) (suc k) x xs e = let h = at_cons ys k x xs e in (h.0, simp add-one (simp add-one at h.1), omega arith)

at_nil : (ls : List (List ℕ)) (k : ℕ) → [] ≡ drop k ls → length ls ≤ k
at_nil [] k e = omega arith
at_nil (y ∷ ys) zero e = let z : ◌≡◌ {A = ℕ} 0 1 = cc in absurd (omega arith)
at_nil (y ∷ ys) (suc k) e = let h = at_nil ys k e in omega arith

-- what a cursor at a byte, after so many lines, knows of the lines
abbrev pub Along : List ℕ → ℕ → ℕ → Type 0
Along sheet at k = lines_from at (pieces 10 (drop at sheet)) ≡ drop k (lines sheet)

pub none_left : (sheet : List ℕ) (at k : ℕ) → Along sheet at k → length sheet ≤ at → length (lines sheet) ≤ k
none_left sheet at k a h =
    at_nil (lines sheet) k (sym (ap (λ bs. lines_from at (pieces 10 bs)) (drop_all at sheet h)) ∙ a)

-- the line at the cursor, where a newline follows
pub next_line : (sheet rest : List ℕ) (at k : ℕ) → Along sheet at k → rest ≡ drop at sheet → has 10 rest ≡ true
    → (line_after (lines sheet) k ≡ kept at (before 10 rest)) × Along sheet (at + (length (before 10 rest) + 1)) (k + 1) × (k < length (lines sheet))
next_line sheet rest at k a e h =
    let m = lines_more at rest h in
    let b = ap (λ bs. lines_from at (pieces 10 bs)) e in
    let p = at_cons (lines sheet) k _ _ (sym m ∙ (b ∙ a)) in
    let n = length (before 10 rest) + 1 in
    let d : after 10 rest ≡ drop (at + n) sheet = after-drop 10 rest ∙ (ap (drop n) e ∙ drop-drop n at sheet) in
    (p.0, sym (ap (λ bs. lines_from (at + n) (pieces 10 bs)) d) ∙ p.1, p.2)

-- and where none does
pub last_line : (sheet rest : List ℕ) (at k : ℕ) → Along sheet at k → rest ≡ drop at sheet → has 10 rest ≡ false → at < length sheet
    → (line_after (lines sheet) k ≡ []) × Along sheet (length sheet) (k + 1) × (k < length (lines sheet))
last_line sheet rest at k a e h l =
    let g : length rest ≡ length sheet - at = ap length e ∙ length-drop at sheet in
    let m = lines_last at rest h (omega arith) in
    let b = ap (λ bs. lines_from at (pieces 10 bs)) e in
    let p = at_cons (lines sheet) k _ _ (sym m ∙ (b ∙ a)) in
    (p.0, ap (λ bs. lines_from (length sheet) (pieces 10 bs)) (drop_all (length sheet) sheet (omega arith)) ∙ p.1, p.2)

-- a line that is too long, or ends too late, reads as the empty line
pub kept_not : (at : ℕ) (l : List ℕ) → 60000 < at + (length l + 1) → kept at l ≡ []
kept_not at l h = grind (arith, nat_tests)

pub kept_long : (at : ℕ) (l : List ℕ) → 120 < length l → kept at l ≡ []
kept_long at l h = grind (arith, nat_tests)

pub kept_whole : (at : ℕ) (l : List ℕ) → length l ≤ 120 → at + (length l + 1) ≤ 60000 → kept at l ≡ l
kept_whole at l h g = grind (arith, nat_tests)

-- a byte is left exactly if a line is
pub ends_alike : (sheet : List ℕ) (at k : ℕ) → Along sheet at k → (at < length sheet → k < length (lines sheet)) → leb (length sheet) at ≡ leb (length (lines sheet)) k
ends_alike sheet at k a f =
    let n = none_left sheet at k a in
    grind (arith, nat_tests)

cases_has : (b : Bool) (P : Type 0) → (b ≡ true → P) → (b ≡ false → P) → P
cases_has true P f g = f refl
cases_has false P f g = g refl

pub some_left : (sheet : List ℕ) (at k : ℕ) → Along sheet at k → at < length sheet → k < length (lines sheet)
some_left sheet at k a l =
    cases_has (has 10 (drop at sheet)) (k < length (lines sheet))
    (λ h. (next_line sheet (drop at sheet) at k a refl h).2)
    (λ h. (last_line sheet (drop at sheet) at k a refl h l).2)

-- a line and its newline lie within the sheet
pub line_within : (sheet rest : List ℕ) (at : ℕ) → rest ≡ drop at sheet → has 10 rest ≡ true → at + (length (before 10 rest) + 1) ≤ length sheet
line_within sheet rest at e h =
    let g : length rest ≡ length sheet - at = ap length e ∙ length-drop at sheet in
    let l = ltb-true _ _ (sym (has-is 10 rest) ∙ h) in
    omega arith
