-- Facts about sets of parties.
use Rattle.std.proofs.Common.{◌≡◌, ℕ, zero, suc, ◌+◌, ◌-◌, ◌^◌, ◌<◌, ◌≤◌, true, false, List, [], Some, None, Option, sym, ap, ◌∙◌, pow-suc, arith, pow_mono}
use Rattle.std.proofs.lemmas.Bool.Decides.{nat_tests}
use Rattle.sheet_fields.specs.Cuts.{has, before, after, pieces}
use Rattle.sheet_fields.specs.Numbers.{number, between}
use Rattle.sheet_fields.specs.Parties.{rising}
use Rattle.sheet_fields.proofs.Cutting.{pieces_more, pieces_last}

pub between_bounds : (low high j : ℕ) (o : Option ℕ) → Some j ≡ between low high o → (low ≤ j) × (j ≤ high)
between_bounds low high j None e = let z : ◌≡◌ {A = ℕ} 0 1 = cc in absurd (omega arith)
between_bounds low high j (Some n) e = grind (arith, nat_tests)

-- twice a power of two is the next
pub doubled : (p : ℕ) → 0 < p → 2 ^ (p - 1) + 2 ^ (p - 1) ≡ 2 ^ p
doubled zero h = absurd (omega arith)
doubled (suc k) h =
    let e : suc k - 1 ≡ k = omega arith in
    let f = pow-suc 2 k in
    rw e (omega arith)

pub joins : (word low p : ℕ) → word < 2 ^ low → low < p → word + 2 ^ (p - 1) < 2 ^ p
joins word low p w l =
    let m : 2 ^ low ≤ 2 ^ (p - 1) = pow_mono (omega arith) in
    let d = doubled p (omega arith) in
    omega arith

-- reading a list of parties, one step and at its end
abbrev on : ℕ → List (List ℕ) → Option ℕ → Option ℕ
on word ps o = elim o [ None ↦ None | Some j ↦ rising j (word + 2 ^ (j - 1)) ps ]

pub rising_end_none : (low word : ℕ) (s : List ℕ) → has 44 s ≡ false → None ≡ between (low + 1) 64 (number s) → None ≡ rising low word (pieces 44 s)
rising_end_none low word s h e = ap (on word []) e ∙ sym (ap (rising low word) (pieces_last 44 s h))

pub rising_end : (low word j : ℕ) (s : List ℕ) → has 44 s ≡ false → Some j ≡ between (low + 1) 64 (number s) → Some (word + 2 ^ (j - 1)) ≡ rising low word (pieces 44 s)
rising_end low word j s h e = ap (on word []) e ∙ sym (ap (rising low word) (pieces_last 44 s h))

pub rising_none : (low word : ℕ) (s : List ℕ) → has 44 s ≡ true → None ≡ between (low + 1) 64 (number (before 44 s)) → None ≡ rising low word (pieces 44 s)
rising_none low word s h e = ap (on word (pieces 44 (after 44 s))) e ∙ sym (ap (rising low word) (pieces_more 44 s h))

pub rising_more : (low word j : ℕ) (s : List ℕ) → has 44 s ≡ true → Some j ≡ between (low + 1) 64 (number (before 44 s)) → rising j (word + 2 ^ (j - 1)) (pieces 44 (after 44 s)) ≡ rising low word (pieces 44 s)
rising_more low word j s h e = ap (on word (pieces 44 (after 44 s))) e ∙ sym (ap (rising low word) (pieces_more 44 s h))
