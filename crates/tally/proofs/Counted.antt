-- The rows that pass a test, counted in their list and by their senders.
use Rattle.std.proofs.Common.{◌≡◌, ℕ, zero, suc, ◌≤◌, Bool, cond, List, [], ◌∷◌, length, refl, arith}
use Rattle.std.specs.List.{filter}
use Rattle.rules.specs.Counting.{count}
use Rattle.rules.specs.Party as model
use Rattle.rules.proofs.Counts.{count_ext}
use Rattle.rows.specs.declared.row.Row.{Row}
use Rattle.rows.specs.Meaning.{row_of, rows_of}

-- the first apart from the others
count_front : (p : ℕ → Bool) (n : ℕ) → count p (suc n) ≡ cond (p 1) (suc (count (λ j. p (suc j)) n)) (count (λ j. p (suc j)) n)
count_front p zero = refl
count_front p (suc n) =
    let ih = count_front p n in
    grind arith

module _ {V : Type 0} (bytes : V → List ℕ) (p : model.Row → Bool) where
  others : (r : Row V) (rs : List (Row V)) (j : ℕ) → 1 ≤ j → p (rows_of bytes (r ∷ rs) (suc j)) ≡ p (rows_of bytes rs j)
  unfolding rows_of
  others r rs zero h = absurd (omega arith)
  others r rs (suc j) h = refl

  first : (r : Row V) (rs : List (Row V)) → p (rows_of bytes (r ∷ rs) 1) ≡ p (row_of bytes r)
  unfolding rows_of
  first r rs = refl

  pub count_listed : (rs : List (Row V)) → length (filter (λ r. p (row_of bytes r)) rs) ≡ count (λ j. p (rows_of bytes rs j)) (length rs)
  count_listed [] = refl
  count_listed (r ∷ rs) =
      let ih = count_listed rs in
      let f = first r rs in
      let e = count_ext (λ j. p (rows_of bytes (r ∷ rs) (suc j))) (λ j. p (rows_of bytes rs j)) (length rs) (λ j h k. others r rs j h) in
      let s = count_front (λ j. p (rows_of bytes (r ∷ rs) j)) (length rs) in
      grind arith
