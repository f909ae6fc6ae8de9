-- The code's rows by sender: one read, one written, one more counted.
use Rattle.std.proofs.Common.{◌≡◌, ℕ, zero, suc, ◌+◌, ◌-◌, ◌<◌, ◌≤◌, Bool, true, false, cond, List, ◌++◌, map, length, get_or, take, drop, set, sym, ap, ◌∙◌, inl, inr, add-one, arith, eq-eqb, ne_eqb}
use mathlib.Core.Path.{fun_ext}
use Rattle.std.proofs.lemmas.Bool.{cases_eq}
use Rattle.std.proofs.lemmas.List.{map-set, get_or-map, length-map, get_or-set_same, get_or-set_other, take_all, drop_all, append-nil}
use Rattle.std.proofs.lemmas.List.Edits.{map_over_more}
use Rattle.std.proofs.Math.ListN.{get_or-map as mapped_get}
use Rattle.rules.specs.Counting.{count, upd}
use Rattle.rules.specs.Party as model
use Rattle.rules.specs.Step.{empty_row}
use Rattle.rows.specs.declared.row.Row.{Row}
use Rattle.rows.specs.Meaning.{row_of, rows_of}

-- a map in place that has come to the end
pub wholly_mapped : {X : Type 0} (f : X → X) (xs ys : List X) (k : ℕ) → length xs ≤ k → ys ≡ map f (take k xs) ++ drop k xs → ys ≡ map f xs
wholly_mapped f xs ys k h e = e ∙ rw (take_all k xs h, drop_all k xs h) (append-nil (map f xs))

module _ {V : Type 0} (bytes : V → List ℕ) where
  -- the row that was read is its sender's
  pub row_read : (rs : List (Row V)) (i : ℕ) (row : Row V) → i < length rs → row ≡ get_or rs i row → rows_of bytes rs (i + 1) ≡ row_of bytes row
  unfolding rows_of
  row_read rs i row h is =
      ap (rows_of bytes rs) (add-one i) ∙ (get_or-map (row_of bytes) rs i row empty_row h ∙ ap (row_of bytes) (sym is))

  -- one row more that is counted, or not
  pub counted_more : (p : model.Row → Bool) (rs : List (Row V)) (i : ℕ) (row : Row V) → i < length rs → row ≡ get_or rs i row →
      count (λ j. p (rows_of bytes rs j)) (i + 1) ≡ cond (p (row_of bytes row)) (suc (count (λ j. p (rows_of bytes rs j)) i)) (count (λ j. p (rows_of bytes rs j)) i)
  counted_more p rs i row h is =
      ap (count (λ j. p (rows_of bytes rs j))) (add-one i) ∙
      ap (λ r. cond (p r) (suc (count (λ j. p (rows_of bytes rs j)) i)) (count (λ j. p (rows_of bytes rs j)) i))
      (sym (ap (rows_of bytes rs) (add-one i)) ∙ row_read rs i row h is)

  pub counted_yes : (p : model.Row → Bool) (rs : List (Row V)) (i m n : ℕ) (row : Row V) → i < length rs → row ≡ get_or rs i row →
      m ≡ count (λ j. p (rows_of bytes rs j)) i → true ≡ p (row_of bytes row) → n ≡ m + 1 → n ≡ count (λ j. p (rows_of bytes rs j)) (i + 1)
  counted_yes p rs i m n row h is e t k =
      k ∙ (add-one m ∙ (ap suc e ∙ (ap (λ b. cond b (suc (count (λ j. p (rows_of bytes rs j)) i)) (count (λ j. p (rows_of bytes rs j)) i)) t ∙ sym (counted_more p rs i row h is))))

  pub counted_no : (p : model.Row → Bool) (rs : List (Row V)) (i m n : ℕ) (row : Row V) → i < length rs → row ≡ get_or rs i row →
      m ≡ count (λ j. p (rows_of bytes rs j)) i → false ≡ p (row_of bytes row) → n ≡ m → n ≡ count (λ j. p (rows_of bytes rs j)) (i + 1)
  counted_no p rs i m n row h is e t k =
      k ∙ (e ∙ (ap (λ b. cond b (suc (count (λ j. p (rows_of bytes rs j)) i)) (count (λ j. p (rows_of bytes rs j)) i)) t ∙ sym (counted_more p rs i row h is)))

  -- the same by a sender's number, counted from 1
  pub row_from : (rs : List (Row V)) (from : ℕ) (row : Row V) → 1 ≤ from → from ≤ length rs → row ≡ get_or rs (from - 1) row → row_of bytes row ≡ rows_of bytes rs from
  row_from rs zero row low high is = absurd (omega arith)
  row_from rs (suc i) row low high is =
      let k : suc i - 1 ≡ i = omega arith in
      sym (ap (rows_of bytes rs) (sym (add-one i)) ∙ row_read rs i row (omega arith) (is ∙ ap (λ j. get_or rs j row) k))

  at_place : (rs : List (Row V)) (i : ℕ) (row : Row V) → i < length rs → (j : ℕ) → rows_of bytes (set rs i row) (suc j) ≡ upd (rows_of bytes rs) (suc i) (row_of bytes row) (suc j)
  unfolding rows_of
  at_place rs i row h j =
      let e : map (row_of bytes) (set rs i row) ≡ set (map (row_of bytes) rs) i (row_of bytes row) = map-set (row_of bytes) rs i row in
      let l : i < length (map (row_of bytes) rs) = rw length-map h in
      ap (λ xs. get_or xs j empty_row) e ∙
      elim (cases_eq j i) [
        | inl q ↦ ap (λ k. get_or (set (map (row_of bytes) rs) i (row_of bytes row)) k empty_row) q ∙ (get_or-set_same (map (row_of bytes) rs) i (row_of bytes row) empty_row l ∙ sym (ap (λ b. cond b (row_of bytes row) (get_or (map (row_of bytes) rs) j empty_row)) (eq-eqb (suc j) (suc i) (ap suc q))))
        | inr q ↦ get_or-set_other (map (row_of bytes) rs) i j (row_of bytes row) empty_row q ∙ sym (ap (λ b. cond b (row_of bytes row) (get_or (map (row_of bytes) rs) j empty_row)) (ne_eqb (suc j) (suc i) (λ e'. q (omega arith))))
      ]

  at_zero : (rs : List (Row V)) (i : ℕ) (row : Row V) → rows_of bytes (set rs i row) 0 ≡ upd (rows_of bytes rs) (suc i) (row_of bytes row) 0
  unfolding rows_of
  at_zero rs i row = sym (ap (λ b. cond b (row_of bytes row) empty_row) (ne_eqb 0 (suc i) (λ e. omega arith)))

  at_each : (rs : List (Row V)) (i : ℕ) (row : Row V) → i < length rs → (j : ℕ) → rows_of bytes (set rs i row) j ≡ upd (rows_of bytes rs) (suc i) (row_of bytes row) j
  at_each rs i row h zero = at_zero rs i row
  at_each rs i row h (suc j) = at_place rs i row h j

  -- one row written is its sender's entry changed
  pub row_written : (rs : List (Row V)) (i : ℕ) (row : Row V) → i < length rs → rows_of bytes (set rs i row) ≡ upd (rows_of bytes rs) (suc i) (row_of bytes row)
  row_written rs i row h = fun_ext (at_each rs i row h)

  pub row_put : (rs : List (Row V)) (from : ℕ) (row : Row V) → 1 ≤ from → from ≤ length rs → rows_of bytes (set rs (from - 1) row) ≡ upd (rows_of bytes rs) from (row_of bytes row)
  row_put rs zero row low high = absurd (omega arith)
  row_put rs (suc i) row low high =
      let k : suc i - 1 ≡ i = omega arith in
      ap (λ j. rows_of bytes (set rs j row)) k ∙ row_written rs i row (omega arith)

  -- a loop that changes every row alike, up to a place
  abbrev pub Changed : (model.Row → model.Row) → List (Row V) → List (Row V) → ℕ → Type 0
  Changed change old new k = map (row_of bytes) new ≡ map change (take k (map (row_of bytes) old)) ++ drop k (map (row_of bytes) old)

  pub changed_more : (change : model.Row → model.Row) (old new : List (Row V)) (k : ℕ) (was row : Row V) → k < length old → Changed change old new k → was ≡ get_or new k was →
      row_of bytes row ≡ change (row_of bytes (get_or new k was)) → Changed change old (set new k row) (k + 1)
  changed_more change old new k was row h e is to =
      let read : row_of bytes was ≡ get_or (map (row_of bytes) new) k (row_of bytes was) = ap (row_of bytes) is ∙ sym (mapped_get (row_of bytes) new k was) in
      map-set (row_of bytes) new k row ∙
      (ap (set (map (row_of bytes) new) k) (to ∙ ap (λ r. change (row_of bytes r)) (sym is)) ∙
      map_over_more change (map (row_of bytes) old) (map (row_of bytes) new) k (row_of bytes was) (rw length-map h) e read)

  changed_at : (change : model.Row → model.Row) → change empty_row ≡ empty_row → (old new : List (Row V)) → map (row_of bytes) new ≡ map change (map (row_of bytes) old) →
      (j : ℕ) → rows_of bytes new j ≡ change (rows_of bytes old j)
  unfolding rows_of
  changed_at change f old new e zero = sym f
  changed_at change f old new e (suc i) =
      ap (λ l. get_or l i empty_row) e ∙
      (ap (get_or (map change (map (row_of bytes) old)) i) (sym f) ∙ mapped_get change (map (row_of bytes) old) i empty_row)

  pub changed_all : (change : model.Row → model.Row) → change empty_row ≡ empty_row → (old new : List (Row V)) (k : ℕ) → length old ≤ k → Changed change old new k →
      rows_of bytes new ≡ (λ j. change (rows_of bytes old j))
  changed_all change f old new k h e =
      fun_ext (changed_at change f old new (wholly_mapped change (map (row_of bytes) old) (map (row_of bytes) new) k (rw length-map h) e))
