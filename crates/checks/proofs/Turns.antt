-- One turn of a loop over the rows: one sender more.
use Rattle.std.proofs.Common.{◌≡◌, ℕ, suc, ◌+◌, ◌<◌, max, Bool, cond, leb, List, length, get_or, Option, sym, ap, ◌∙◌, add-one}
use Rattle.rules.specs.Counting.{count, largest}
use Rattle.rules.specs.Party as model
use Rattle.rules.specs.Tests.{accepts, best, higher}
use Rattle.rows.proofs.Senders.{row_read}
use Rattle.rows.specs.declared.row.Row.{Row}
use Rattle.rows.specs.declared.record.Record.{Record}
use Rattle.rows.specs.Meaning.{row_of, rows_of, party_of}

module _ {V : Type 0} (bytes : V → List ℕ) (rs : List (Row V)) (i : ℕ) (row : Row V) (h : i < length rs) (is : row ≡ get_or rs i row) where
  here : rows_of bytes rs (suc i) ≡ row_of bytes row
  here = sym (ap (rows_of bytes rs) (add-one i)) ∙ row_read bytes rs i row h is

  abbrev abort_of : ℕ → ℕ
  abort_of j = (rows_of bytes rs j).abort

  -- the largest so far, with one entry more that passes, or does not
  pub largest_more : (t : ℕ → Bool) (top top' : ℕ) (b : Bool) → b ≡ t row.abort → top ≡ largest abort_of t i → top' ≡ cond b (max row.abort top) top → top' ≡ largest abort_of t (i + 1)
  largest_more t top top' b e f k =
      k ∙ (ap (λ c. cond c (max row.abort top) top) e ∙ (ap (λ x. cond (t row.abort) (max row.abort x) x) f ∙
      (sym (ap (λ r. cond (t r.abort) (max r.abort (largest abort_of t i)) (largest abort_of t i)) here) ∙ sym (ap (largest abort_of t) (add-one i)))))

  -- the best suggest so far, with one sender more
  pub best_more : (g : model.Setting) (own : Record V) (top top' : Option model.Suggest) (b : Bool) → b ≡ accepts g (party_of bytes own rs) (row_of bytes row).suggest →
      top ≡ best g (party_of bytes own rs) i → top' ≡ cond b (higher g top (row_of bytes row).suggest) top → top' ≡ best g (party_of bytes own rs) (i + 1)
  best_more g own top top' b e f k =
      let p = party_of bytes own rs in
      k ∙ (ap (λ c. cond c (higher g top (row_of bytes row).suggest) top) e ∙ (ap (λ x. cond (accepts g p (row_of bytes row).suggest) (higher g x (row_of bytes row).suggest) x) f ∙
      (sym (ap (λ r. cond (accepts g p r.suggest) (higher g (best g p i) r.suggest) (best g p i)) here) ∙ sym (ap (best g p) (add-one i)))))

-- the same size and the same number of senders, under other names
pub largest_by : (a : ℕ → ℕ) (s s' n n' r : ℕ) → r ≡ largest a (λ x. leb s (count (λ j. leb x (a j)) n)) n → s ≡ s' → n ≡ n' →
    r ≡ largest a (λ x. leb s' (count (λ j. leb x (a j)) n')) n'
largest_by a s s' n n' r e p q =
    e ∙ (ap (λ k. largest a (λ x. leb k (count (λ j. leb x (a j)) n)) n) p ∙ ap (λ k. largest a (λ x. leb s' (count (λ j. leb x (a j)) k)) k) q)
