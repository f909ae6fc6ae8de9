-- The votes of a row by kind, with one changed.
use Rattle.std.proofs.Common.{◌≡◌, ℕ, List, Some, sym, ap, ◌∙◌, inl, inr, ne_eqb}
use mathlib.Core.Path.{fun_ext}
use Rattle.std.proofs.lemmas.Bool.{cases_eq}
use Rattle.rules.specs.Counting.{upd}
use Rattle.rules.specs.Party.{with_vote}
use Rattle.rows.specs.declared.row.Row.{Row}
use Rattle.rows.specs.Meaning.{row_of, vote_of}

module _ {V : Type 0} (bytes : V → List ℕ) (row : Row V) (v : V) where
  -- the row with its vote by a lock
  abbrev locked : Row V
  locked =
      record {
        request = row.request;
        abort = row.abort;
        done = row.done;
        suggest = row.suggest;
        proof = row.proof;
        echo = row.echo;
        key1 = row.key1;
        key2 = row.key2;
        key3 = row.key3;
        lock = Some v;
      }

  one_vote : (j : ℕ) → vote_of bytes locked j ≡ upd (vote_of bytes row) 9 (Some (bytes v)) j
  one_vote j = elim (cases_eq j 9) [ inl q ↦ rw q | inr q ↦ rw (ne_eqb j 9 q) ]

  pub lock_voted : (kind : ℕ) → kind ≡ 9 → row_of bytes locked ≡ with_vote (row_of bytes row) kind (bytes v)
  lock_voted kind e =
      ap (λ t. record { request = row.request; abort = row.abort; done = (row_of bytes row).done; suggest = (row_of bytes row).suggest; proof = (row_of bytes row).proof; vote = t }) (fun_ext one_vote) ∙
      ap (λ k. with_vote (row_of bytes row) k (bytes v)) (sym e)
