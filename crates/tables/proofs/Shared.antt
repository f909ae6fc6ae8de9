-- The parts of tables that are only read mean the same ring.
use Rattle.std.proofs.Common.{◌≡◌, ℕ, List, [], sym, ap, ◌∙◌}
use Rattle.messages.specs.Messages.{Msg}
use Rattle.rows.specs.declared.record.Record.{Record}
use Rattle.rows.specs.declared.row.Row.{Row}
use Rattle.agreement.specs.Ring as model
use Rattle.agreement.specs.Ring.{tables_fit}
use Rattle.agreement.specs.Calls.{Answer, Outcome, Gives}
use Rattle.tables.specs.declared.ring.Ring.{Ring}
use Rattle.tables.specs.declared.tables.Tables.{Tables}
use Rattle.tables.specs.Meaning.{ring_of, ring_in}

module _ {V : Type 0} (bytes : V → List ℕ) (t : Tables V) (ring : Ring) (records : List (Record V)) (rows : List (Row V))
    (r : ring ≡ t.ring) (q : (records ≡ t.records.now) × (rows ≡ t.rows.now)) where
  pub shared_ring : (wire : List Msg) (capacity : ℕ) → ring_of bytes ring records rows wire capacity ≡ ring_in bytes t wire capacity
  shared_ring wire capacity =
      ap (λ x. ring_of bytes x records rows wire capacity) r ∙
      (ap (λ x. ring_of bytes t.ring x rows wire capacity) q.0 ∙ ap (λ x. ring_of bytes t.ring t.records.now x wire capacity) q.1)

  -- so that a test of the parts is a test of the tables
  pub shared_fit : tables_fit (ring_of bytes ring records rows [] 0) ≡ tables_fit (ring_in bytes t [] 0)
  shared_fit = ap tables_fit (shared_ring [] 0)

  -- and a call on the parts a call on the tables
  pub shared_gives : (call : model.Ring → Outcome) (a : Answer) (wire wire' : List Msg) (capacity capacity' : ℕ) →
      Gives (call (ring_of bytes ring records rows wire capacity)) a (ring_of bytes ring records rows wire' capacity') → Gives (call (ring_in bytes t wire capacity)) a (ring_in bytes t wire' capacity')
  shared_gives call a wire wire' capacity capacity' g =
      let e = shared_ring wire capacity in
      record {
        answer = g.answer ∙ ap (λ s. (call s).answer) e;
        after = sym (shared_ring wire' capacity') ∙ (g.after ∙ ap (λ s. (call s).after) e);
      }
