-- What the code's record and rows mean: the same parts, each value by its bytes.
use Rattle.std.specs.Prelude.{ℕ, zero, suc, Bool, cond, List, [], map, None, Option, ◌==◌, slice_index_or}
use Rattle.std.specs.Option.{option_map}
use Rattle.rules.specs.Party as model
use Rattle.rules.specs.Party.{nothing, waiting, echoed, dropped}
use Rattle.rules.specs.Step.{empty_row}
use Rattle.rows.specs.declared.seat.Seat.{Seat}
use Rattle.rows.specs.declared.keys.Keyed.{Keyed}
use Rattle.rows.specs.declared.keys.Suggest.{Suggest}
use Rattle.rows.specs.declared.keys.Proof.{Proof}
use Rattle.rows.specs.declared.record.Proposal.{Proposal}
use Rattle.rows.specs.declared.record.Proposal.TheVariants.{Nothing, Waiting, Echoed, Dropped}
use Rattle.rows.specs.declared.record.Record.{Record}
use Rattle.rows.specs.declared.row.Row.{Row}

-- the ring that a seat is in, for a kind of value of this width, with these allowed
abbrev pub setting_of : ℕ → (List ℕ → Bool) → Seat → model.Setting
setting_of width allows s = record { n = s.n; f = s.f; width = width; allows = allows }

module _ {V : Type 0} (bytes : V → List ℕ) where
  abbrev pub keyed_of : Keyed V → model.Keyed
  keyed_of k = record { at = k.at; value = bytes k.value }

  abbrev pub suggest_of : Suggest V → model.Suggest
  suggest_of s = record { key3 = keyed_of s.key3; key2 = keyed_of s.key2; previous = s.previous }

  abbrev pub proof_of : Proof V → model.Proof
  proof_of p = record { key1 = keyed_of p.key1; previous = p.previous }

  abbrev pub proposal_of : Proposal V → model.Proposal
  proposal_of Nothing = nothing
  proposal_of (Waiting v) = waiting (bytes v)
  proposal_of (Echoed v) = echoed (bytes v)
  proposal_of Dropped = dropped

  -- a field by its kind; other kinds have none
  abbrev pub field_of : Record V → ℕ → model.Keyed
  field_of r k =
      cond (k == 6) (keyed_of r.key1)
      (cond (k == 7) (keyed_of r.key2)
      (cond (k == 8) (keyed_of r.key3) (cond (k == 9) (keyed_of r.lock) (record { at = 0; value = [] }))))

  -- a previous key by its kind
  abbrev pub previous_of : Record V → ℕ → Option ℕ
  previous_of r k = cond (k == 6) r.previous_key1 (cond (k == 7) r.previous_key2 None)

  abbrev pub record_of : Record V → model.Record
  record_of r =
      record {
        view = r.view;
        field = field_of r;
        previous = previous_of r;
        decision = option_map bytes r.decision;
        done = option_map bytes r.done;
        suggest = suggest_of r.suggest;
        proof = proof_of r.proof;
        offer = option_map keyed_of r.offer;
        proposal = proposal_of r.proposal;
      }

  -- a vote by its kind
  abbrev pub vote_of : Row V → ℕ → Option (List ℕ)
  vote_of r k =
      cond (k == 5) (option_map bytes r.echo)
      (cond (k == 6) (option_map bytes r.key1)
      (cond (k == 7) (option_map bytes r.key2)
      (cond (k == 8) (option_map bytes r.key3) (cond (k == 9) (option_map bytes r.lock) None))))

  abbrev pub row_of : Row V → model.Row
  row_of r =
      record {
        request = r.request;
        abort = r.abort;
        done = option_map bytes r.done;
        suggest = option_map suggest_of r.suggest;
        proof = option_map proof_of r.proof;
        vote = vote_of r;
      }

  -- the rows by sender, from 1; no other number has one
  unfoldable pub rows_of : List (Row V) → ℕ → model.Row
  rows_of rs zero = empty_row
  rows_of rs (suc i) = slice_index_or (map row_of rs) i empty_row

  abbrev pub party_of : Record V → List (Row V) → model.Party
  party_of r rs = record { rec = record_of r; rows = rows_of rs }
