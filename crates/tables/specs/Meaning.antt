-- What a ring with its tables and its wire means.
use Rattle.std.specs.Prelude.{◌≡◌, ℕ, zero, suc, ◌*◌, List, [], map, length, take, drop, Ok, Err, Result, slice_index_or}
use Rattle.messages.specs.Messages.{Msg}
use Rattle.rules.specs.Party as model
use Rattle.rules.specs.Step.{newcomer}
use Rattle.rows.specs.Meaning.{record_of, rows_of}
use Rattle.rows.specs.declared.record.Record.{Record}
use Rattle.rows.specs.declared.row.Row.{Row}
use Rattle.agreement.specs.Ring as agreement
use Rattle.agreement.specs.Calls.{Answer, said, refused, named}
use Rattle.tables.specs.declared.ring.Ring.{Ring}
use Rattle.tables.specs.declared.tables.Tables.{Tables}
use Rattle.tables.specs.declared.refusal.Refusal.{Refusal}
use Rattle.tables.specs.Refusals.{refusal_number}

-- what stands for a record that the table lacks
abbrev pub no_record : model.Record
no_record = (newcomer []).rec

-- the ring with these parties, in tables of so many records and rows, and a wire
abbrev pub ring_with : Ring → (ℕ → model.Party) → ℕ → ℕ → List Msg → ℕ → agreement.Ring
ring_with ring parties records rows wire capacity =
    record {
      n = ring.n;
      f = ring.f;
      faulty = named ring.faulty;
      parties = parties;
      records = records;
      rows = rows;
      wire = wire;
      capacity = capacity;
    }

module _ {V : Type 0} (bytes : V → List ℕ) where
  -- the record of party i
  abbrev pub record_at : List (Record V) → ℕ → model.Record
  record_at records zero = no_record
  record_at records (suc i) = slice_index_or (map (record_of bytes) records) i no_record

  -- the rows of party i among those of n parties each
  abbrev pub part : ℕ → List (Row V) → ℕ → List (Row V)
  part n rows zero = []
  part n rows (suc i) = take n (drop (i * n) rows)

  -- every party by its record and its rows
  unfoldable pub parties_of : ℕ → List (Record V) → List (Row V) → ℕ → model.Party
  parties_of n records rows i = record { rec = record_at records i; rows = rows_of bytes (part n rows i) }

  -- the ring over its tables and a wire, the rows cut into parts of this size
  abbrev pub ring_at : ℕ → Ring → List (Record V) → List (Row V) → List Msg → ℕ → agreement.Ring
  ring_at size ring records rows wire capacity =
      record {
        n = ring.n;
        f = ring.f;
        faulty = named ring.faulty;
        parties = parties_of size records rows;
        records = length records;
        rows = length rows;
        wire = wire;
        capacity = capacity;
      }

  -- a ring that is set up cuts the rows by its own size
  abbrev pub ring_of : Ring → List (Record V) → List (Row V) → List Msg → ℕ → agreement.Ring
  ring_of ring records rows wire capacity = ring_at ring.n ring records rows wire capacity

  -- the ring over the tables that it is lent, and a wire
  abbrev pub ring_in : Tables V → List Msg → ℕ → agreement.Ring
  ring_in tables wire capacity = ring_of tables.ring tables.records.now tables.rows.now wire capacity

-- the same ring over the same tables
abbrev pub SameTables : {V : Type 0} → Tables V → Tables V → Type 0
SameTables t u = (u.ring ≡ t.ring) × ((u.records.ghost_name ≡ t.records.ghost_name) × (u.rows.ghost_name ≡ t.rows.ghost_name))

-- what a test lets through, by its meaning, or the number of the refusal
abbrev pub result_of : {A B : Type 0} → (A → B) → Result A Refusal → Result B ℕ
result_of means (Ok x) = Ok (means x)
result_of means (Err refusal) = Err (refusal_number refusal)

-- a call's answer: how many posts, or the number of the refusal
abbrev pub answer_of : Result ℕ Refusal → Answer
answer_of (Ok posts) = said posts
answer_of (Err refusal) = refused (refusal_number refusal)
