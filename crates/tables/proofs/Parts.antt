-- One party's part of the lent tables: read, and written.
use Rattle.std.proofs.Common.{◌≡◌, ℕ, zero, suc, ◌+◌, ◌-◌, ◌*◌, ◌<◌, ◌≤◌, Bool, true, false, cond, ◌||◌, List, map, length, get_or, take, drop, set, sym, ap, ◌∙◌, inl, inr, mul-le-mul_right, suc-mul, arith}
use mathlib.Core.Path.{fun_ext}
use borrow.Rule.Slice.PartMut.{put_mid}
use Rattle.std.proofs.lemmas.List.{map-set, get_or-map, length-map, get_or-set_same, get_or-set_other}
use Rattle.std.proofs.lemmas.List.Edits.{length-between}
use Rattle.std.proofs.lemmas.Slice.{between_is, take-put_mid_below, drop-put_mid, between-put_mid}
use Rattle.std.proofs.lemmas.Bool.{cases_eq, cases_lt, eq-eqb, ne_eqb}
use Rattle.rules.specs.Counting.{upd}
use Rattle.rules.specs.Party as model
use Rattle.rules.specs.Bounds.{party_fits}
use Rattle.rows.specs.Meaning.{record_of, rows_of, party_of}
use Rattle.rows.specs.declared.record.Record.{Record}
use Rattle.rows.specs.declared.row.Row.{Row}
use Rattle.tables.specs.Meaning.{no_record, parties_of}

-- ## Tests one after the other
pub or_first : (a b : Bool) → true ≡ a → true ≡ (a || b)
or_first a b e = ap (λ x. x || b) e

pub or_second : (a b c : Bool) → false ≡ a → c ≡ b → c ≡ (a || b)
or_second a b c e h = h ∙ ap (λ x. x || b) e

-- ## Parts of one list, as a write to one of them leaves them
module _ {X : Type 0} (b n : ℕ) (xs new : List X) (fits : b + n ≤ length xs) (same : length new ≡ n) where
  part_same : take n (drop b (put_mid b n xs new)) ≡ new
  part_same =
      let k : n ≡ (b + n) - b = omega arith in
      ap (λ j. take j (drop b (put_mid b n xs new))) k ∙ between-put_mid b n xs new (b + n) (omega (arith, fits)) (same ∙ k)

  part_above : (a : ℕ) → b + n ≤ a → take n (drop a (put_mid b n xs new)) ≡ take n (drop a xs)
  part_above a h = ap (take n) (drop-put_mid b n xs new a h (omega (arith, fits)) same)

  part-below : (a : ℕ) → a + n ≤ b → take n (drop a (put_mid b n xs new)) ≡ take n (drop a xs)
  part-below a h =
      let k : n ≡ (a + n) - a = omega arith in
      ap (λ j. take j (drop a (put_mid b n xs new))) k ∙ (between_is (put_mid b n xs new) a (a + n) ∙ (ap (drop a) (take-put_mid_below b n xs new (a + n) h (omega (arith, fits))) ∙
      (sym (between_is xs a (a + n)) ∙ sym (ap (λ j. take j (drop a xs)) k))))

pub part_length : {X : Type 0} (b n : ℕ) (xs : List X) → b + n ≤ length xs → length (take ((b + n) - b) (drop b xs)) ≡ n
part_length b n xs h = length-between xs b (b + n) h ∙ (let k : (b + n) - b ≡ n = omega arith in k)

-- parts of the same size, one after another
below_parts : (n j i : ℕ) → j < i → j * n + n ≤ i * n
below_parts n j i h = omega (arith, mul-le-mul_right n h, suc-mul j n)

module _ {V : Type 0} (bytes : V → List ℕ) (n : ℕ) where
  read_at : (i : ℕ) (records : List (Record V)) (rows : List (Row V)) (r : Record V) → i < length records → r ≡ get_or records i r →
      parties_of bytes n records rows (suc i) ≡ party_of bytes r (take n (drop (i * n) rows))
  unfolding parties_of
  read_at i records rows r h e =
      ap (λ x. record { rec = x; rows = rows_of bytes (take n (drop (i * n) rows)) }) (get_or-map (record_of bytes) records i r no_record h ∙ ap (record_of bytes) (sym e))

  -- a party as the code reads it
  pub party_read : (party b : ℕ) (records : List (Record V)) (rows : List (Row V)) (r : Record V) → 1 ≤ party → party ≤ length records →
      r ≡ get_or records (party - 1) r → b ≡ (party - 1) * n → parties_of bytes n records rows party ≡ party_of bytes r (take ((b + n) - b) (drop b rows))
  party_read zero b records rows r low high e k = absurd (omega arith)
  party_read (suc i) b records rows r low high e k =
      let z : suc i - 1 ≡ i = omega arith in
      let w : n ≡ (b + n) - b = omega arith in
      read_at i records rows r (omega arith) (e ∙ ap (λ j. get_or records j r) z) ∙
      (ap (λ j. party_of bytes r (take n (drop j rows))) (sym (k ∙ ap (λ j. j * n) z)) ∙ ap (λ j. party_of bytes r (take j (drop b rows))) w)

  -- a test of a party's own part is the test of the party
  pub party_tested : (party b : ℕ) (records : List (Record V)) (rows : List (Row V)) (r : Record V) (t : Bool) → 1 ≤ party → party ≤ length records →
      r ≡ get_or records (party - 1) r → b ≡ (party - 1) * n → b + n ≤ length rows →
      t ≡ party_fits (length (take ((b + n) - b) (drop b rows))) (party_of bytes r (take ((b + n) - b) (drop b rows))) →
      t ≡ party_fits n (parties_of bytes n records rows party)
  party_tested party b records rows r t low high e k fits h =
      let z : length (take ((b + n) - b) (drop b rows)) ≡ n = part_length b n rows fits in
      h ∙ (ap (λ j. party_fits j (party_of bytes r (take ((b + n) - b) (drop b rows)))) z ∙ ap (party_fits n) (sym (party_read party b records rows r low high e k)))

  module _ (i : ℕ) (records : List (Record V)) (rows : List (Row V)) (r : Record V) (new : List (Row V))
      (low : i < length records) (fits : i * n + n ≤ length rows) (same : length new ≡ n) where
    abbrev after : ℕ → model.Party
    after = parties_of bytes n (set records i r) (put_mid (i * n) n rows new)

    at_none : after 0 ≡ upd (parties_of bytes n records rows) (suc i) (party_of bytes r new) 0
    unfolding parties_of
    at_none = sym (ap (λ b. cond b (party_of bytes r new) (parties_of bytes n records rows 0)) (ne_eqb 0 (suc i) (λ e. omega arith)))

    here : after (suc i) ≡ party_of bytes r new
    unfolding parties_of
    here =
        ap (λ x. record { rec = x; rows = rows_of bytes (take n (drop (i * n) (put_mid (i * n) n rows new))) })
        (ap (λ xs. get_or xs i no_record) (map-set (record_of bytes) records i r) ∙
        get_or-set_same (map (record_of bytes) records) i (record_of bytes r) no_record (rw length-map low)) ∙
        ap (λ x. record { rec = record_of bytes r; rows = rows_of bytes x }) (part_same (i * n) n rows new fits same)

    rows_there : (j : ℕ) → (j ≡ i → ⊥) → take n (drop (j * n) (put_mid (i * n) n rows new)) ≡ take n (drop (j * n) rows)
    rows_there j q =
        elim (cases_lt j i) [
          | inl l ↦ part-below (i * n) n rows new fits same (j * n) (below_parts n j i l)
          | inr l ↦ part_above (i * n) n rows new fits same (j * n) (below_parts n i j (let z : i < j = omega (arith, q, l) in z))
        ]

    there : (j : ℕ) → (j ≡ i → ⊥) → after (suc j) ≡ parties_of bytes n records rows (suc j)
    unfolding parties_of
    there j q =
        ap (λ x. record { rec = x; rows = rows_of bytes (take n (drop (j * n) (put_mid (i * n) n rows new))) })
        (ap (λ xs. get_or xs j no_record) (map-set (record_of bytes) records i r) ∙ get_or-set_other (map (record_of bytes) records) i j (record_of bytes r) no_record q) ∙
        ap (λ x. record { rec = get_or (map (record_of bytes) records) j no_record; rows = rows_of bytes x }) (rows_there j q)

    at_each : (j : ℕ) → after j ≡ upd (parties_of bytes n records rows) (suc i) (party_of bytes r new) j
    at_each zero = at_none
    at_each (suc j) =
        elim (cases_eq j i) [
          | inl q ↦ ap (λ k. after (suc k)) q ∙ (here ∙ sym (ap (λ b. cond b (party_of bytes r new) (parties_of bytes n records rows (suc j))) (eq-eqb (suc j) (suc i) (ap suc q))))
          | inr q ↦ there j q ∙ sym (ap (λ b. cond b (party_of bytes r new) (parties_of bytes n records rows (suc j))) (ne_eqb (suc j) (suc i) (λ e. q (omega arith))))
        ]

  -- a party as the code leaves it
  pub party-written : (party b : ℕ) (records : List (Record V)) (rows : List (Row V)) (r : Record V) (new : List (Row V)) → 1 ≤ party → party ≤ n → n ≤ length records →
      n * n ≤ length rows → b ≡ (party - 1) * n → length new ≡ n →
      parties_of bytes n (set records (party - 1) r) (put_mid b ((b + n) - b) rows new) ≡ upd (parties_of bytes n records rows) party (party_of bytes r new)
  party-written zero b records rows r new low high many wide k same = absurd (omega arith)
  party-written (suc i) b records rows r new low high many wide k same =
      let z : suc i - 1 ≡ i = omega arith in
      let w : (b + n) - b ≡ n = omega arith in
      let l : i < n = omega arith in
      ap (λ j. parties_of bytes n (set records j r) (put_mid b ((b + n) - b) rows new)) z ∙
      (ap (λ j. parties_of bytes n (set records i r) (put_mid b j rows new)) w ∙
      (ap (λ j. parties_of bytes n (set records i r) (put_mid j n rows new)) (k ∙ ap (λ j. j * n) z) ∙
      fun_ext (at_each i records rows r new (omega arith) (omega (arith, wide, below_parts n i n l)) same)))
