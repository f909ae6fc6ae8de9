-- A party's turn, as the tables and the wire show it.
use Rattle.std.proofs.Common.{◌≡◌, ℕ, ◌+◌, ◌-◌, ◌*◌, ◌≤◌, ◌<◌, Bool, true, false, List, [], ◌++◌, length, get_or, take, drop, set, sym, ap, ◌∙◌, subst, arith}
use borrow.Rule.Slice.PartMut.{put_mid}
use Rattle.std.proofs.lemmas.List.{length-append, length-set, length-take-le, length-drop}
use Rattle.messages.specs.Messages.{Msg, last_view}
use Rattle.rules.specs.Counting.{upd}
use Rattle.rules.specs.Party as model
use Rattle.rules.specs.Bounds.{party_fits}
use Rattle.rows.specs.Meaning.{setting_of, party_of}
use Rattle.rows.specs.declared.record.Record.{Record}
use Rattle.rows.specs.declared.row.Row.{Row}
use Rattle.rows.specs.declared.seat.Seat.{Seat}
use Rattle.posting.specs.Posting.{Does}
use Rattle.tables.specs.Meaning.{parties_of, ring_with, ring_of}
use Rattle.tables.specs.declared.ring.Ring.{Ring}
use Rattle.tables.proofs.Fitting.{one_fits, turn_fits}
use Rattle.tables.proofs.Parts.{party_read, party-written, part_length}
use Rattle.agreement.specs.Ring.{tables_fit}
use Rattle.agreement.specs.Calls.{said, named, stepped, Gives}
use Rattle.turns.specs.Meaning.{setting_in}

-- a part written leaves the length
part-kept : {X : Type 0} (b n : ℕ) (xs new : List X) → length new ≡ n → b + n ≤ length xs → length (put_mid b ((b + n) - b) xs new) ≡ length xs
part-kept b n xs new e h =
    let k : (b + n) - b ≡ n = omega arith in
    let l1 = length-append (take b xs) (new ++ drop ((b + n) - b) (drop b xs)) in
    let l2 = length-append new (drop ((b + n) - b) (drop b xs)) in
    let l3 = length-take-le b xs (omega (arith, h)) in
    let l4 = length-drop ((b + n) - b) (drop b xs) in
    let l5 = length-drop b xs in
    omega (arith, k, l1, l2, l3, l4, l5, e, h)

same_ring : (s : Ring) (p q : ℕ → model.Party) (a b c d : ℕ) (v w : List Msg) (x y : ℕ) → p ≡ q → a ≡ b → c ≡ d → v ≡ w → x ≡ y → ring_with s p a c v x ≡ ring_with s q b d w y
same_ring s p q a b c d v w x y e1 e2 e3 e4 e5 =
    ap (λ z. ring_with s z a c v x) e1 ∙ (ap (λ z. ring_with s q z c v x) e2 ∙ (ap (λ z. ring_with s q b z v x) e3 ∙ (ap (λ z. ring_with s q b d z x) e4 ∙ ap (ring_with s q b d w) e5)))

-- a party's seat and its own part of the tables: its record at its place, and its rows from b on
pub record Own {V : Type 0} (s : Ring) (party b : ℕ) (records : List (Record V)) (rows : List (Row V)) (own : Record V) (seat : Seat) : Type 0 where
  pub stands : (seat.n ≡ s.n) × (seat.f ≡ s.f) × (seat.me ≡ party)
  pub seated : (1 ≤ party) × (party ≤ s.n)
  pub places : (s.n ≤ length records) × (s.n * s.n ≤ length rows)
  pub is : own ≡ get_or records (party - 1) own
  pub value : b ≡ (party - 1) * s.n
  pub within : b + s.n ≤ s.n * s.n

-- the rows from b on, and what the party keeps
abbrev pub own-rows : {V : Type 0} → Ring → ℕ → List (Row V) → List (Row V)
own-rows s b rows = take ((b + s.n) - b) (drop b rows)

abbrev pub kept : {V : Type 0} → (V → List ℕ) → Ring → ℕ → ℕ → List (Record V) → List (Row V) → Record V → model.Party
kept bytes s party b records rows own = party_of bytes (get_or records (party - 1) own) (own-rows s b rows)

module _ {V : Type 0} (bytes : V → List ℕ) {s : Ring} {party b : ℕ} {records : List (Record V)} {rows : List (Row V)} {own : Record V} {seat : Seat} (o : Own s party b records rows own seat) where
  pub whole : length (own-rows s b rows) ≡ s.n
  whole = part_length b s.n rows (omega (arith, o.within, o.places.1))

  read : parties_of bytes s.n records rows party ≡ kept bytes s party b records rows own
  read = party_read bytes s.n party b records rows (get_or records (party - 1) own) o.seated.0 (omega (arith, o.seated.1, o.places.0)) (ap (λ x. get_or records (party - 1) x) o.is) o.value

  -- an honest one lies within its bounds
  pub fits : true ≡ tables_fit (ring_of bytes s records rows [] 0) → false ≡ named s.faulty party → party_fits seat.n (kept bytes s party b records rows own) ≡ true
  fits fit honest = ap (λ n. party_fits n (kept bytes s party b records rows own)) o.stands.0 ∙ (ap (party_fits s.n) (sym read) ∙ one_fits (ring_of bytes s records rows [] 0) fit party o.seated.0 o.seated.1 honest)

  pub early : (parties_of bytes s.n records rows party).rec.view < last_view → (kept bytes s party b records rows own).rec.view < last_view
  early h = subst (λ p. p.rec.view < last_view) read h

  module _ (r : Record V) (new : List (Row V)) (same : length new ≡ length (own-rows s b rows)) where
    abbrev records' : List (Record V)
    records' = set records (party - 1) r

    abbrev rows' : List (Row V)
    rows' = put_mid b ((b + s.n) - b) rows new

    written : parties_of bytes s.n records' rows' ≡ upd (parties_of bytes s.n records rows) party (party_of bytes r new)
    written = party-written bytes s.n party b records rows r new o.seated.0 o.seated.1 o.places.0 o.places.1 o.value (same ∙ whole)

    as_many : length records' ≡ length records
    as_many = length-set records (party - 1) r

    as_wide : length rows' ≡ length rows
    as_wide = part-kept b s.n rows new (same ∙ whole) (omega (arith, o.within, o.places.1))

    -- the tables still fit
    pub still_fit : true ≡ tables_fit (ring_of bytes s records rows [] 0) → party_fits seat.n (party_of bytes r new) ≡ true → true ≡ tables_fit (ring_of bytes s records' rows' [] 0)
    still_fit fit h =
        turn_fits (ring_of bytes s records rows [] 0) party (party_of bytes r new) (parties_of bytes s.n records' rows') (length records') (length rows') fit (ap (λ n. party_fits n (party_of bytes r new)) (sym o.stands.0) ∙ h) written as_many as_wide

    -- the ring has taken the step that the party took
    pub turned : (width : ℕ) (allows : List ℕ → Bool) (t : model.Setting → ℕ → model.Party → model.Step) (waiting w : List Msg) (capacity c posts : ℕ) →
        Does (t (setting_of width allows seat) seat.me (kept bytes s party b records rows own)) (party_of bytes r new) waiting w capacity c posts →
        Gives (stepped (ring_of bytes s records rows waiting capacity) party waiting (t (setting_in width allows s) party (parties_of bytes s.n records rows party))) (said posts) (ring_of bytes s records' rows' w c)
    turned width allows t waiting w capacity c posts d =
        let p = kept bytes s party b records rows own in
        let e : t (setting_of width allows seat) seat.me p ≡ t (setting_in width allows s) party (parties_of bytes s.n records rows party) =
        ap (λ n. t (record { n = n; f = seat.f; width = width; allows = allows }) seat.me p) o.stands.0 ∙
        (ap (λ f. t (record { n = s.n; f = f; width = width; allows = allows }) seat.me p) o.stands.1 ∙
        (ap (λ i. t (setting_in width allows s) i p) o.stands.2 ∙ ap (t (setting_in width allows s) party) (sym read))) in
        record {
          answer = ap said (d.posts.answer ∙ ap (λ x. length x.posts) e);
          after = same_ring s _ _ _ _ _ _ _ _ _ _ (written ∙ ap (upd (parties_of bytes s.n records rows) party) (d.party ∙ ap (λ x. x.after) e)) as_many as_wide
              (d.posts.list ∙ ap (λ x. waiting ++ x.posts) e) d.posts.kept;
        }
