-- Tables that fit a ring.
use Rattle.std.proofs.Common.{◌≡◌, ℕ, ◌*◌, ◌<◌, ◌≤◌, Bool, true, false, ◌&&◌, ◌||◌, leb, sym, refl, ap, ◌∙◌}
use Rattle.std.proofs.lemmas.Bool.{and_left, and_right, and_parts, le-leb, lt-leb, leb-true}
use Rattle.rules.specs.Bounds.{every, party_fits}
use Rattle.rules.specs.Counting.{upd}
use Rattle.rules.specs.Party.{Party}
use Rattle.agreement.specs.Ring.{Ring, tables_fit}
use Rattle.tables.proofs.Every.{every_one, every-upd}

-- every honest party within its bounds
abbrev within_bounds : Ring → Bool
within_bounds s = every (λ i. s.faulty i || party_fits s.n (s.parties i)) s.n

fitted : (s : Ring) (t : Bool) → s.n ≤ s.records → s.n * s.n ≤ s.rows → t ≡ within_bounds s → t ≡ tables_fit s
fitted s t h l e =
    e ∙ (sym (ap (λ y. y && within_bounds s) (le-leb (s.n * s.n) s.rows l)) ∙ sym (ap (λ y. y && (leb (s.n * s.n) s.rows && within_bounds s)) (le-leb s.n s.records h)))

module _ (s : Ring) where
  abbrev in_bounds : Bool
  in_bounds = within_bounds s

  pub few-records : s.records < s.n → false ≡ tables_fit s
  few-records h = sym (and_left (leb s.n s.records) (leb (s.n * s.n) s.rows && in_bounds) (lt-leb s.n s.records h))

  pub few-rows : s.rows < s.n * s.n → false ≡ tables_fit s
  few-rows h =
      sym (and_right (leb s.n s.records) (leb (s.n * s.n) s.rows && in_bounds) (and_left (leb (s.n * s.n) s.rows) in_bounds (lt-leb (s.n * s.n) s.rows h)))

  pub all_fit : (t : Bool) → s.n ≤ s.records → s.n * s.n ≤ s.rows → t ≡ in_bounds → t ≡ tables_fit s
  all_fit = fitted s

  -- what tables that fit give
  pub records_enough : true ≡ tables_fit s → s.n ≤ s.records
  records_enough h = leb-true s.n s.records (and_parts (leb s.n s.records) (leb (s.n * s.n) s.rows && in_bounds) (sym h)).0

  pub rows_enough : true ≡ tables_fit s → s.n * s.n ≤ s.rows
  rows_enough h =
      leb-true (s.n * s.n) s.rows
      (and_parts (leb (s.n * s.n) s.rows) in_bounds (and_parts (leb s.n s.records) (leb (s.n * s.n) s.rows && in_bounds) (sym h)).1).0

  -- every honest party lies within its bounds
  pub all_within : true ≡ tables_fit s → in_bounds ≡ true
  all_within h =
      (and_parts (leb (s.n * s.n) s.rows) in_bounds (and_parts (leb s.n s.records) (leb (s.n * s.n) s.rows && in_bounds) (sym h)).1).1

  pub one_fits : true ≡ tables_fit s → (i : ℕ) → 1 ≤ i → i ≤ s.n → false ≡ s.faulty i → party_fits s.n (s.parties i) ≡ true
  one_fits h i low high f =
      let o : (s.faulty i || party_fits s.n (s.parties i)) ≡ true = every_one (λ j. s.faulty j || party_fits s.n (s.parties j)) s.n i low high (all_within h) in
      ap (λ b. b || party_fits s.n (s.parties i)) f ∙ o

  either_way : (b : Bool) → (b || true) ≡ true
  either_way true = refl
  either_way false = refl

  -- tables that fit still do after the turn of a party that ends within its bounds
  pub turn_fits : (i : ℕ) (p : Party) (parties : ℕ → Party) (records rows : ℕ) → true ≡ tables_fit s → party_fits s.n p ≡ true →
      parties ≡ upd s.parties i p → records ≡ s.records → rows ≡ s.rows →
      true ≡ tables_fit (record { n = s.n; f = s.f; faulty = s.faulty; parties = parties; records = records; rows = rows; wire = s.wire; capacity = s.capacity })
  turn_fits i p parties records rows fit h e a b =
      let t : ℕ → Party → Bool = λ j q. s.faulty j || party_fits s.n q in
      let k : (j : ℕ) → t j p ≡ true = λ j. ap (λ y. s.faulty j || y) h ∙ either_way (s.faulty j) in
      let z = every-upd t s.parties i p k s.n (all_within fit) in
      let v : true ≡ tables_fit (record { n = s.n; f = s.f; faulty = s.faulty; parties = upd s.parties i p; records = s.records; rows = s.rows; wire = s.wire; capacity = s.capacity }) =
      fitted (record { n = s.n; f = s.f; faulty = s.faulty; parties = upd s.parties i p; records = s.records; rows = s.rows; wire = s.wire; capacity = s.capacity }) true (records_enough fit) (rows_enough fit) (sym z) in
      v ∙ (ap (λ x. tables_fit (record { n = s.n; f = s.f; faulty = s.faulty; parties = x; records = s.records; rows = s.rows; wire = s.wire; capacity = s.capacity })) (sym e) ∙
      (ap (λ x. tables_fit (record { n = s.n; f = s.f; faulty = s.faulty; parties = parties; records = x; rows = s.rows; wire = s.wire; capacity = s.capacity })) (sym a) ∙
      ap (λ x. tables_fit (record { n = s.n; f = s.f; faulty = s.faulty; parties = parties; records = records; rows = x; wire = s.wire; capacity = s.capacity })) (sym b)))
