-- Set-up against the rules, test by test.
use Rattle.std.proofs.Common.{◌≡◌, ℕ, ◌*◌, ◌^◌, ◌<◌, ◌≤◌, Bool, true, false, cond, ◌&&◌, eqb, ltb, leb, List, map, length, Some, None, sym, refl, ap, ◌∙◌, arith}
use Rattle.std.proofs.lemmas.Bool.{and_left, and_right, and_parts, le-leb, lt-leb, leb-true, ltb-true}
use Rattle.std.proofs.lemmas.List.{length-map}
use Rattle.messages.specs.Messages.{between}
use Rattle.rules.specs.Counting.{count}
use Rattle.rules.specs.Thresholds.{sizes_fit}
use Rattle.agreement.specs.Ring.{Kind, Ring, room}
use Rattle.agreement.specs.Calls.{said, refused, Outcome, Plan, refuse, named, set_up_done, own_allowed, places_enough, set_up, Gives}
use Rattle.agreement.proofs.Obeyed.{answered}
use Rattle.setup.specs.Meaning.{plan_of}
use Rattle.setup.specs.Order.{by_order}

-- ## Sizes
pub size_parts : (n f : ℕ) → true ≡ sizes_fit n f → (1 ≤ n) × (n ≤ 64) × (3 * f < n)
size_parts n f e =
    let a = and_parts (between 1 64 n) (ltb (3 * f) n) (sym e) in
    let b = and_parts (leb 1 n) (leb n 64) a.0 in
    (leb-true 1 n b.0, leb-true n 64 b.1, ltb-true (3 * f) n a.1)

-- ## Places
module _ (n own records all rows : ℕ) where
  abbrev enough : Bool
  enough = leb n own && (leb n records && leb all rows)

  pub few-own : own < n → false ≡ enough
  few-own h = sym (and_left (leb n own) (leb n records && leb all rows) (lt-leb n own h))

  pub few-records : records < n → false ≡ enough
  few-records h = sym (and_right (leb n own) (leb n records && leb all rows) (and_left (leb n records) (leb all rows) (lt-leb n records h)))

  pub by_rows : (t : Bool) → n ≤ own → n ≤ records → t ≡ leb all rows → t ≡ enough
  by_rows t a b e = e ∙ (sym (ap (λ x. x && leb all rows) (le-leb n records b)) ∙ sym (ap (λ x. x && (leb n records && leb all rows)) (le-leb n own a)))

  pub enough_parts : true ≡ enough → (n ≤ own) × (n ≤ records) × (all ≤ rows)
  enough_parts e =
      let a = and_parts (leb n own) (leb n records && leb all rows) (sym e) in
      let b = and_parts (leb n records) (leb all rows) a.1 in
      (leb-true n own a.0, leb-true n records b.0, leb-true all rows b.1)

-- ## The order of the tests
module _ (k : Kind) (p : Plan) (s : Ring) where
  abbrev by_tests : Bool → Bool → Bool → Bool → Bool → Bool → Bool → Outcome
  by_tests a b c d e f g =
      cond a (cond b (cond c (cond d (cond e (cond f (cond g (set_up_done k p s) (refuse s 10)) (refuse s 11)) (refuse s 5)) (refuse s 4)) (refuse s 3)) (refuse s 2)) (refuse s 1)

  abbrev t1 : Bool
  t1 = sizes_fit p.n p.f

  abbrev t2 : Bool
  t2 = ltb p.word (2 ^ p.n)

  abbrev t3 : Bool
  t3 = leb (count (named p.word) p.n) p.f

  abbrev t4 : Bool
  t4 = places_enough k p s

  abbrev t5 : Bool
  t5 = own_allowed k p

  abbrev t6 : Bool
  t6 = eqb (length s.wire) 0

  abbrev t7 : Bool
  t7 = leb (p.n * p.n) (room s)

  whole : set_up k p s ≡ by_tests t1 t2 t3 t4 t5 t6 t7
  unfolding set_up
  whole = refl

  refusing : (number : ℕ) → set_up k p s ≡ refuse s number → Gives (set_up k p s) (refused number) s
  refusing number e = record { answer = sym (ap (λ o. o.answer) e); after = sym (ap (λ o. o.after) e) }

  pub refuse_1 : false ≡ t1 → Gives (set_up k p s) (refused 1) s
  refuse_1 a = refusing 1 (whole ∙ ap (λ x. by_tests x t2 t3 t4 t5 t6 t7) (sym a))

  module _ (a : true ≡ t1) where
    past_1 : set_up k p s ≡ by_tests true t2 t3 t4 t5 t6 t7
    past_1 = whole ∙ ap (λ x. by_tests x t2 t3 t4 t5 t6 t7) (sym a)

    pub refuse_2 : false ≡ t2 → Gives (set_up k p s) (refused 2) s
    refuse_2 b = refusing 2 (past_1 ∙ ap (λ x. by_tests true x t3 t4 t5 t6 t7) (sym b))

    module _ (b : true ≡ t2) where
      past_2 : set_up k p s ≡ by_tests true true t3 t4 t5 t6 t7
      past_2 = past_1 ∙ ap (λ x. by_tests true x t3 t4 t5 t6 t7) (sym b)

      pub refuse_3 : false ≡ t3 → Gives (set_up k p s) (refused 3) s
      refuse_3 c = refusing 3 (past_2 ∙ ap (λ x. by_tests true true x t4 t5 t6 t7) (sym c))

      module _ (c : true ≡ t3) where
        past_3 : set_up k p s ≡ by_tests true true true t4 t5 t6 t7
        past_3 = past_2 ∙ ap (λ x. by_tests true true x t4 t5 t6 t7) (sym c)

        pub refuse_4 : false ≡ t4 → Gives (set_up k p s) (refused 4) s
        refuse_4 d = refusing 4 (past_3 ∙ ap (λ x. by_tests true true true x t5 t6 t7) (sym d))

        module _ (d : true ≡ t4) where
          past_4 : set_up k p s ≡ by_tests true true true true t5 t6 t7
          past_4 = past_3 ∙ ap (λ x. by_tests true true true x t5 t6 t7) (sym d)

          pub refuse_5 : false ≡ t5 → Gives (set_up k p s) (refused 5) s
          refuse_5 e = refusing 5 (past_4 ∙ ap (λ x. by_tests true true true true x t6 t7) (sym e))

          module _ (e : true ≡ t5) where
            past_5 : set_up k p s ≡ by_tests true true true true true t6 t7
            past_5 = past_4 ∙ ap (λ x. by_tests true true true true x t6 t7) (sym e)

            pub refuse_11 : false ≡ t6 → Gives (set_up k p s) (refused 11) s
            refuse_11 f = refusing 11 (past_5 ∙ ap (λ x. by_tests true true true true true x t7) (sym f))

            module _ (f : true ≡ t6) where
              past_6 : set_up k p s ≡ by_tests true true true true true true t7
              past_6 = past_5 ∙ ap (λ x. by_tests true true true true true x t7) (sym f)

              pub refuse_10 : false ≡ t7 → Gives (set_up k p s) (refused 10) s
              refuse_10 g = refusing 10 (past_6 ∙ ap (by_tests true true true true true true) (sym g))

              pub accept : (s' : Ring) → true ≡ t7 → s' ≡ (set_up_done k p s).after → Gives (set_up k p s) (said 0) s'
              accept s' g q =
                  let o : set_up k p s ≡ set_up_done k p s = past_6 ∙ ap (by_tests true true true true true true) (sym g) in
                  record { answer = sym (ap (λ o. o.answer) o); after = q ∙ sym (ap (λ o. o.after) o) }

  -- ## What an inspection tells of the plan
  pub record Inspected (named few places owns vacant roomy : Bool) : Type 0 where
    pub by_names : named ≡ t2
    pub by_count : few ≡ t3
    pub by_places : places ≡ t4
    pub by_values : true ≡ t4 → owns ≡ t5
    pub by_wire : vacant ≡ t6
    pub by_room : roomy ≡ t7

  -- the first test that fails
  pub plan_refused : true ≡ t1 → (a b c d e f : Bool) (number : ℕ) → Inspected a b c d e f → Some number ≡ by_order a b c d e f → Gives (set_up k p s) (refused number) s
  plan_refused z false b c d e f number i h = let q : number ≡ 2 = cc in answered number 2 q (refuse_2 z i.by_names)
  plan_refused z true false c d e f number i h = let q : number ≡ 3 = cc in answered number 3 q (refuse_3 z i.by_names i.by_count)
  plan_refused z true true false d e f number i h = let q : number ≡ 4 = cc in answered number 4 q (refuse_4 z i.by_names i.by_count i.by_places)
  plan_refused z true true true false e f number i h = let q : number ≡ 5 = cc in answered number 5 q (refuse_5 z i.by_names i.by_count i.by_places (i.by_values i.by_places))
  plan_refused z true true true true false f number i h =
      let q : number ≡ 11 = cc in answered number 11 q (refuse_11 z i.by_names i.by_count i.by_places (i.by_values i.by_places) i.by_wire)
  plan_refused z true true true true true false number i h =
      let q : number ≡ 10 = cc in answered number 10 q (refuse_10 z i.by_names i.by_count i.by_places (i.by_values i.by_places) i.by_wire i.by_room)
  plan_refused z true true true true true true number i h = absurd (let q : ◌≡◌ {A = ℕ} 0 1 = cc in omega arith)

  -- where none fails all hold
  pub record Fitting : Type 0 where
    pub names : true ≡ t2
    pub liars : true ≡ t3
    pub places : true ≡ t4
    pub values : true ≡ t5
    pub wire : true ≡ t6
    pub space : true ≡ t7

  pub plan_free : (a b c d e f : Bool) → Inspected a b c d e f → None ≡ by_order a b c d e f → Fitting
  plan_free false b c d e f i h = absurd (let q : ◌≡◌ {A = ℕ} 0 1 = cc in omega arith)
  plan_free true false c d e f i h = absurd (let q : ◌≡◌ {A = ℕ} 0 1 = cc in omega arith)
  plan_free true true false d e f i h = absurd (let q : ◌≡◌ {A = ℕ} 0 1 = cc in omega arith)
  plan_free true true true false e f i h = absurd (let q : ◌≡◌ {A = ℕ} 0 1 = cc in omega arith)
  plan_free true true true true false f i h = absurd (let q : ◌≡◌ {A = ℕ} 0 1 = cc in omega arith)
  plan_free true true true true true false i h = absurd (let q : ◌≡◌ {A = ℕ} 0 1 = cc in omega arith)
  plan_free true true true true true true i h =
      record { names = i.by_names; liars = i.by_count; places = i.by_places; values = i.by_values i.by_places; wire = i.by_wire; space = i.by_room }

-- what the code's tests tell of the plan with these own values
module _ {V : Type 0} (bytes : V → List ℕ) (own : List V) (n f word : ℕ) (k : Kind) (s : Ring) where
  abbrev given : Plan
  given = plan_of bytes n f word own

  abbrev places_by : ℕ → Bool
  places_by j = leb n j && (leb n s.records && leb (n * n) s.rows)

  pub inspected : (a b c d e g : Bool) → a ≡ t2 k given s → b ≡ t3 k given s → c ≡ places_by (length own) → (n ≤ length own → d ≡ t5 k given s) → e ≡ t6 k given s → g ≡ t7 k given s →
      Inspected k given s a b c d e g
  inspected a b c d e g pa pb pc pd pe pg =
      let l : length (map bytes own) ≡ length own = length-map own bytes in
      record {
        by_names = pa;
        by_count = pb;
        by_places = pc ∙ ap places_by (sym l);
        by_values = λ h. pd (enough_parts n (length own) s.records (n * n) s.rows (h ∙ ap places_by l)).0;
        by_wire = pe;
        by_room = pg;
      }
