-- The first steps of the parties from 1 to i.
use Rattle.std.proofs.Common.{◌≡◌, ℕ, zero, suc, ◌+◌, ◌-◌, ◌*◌, ◌<◌, ◌≤◌, Bool, true, false, cond, not, ◌&&◌, leb, List, [], ◌++◌, map, length, get_or, sym, refl, ap, ◌∙◌, inl, inr, mul-le-mul_right, suc-mul, arith}
use mathlib.Core.Path.{fun_ext}
use Rattle.std.proofs.lemmas.List.{get_or-map, append-nil, append_assoc, length-append}
use Rattle.std.proofs.lemmas.Bool.{cases_eq, cases_lt, eq-eqb, ne_eqb, le-leb, lt-leb}
use Rattle.messages.specs.Messages.{Msg, between}
use Rattle.rules.specs.Counting.{upd}
use Rattle.rules.specs.Party.{Party}
use Rattle.views.proofs.Newcomers.{first_posts as first-length}
use Rattle.agreement.specs.Ring.{Kind, Ring, setting}
use Rattle.agreement.specs.Calls.{Plan, named, own_of, planned, first_step, first_posts, stepped, set_up_done}

-- the own value of a party, as the code reads it
pub own-from : {V : Type 0} (bytes : V → List ℕ) (own : List V) (party : ℕ) (v : V) → 1 ≤ party → party ≤ length own → v ≡ get_or own (party - 1) v →
    own_of (map bytes own) party ≡ bytes v
own-from bytes own zero v low high e = absurd (omega arith)
own-from bytes own (suc i) v low high e =
    let z : suc i - 1 ≡ i = omega arith in
    get_or-map bytes own i v [] (omega arith) ∙ ap bytes (sym (e ∙ ap (λ j. get_or own j v) z))

-- ## Numbers from 1 to i
and_false : (b : Bool) → (b && false) ≡ false
and_false true = refl
and_false false = refl

between_none : (j : ℕ) → between 1 0 j ≡ false
between_none zero = refl
between_none (suc j) = ap (λ b. leb 1 (suc j) && b) (lt-leb (suc j) 0 (omega arith)) ∙ and_false (leb 1 (suc j))

between_last : (i : ℕ) → between 1 (suc i) (suc i) ≡ true
between_last i = ap (λ b. b && leb (suc i) (suc i)) (le-leb 1 (suc i) (omega arith)) ∙ le-leb (suc i) (suc i) (omega arith)

same_leb : (i j : ℕ) → (j ≡ suc i → ⊥) → leb j (suc i) ≡ leb j i
same_leb i j q =
    elim (cases_lt i j) [
      | inl l ↦ lt-leb j (suc i) (let z : suc i < j = omega (arith, q, l) in z) ∙ sym (lt-leb j i l)
      | inr l ↦ le-leb j (suc i) (omega (arith, l)) ∙ sym (le-leb j i l)
    ]

between_more : (i j : ℕ) → (j ≡ suc i → ⊥) → between 1 (suc i) j ≡ between 1 i j
between_more i j q = ap (λ b. leb 1 j && b) (same_leb i j q)

module _ (k : Kind) (p : Plan) (s : Ring) where
  -- the parties as they stand once those from 1 to i have entered
  abbrev pub entered : ℕ → ℕ → Party
  entered i j = cond (between 1 i j && not (named p.word j)) (first_step k p s j).after (s.parties j)

  abbrev pub over : (ℕ → Party) → List Msg → Ring
  over parties wire =
      record {
        n = p.n;
        f = p.f;
        faulty = named p.word;
        parties = parties;
        records = s.records;
        rows = s.rows;
        wire = wire;
        capacity = s.capacity;
      }

  abbrev pub up_to : ℕ → Ring
  up_to i = over (entered i) (s.wire ++ first_posts k p s i)

  none-entered : (j : ℕ) → s.parties j ≡ entered 0 j
  none-entered j = sym (ap (λ b. cond (b && not (named p.word j)) (first_step k p s j).after (s.parties j)) (between_none j))

  pub up_to_none : planned k p s ≡ up_to 0
  unfolding first_posts
  up_to_none = ap (λ t. over t s.wire) (fun_ext none-entered) ∙ ap (over (entered 0)) (sym (append-nil s.wire))

  -- ## One party more
  posts_more : (i : ℕ) (b : Bool) → named p.word (suc i) ≡ b → first_posts k p s (suc i) ≡ first_posts k p s i ++ cond b [] (first_step k p s (suc i)).posts
  unfolding first_posts
  posts_more i b e = ap (λ b. first_posts k p s i ++ cond b [] (first_step k p s (suc i)).posts) e

  other : (i j : ℕ) → (j ≡ suc i → ⊥) → entered i j ≡ entered (suc i) j
  other i j q = sym (ap (λ b. cond (b && not (named p.word j)) (first_step k p s j).after (s.parties j)) (between_more i j q))

  honest-at : (i : ℕ) → named p.word (suc i) ≡ false → (j : ℕ) → upd (entered i) (suc i) (first_step k p s (suc i)).after j ≡ entered (suc i) j
  honest-at i e j =
      elim (cases_eq j (suc i)) [
        | inl q ↦
            ap (λ b. cond b (first_step k p s (suc i)).after (entered i j)) (eq-eqb j (suc i) q) ∙
            sym (ap (entered (suc i)) q ∙ (ap (λ b. cond (b && not (named p.word (suc i))) (first_step k p s (suc i)).after (s.parties (suc i))) (between_last i) ∙
            ap (λ b. cond (not b) (first_step k p s (suc i)).after (s.parties (suc i))) e))
        | inr q ↦ ap (λ b. cond b (first_step k p s (suc i)).after (entered i j)) (ne_eqb j (suc i) q) ∙ other i j q
      ]

  faulty-at : (i : ℕ) → named p.word (suc i) ≡ true → (j : ℕ) → entered i j ≡ entered (suc i) j
  faulty-at i e j =
      elim (cases_eq j (suc i)) [
        | inl q ↦
            ap (entered i) q ∙ (ap (λ b. cond (between 1 i (suc i) && not b) (first_step k p s (suc i)).after (s.parties (suc i))) e ∙
            (ap (λ b. cond b (first_step k p s (suc i)).after (s.parties (suc i))) (and_false (between 1 i (suc i)) ∙ sym (and_false (between 1 (suc i) (suc i)))) ∙
            sym (ap (entered (suc i)) q ∙ ap (λ b. cond (between 1 (suc i) (suc i) && not b) (first_step k p s (suc i)).after (s.parties (suc i))) e)))
        | inr q ↦ other i j q
      ]

  honest_more : (i : ℕ) (t s' : Ring) → t ≡ up_to i → named p.word (suc i) ≡ false → s' ≡ (stepped t (suc i) t.wire (first_step k p s (suc i))).after → s' ≡ up_to (suc i)
  honest_more i t s' e h q =
      q ∙ (ap (λ t. (stepped t (suc i) t.wire (first_step k p s (suc i))).after) e ∙
      (ap (λ u. over u ((s.wire ++ first_posts k p s i) ++ (first_step k p s (suc i)).posts)) (fun_ext (honest-at i h)) ∙
      ap (over (entered (suc i))) (append_assoc s.wire (first_posts k p s i) (first_step k p s (suc i)).posts ∙ ap (λ l. s.wire ++ l) (sym (posts_more i false h)))))

  faulty_more : (i : ℕ) (t : Ring) → t ≡ up_to i → named p.word (suc i) ≡ true → t ≡ up_to (suc i)
  faulty_more i t e h =
      e ∙ (ap (λ u. over u (s.wire ++ first_posts k p s i)) (fun_ext (faulty-at i h)) ∙
      ap (λ l. over (entered (suc i)) (s.wire ++ l)) (sym (posts_more i true h ∙ append-nil (first_posts k p s i))))

  -- the same by the party's own number, counted from 1
  pub up_to_honest : (party : ℕ) (t s' : Ring) → 1 ≤ party → t ≡ up_to (party - 1) → named p.word party ≡ false → s' ≡ (stepped t party t.wire (first_step k p s party)).after → s' ≡ up_to party
  up_to_honest zero t s' low e h q = absurd (omega arith)
  up_to_honest (suc i) t s' low e h q = let back : suc i - 1 ≡ i = omega arith in honest_more i t s' (e ∙ ap up_to back) h q

  pub up_to_faulty : (party : ℕ) (t : Ring) → 1 ≤ party → t ≡ up_to (party - 1) → named p.word party ≡ true → t ≡ up_to party
  up_to_faulty zero t low e h = absurd (omega arith)
  up_to_faulty (suc i) t low e h = let back : suc i - 1 ≡ i = omega arith in faulty_more i t (e ∙ ap up_to back) h

  pub up_to_next : (party : ℕ) → up_to party ≡ up_to ((party + 1) - 1)
  up_to_next party = let on : party ≡ (party + 1) - 1 = omega arith in ap up_to on

  -- ## Room for the next
  some_posts : (i : ℕ) (b : Bool) → length (cond b [] (first_step k p s i).posts) ≤ p.n
  some_posts i true = omega arith
  some_posts i false = let e : length (first_step k p s i).posts ≡ p.n = first-length (setting k (planned k p s)) i (own_of p.own i) in omega (arith, e)

  posts-few : (i : ℕ) → length (first_posts k p s i) ≤ i * p.n
  unfolding first_posts
  posts-few zero = omega arith
  posts-few (suc i) =
      let b = named p.word (suc i) in
      omega (arith, posts-few i, some_posts (suc i) b, length-append (first_posts k p s i) (cond b [] (first_step k p s (suc i)).posts), suc-mul i p.n)

  room_more : (i : ℕ) (t : Ring) → t ≡ up_to i → i < p.n → length s.wire + p.n * p.n ≤ s.capacity → length t.wire + p.n ≤ t.capacity
  room_more i t e h room =
      let a : length t.wire ≡ length (s.wire ++ first_posts k p s i) = ap (λ t. length t.wire) e in
      let b : t.capacity ≡ s.capacity = ap (λ t. t.capacity) e in
      omega (arith, a, b, room, posts-few i, length-append s.wire (first_posts k p s i), mul-le-mul_right p.n h, suc-mul i p.n)

  pub room_for_next : (party : ℕ) (t : Ring) → 1 ≤ party → party ≤ p.n → t ≡ up_to (party - 1) → length s.wire + p.n * p.n ≤ s.capacity → length t.wire + p.n ≤ t.capacity
  room_for_next party t low high e room = room_more (party - 1) t e (omega arith) room

-- ## The sizes and the liars that stood before do not matter
same_posts : (k : Kind) (p : Plan) (s t : Ring) (i : ℕ) → first_posts k p t i ≡ first_posts k p s i
unfolding first_posts
same_posts k p s t zero = refl
same_posts k p s t (suc i) = ap (λ l. l ++ cond (named p.word (suc i)) [] (first_step k p s (suc i)).posts) (same_posts k p s t i)

abbrev pub resized : Ring → ℕ → ℕ → (ℕ → Bool) → Ring
resized s n f faulty =
    record { n = n; f = f; faulty = faulty; parties = s.parties; records = s.records; rows = s.rows; wire = s.wire; capacity = s.capacity }

pub done_same : (k : Kind) (p : Plan) (s : Ring) (n f : ℕ) (faulty : ℕ → Bool) → (set_up_done k p (resized s n f faulty)).after ≡ (set_up_done k p s).after
done_same k p s n f faulty = ap (λ l. over k p s (entered k p s p.n) (s.wire ++ l)) (same_posts k p s (resized s n f faulty) p.n)
