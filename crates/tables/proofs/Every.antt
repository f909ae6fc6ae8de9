-- A test that every party passes, party by party.
use Rattle.std.proofs.Common.{◌≡◌, ℕ, zero, suc, ◌+◌, ◌<◌, ◌≤◌, ◌-◌, Bool, true, false, ◌&&◌, cond, eqb, List, [], ◌∷◌, length, get_or, sym, refl, ap, ◌∙◌, inl, inr, add-one, arith}
use Rattle.std.specs.List.{list_all}
use Rattle.std.proofs.lemmas.Bool.{and_from, and_parts, and_left, and_right, cases_eq}
use Rattle.rules.specs.Bounds.{every}
use Rattle.rules.specs.Counting.{upd}

-- one party more
pub every_more : (t : ℕ → Bool) (i : ℕ) → every t i ≡ true → t (i + 1) ≡ true → every t (i + 1) ≡ true
every_more t i h e = ap (every t) (add-one i) ∙ and_from (t (suc i)) (every t i) (sym (ap t (add-one i)) ∙ e) h

-- one that fails
pub every_not : (t : ℕ → Bool) (n i : ℕ) → i < n → t (i + 1) ≡ false → every t n ≡ false
every_not t zero i l e = absurd (omega arith)
every_not t (suc n) i l e =
    elim (cases_eq i n) [
      | inl q ↦ and_left (t (suc n)) (every t n) (ap (λ j. t (suc j)) (sym q) ∙ (sym (ap t (add-one i)) ∙ e))
      | inr q ↦ and_right (t (suc n)) (every t n) (every_not t n i (let z : i < n = omega (arith, q) in z) e)
    ]

-- the same by the party's own number, counted from 1
pub every_up : (t : ℕ → Bool) (p : ℕ) → 1 ≤ p → every t (p - 1) ≡ true → t p ≡ true → every t p ≡ true
every_up t p low h e =
    let k : p - 1 + 1 ≡ p = omega arith in
    ap (every t) (sym k) ∙ every_more t (p - 1) h (ap t k ∙ e)

pub every_next : (t : ℕ → Bool) (p : ℕ) → 1 ≤ p → every t (p - 1) ≡ true → t p ≡ true → every t ((p + 1) - 1) ≡ true
every_next t p low h e =
    let n : p ≡ (p + 1) - 1 = omega arith in
    ap (every t) (sym n) ∙ every_up t p low h e

pub every_fails : (t : ℕ → Bool) (n p : ℕ) → 1 ≤ p → p ≤ n → t p ≡ false → every t n ≡ false
every_fails t n p low high e =
    let k : p - 1 + 1 ≡ p = omega arith in
    every_not t n (p - 1) (omega arith) (ap t k ∙ e)

-- the first one apart
either_order : (a b c : Bool) → (a && (b && c)) ≡ (b && (a && c))
either_order true true c = refl
either_order true false c = refl
either_order false true c = refl
either_order false false c = refl

every_front : (t : ℕ → Bool) (n : ℕ) → every t (suc n) ≡ (t 1 && every (λ j. t (suc j)) n)
every_front t zero = refl
every_front t (suc n) = ap (λ b. t (suc (suc n)) && b) (every_front t n) ∙ either_order (t (suc (suc n))) (t 1) (every (λ j. t (suc j)) n)

-- every element of a list, each by its place
pub every_listed : {X : Type 0} (p : X → Bool) (xs : List X) (t : ℕ → Bool) → ((i : ℕ) (d : X) → i < length xs → t (i + 1) ≡ p (get_or xs i d)) → list_all p xs ≡ every t (length xs)
every_listed p [] t h = refl
every_listed p (x ∷ xs) t h =
    let first : t 1 ≡ p x = h 0 x (omega arith) in
    let others : list_all p xs ≡ every (λ j. t (suc j)) (length xs) = every_listed p xs (λ j. t (suc j)) (λ i d l. let k : suc i + 1 ≡ suc (i + 1) = omega arith in ap t (sym k) ∙ h (suc i) d (omega arith)) in
    ap (λ b. b && list_all p xs) (sym first) ∙ (ap (λ b. t 1 && b) others ∙ sym (every_front t (length xs)))

-- where every one passes, one of them does
pub every_one : (t : ℕ → Bool) (n i : ℕ) → 1 ≤ i → i ≤ n → every t n ≡ true → t i ≡ true
every_one t zero i low high h = absurd (omega arith)
every_one t (suc n) i low high h =
    elim (cases_eq i (suc n)) [
      | inl q ↦ ap t q ∙ (and_parts (t (suc n)) (every t n) h).0
      | inr q ↦ every_one t n i low (let z : i ≤ n = omega (arith, q) in z) (and_parts (t (suc n)) (every t n) h).1
    ]

-- one entry changed for one that passes everywhere
module _ {X : Type 0} (t : ℕ → X → Bool) (f : ℕ → X) (i : ℕ) (x : X) (h : (j : ℕ) → t j x ≡ true) where
  either_passes : (b : Bool) (j : ℕ) → t j (f j) ≡ true → t j (cond b x (f j)) ≡ true
  either_passes true j e = h j
  either_passes false j e = e

  pub every-upd : (n : ℕ) → every (λ j. t j (f j)) n ≡ true → every (λ j. t j (upd f i x j)) n ≡ true
  every-upd zero e = refl
  every-upd (suc n) e =
      let a = and_parts (t (suc n) (f (suc n))) (every (λ j. t j (f j)) n) e in
      and_from (t (suc n) (upd f i x (suc n))) (every (λ j. t j (upd f i x j)) n) (either_passes (eqb (suc n) i) (suc n) a.0) (every-upd n a.1)
