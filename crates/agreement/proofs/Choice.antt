-- What keys, suggests and proofs leave out of all that was said, what stands behind an offer, and why a proposal was dropped.
use Rattle.std.proofs.Common.{◌≡◌, ℕ, zero, suc, ◌<◌, ◌≤◌, Bool, true, false, cond, not, ◌&&◌, ◌||◌, ltb, leb, ◌⊎◌, List, Some, None, Option, sym, refl, ◌∙◌, subst, inl, inr, arith}
use Rattle.std.proofs.lemmas.Bool.{cases_lt, leb-true, le-leb, ltb-true, both_ways}
use Rattle.std.proofs.lemmas.Bool.Decides.{nat_tests}
use Rattle.values.specs.Same.{equal}
use Rattle.rules.specs.Party.{Setting, Keyed, Suggest, Proof, Party}
use Rattle.rules.specs.Tests.{below, up_to, opens, bears_out, accepts, accepted, higher, best}
use Rattle.values.proofs.Same.{same_from_equal, equal-from}

-- a key with its previous one covers all that was said by its stage before view w: said no later than the previous key, or the key's value no later than the key
pub record Covers (log : ℕ → Option (List ℕ)) (w : ℕ) (key : Keyed) (previous : Option ℕ) : Type 0 where
  pub each : (v : ℕ) (x : List ℕ) → v < w → log v ≡ Some x → (up_to v previous ≡ true) ⊎ ((v ≤ key.at) × (key.value ≡ x))

-- the same of all views
pub record CoversAll (log : ℕ → Option (List ℕ)) (key : Keyed) (previous : Option ℕ) : Type 0 where
  pub each : (v : ℕ) (x : List ℕ) → log v ≡ Some x → (up_to v previous ≡ true) ⊎ ((v ≤ key.at) × (key.value ≡ x))

up_to_below : (v at : ℕ) (o : Option ℕ) → up_to v o ≡ true → below o at ≡ true → v ≤ at
up_to_below v at None a b = absurd (let z : ◌≡◌ {A = ℕ} 0 1 = grind arith in omega arith)
up_to_below v at (Some p) a b = let x = leb-true v p a in let y = ltb-true p at b in omega arith

-- the key moves to view w for y
pub covers_moved : (log : ℕ → Option (List ℕ)) (key : Keyed) (previous : Option ℕ) (w : ℕ) (y : List ℕ) → below previous key.at ≡ true → key.at < w → CoversAll log key previous →
    (v : ℕ) (x : List ℕ) → log v ≡ Some x →
    (up_to v (cond (not (equal key.value y)) (Some key.at) previous) ≡ true) ⊎ ((v ≤ w) × (y ≡ x))
covers_moved log key previous w y b l c v x h = go (equal key.value y) refl (c.each v x h)
  where
    go : (t : Bool) → equal key.value y ≡ t → (up_to v previous ≡ true) ⊎ ((v ≤ key.at) × (key.value ≡ x)) →
        (up_to v (cond (not t) (Some key.at) previous) ≡ true) ⊎ ((v ≤ w) × (y ≡ x))
    go true e (inl z) = inl z
    go true e (inr z) = let u = z.0 in inr (omega arith, sym (same_from_equal _ _ e) ∙ z.1)
    go false e (inl z) = inl (le-leb _ _ (up_to_below v key.at previous z b))
    go false e (inr z) = inl (le-leb _ _ z.0)

-- ## A key that covers what was said opens locks, and bears out keys
pub opens_by : (log : ℕ → Option (List ℕ)) (w : ℕ) (pf : Proof) (v : ℕ) (x : List ℕ) (lock : Keyed) → below pf.previous pf.key1.at ≡ true → pf.key1.at < w → Covers log w pf.key1 pf.previous →
    v < w → log v ≡ Some x → lock.at ≤ v → equal x lock.value ≡ false → opens w lock pf ≡ true
opens_by log w pf v x lock b l c lt h le ne = go pf.previous b (c.each v x lt h)
  where
    go : (o : Option ℕ) → below o pf.key1.at ≡ true → (up_to v o ≡ true) ⊎ ((v ≤ pf.key1.at) × (pf.key1.value ≡ x)) →
        ((below o pf.key1.at && ltb pf.key1.at w) && (up_to lock.at o || (leb lock.at pf.key1.at && not (equal pf.key1.value lock.value)))) ≡ true
    go None b (inl z) = absurd (let y : ◌≡◌ {A = ℕ} 0 1 = grind arith in omega arith)
    go (Some p) b (inl z) = grind (arith, nat_tests)
    go None b (inr z) = let u = z.0 in let q = z.1 in let n : equal pf.key1.value lock.value ≡ false = rw q ne in grind (arith, nat_tests)
    go (Some p) b (inr z) = let u = z.0 in let q = z.1 in let n : equal pf.key1.value lock.value ≡ false = rw q ne in grind (arith, nat_tests)

pub bears_by : (log : ℕ → Option (List ℕ)) (w : ℕ) (s : Suggest) (v : ℕ) (x : List ℕ) → below s.previous s.key2.at ≡ true → s.key2.at < w → Covers log w s.key2 s.previous →
    v < w → log v ≡ Some x → bears_out w (record { at = v; value = x }) s ≡ true
bears_by log w s v x b l c lt h = go s.previous b (c.each v x lt h)
  where
    go : (o : Option ℕ) → below o s.key2.at ≡ true → (up_to v o ≡ true) ⊎ ((v ≤ s.key2.at) × (s.key2.value ≡ x)) →
        ((below o s.key2.at && ltb s.key2.at w) && (up_to v o || (leb v s.key2.at && equal s.key2.value x))) ≡ true
    go None b (inl z) = absurd (let y : ◌≡◌ {A = ℕ} 0 1 = grind arith in omega arith)
    go (Some p) b (inl z) = grind (arith, nat_tests)
    go None b (inr z) = let u = z.0 in let q = z.1 in let n : equal s.key2.value x ≡ true = equal-from _ _ q in grind (arith, nat_tests)
    go (Some p) b (inr z) = let u = z.0 in let q = z.1 in let n : equal s.key2.value x ≡ true = equal-from _ _ q in grind (arith, nat_tests)

-- ## The suggest that is followed
module _ (g : Setting) (p : Party) where
  -- the key3 of a stored suggest, 0 where there is none
  abbrev pub key3_of : Option Suggest → ℕ
  key3_of None = 0
  key3_of (Some s) = s.key3.at

  pub record Chosen (n : ℕ) (o : Option Suggest) : Type 0 where
    pub from : (s : Suggest) → o ≡ Some s → accepts g p (Some s) ≡ true
    pub most : (j : ℕ) → 1 ≤ j → j ≤ n → accepted g p j ≡ true → key3_of (p.rows j).suggest ≤ key3_of o

  higher-from : (a b : Option Suggest) (s : Suggest) → higher g a b ≡ Some s → (a ≡ Some s) ⊎ (b ≡ Some s)
  higher-from None b s e = inr e
  higher-from (Some a) None s e = inl e
  higher-from (Some a) (Some b) s e = go (ltb a.key3.at b.key3.at) e
    where
      go : (t : Bool) → cond t (Some b) (Some a) ≡ Some s → (◌≡◌ {A = Option Suggest} (Some a) (Some s)) ⊎ (◌≡◌ {A = Option Suggest} (Some b) (Some s))
      go true e = inr e
      go false e = inl e

  higher_most : (a b : Option Suggest) → (key3_of a ≤ key3_of (higher g a b)) × (key3_of b ≤ key3_of (higher g a b))
  higher_most None b = (omega arith, omega arith)
  higher_most (Some a) None = (omega arith, omega arith)
  higher_most (Some a) (Some b) = (grind (arith, nat_tests), grind (arith, nat_tests))

  pub best_chosen : (n : ℕ) → Chosen n (best g p n)
  best_chosen zero = record { from = λ s e. absurd (let z : ◌≡◌ {A = ℕ} 0 1 = cc in omega arith); most = λ j a b. absurd (omega arith) }
  best_chosen (suc n) = go (accepted g p (suc n)) refl (best_chosen n)
    where
      last : (j : ℕ) → j ≤ suc n → (j ≤ n → ⊥) → suc n ≡ j
      last j a b = elim (cases_lt n j) [ inl l ↦ omega arith | inr l ↦ absurd (b l) ]

      go : (t : Bool) → accepted g p (suc n) ≡ t → Chosen n (best g p n) → Chosen (suc n) (cond t (higher g (best g p n) (p.rows (suc n)).suggest) (best g p n))
      go true e c =
          record {
            from = λ s h. elim (higher-from (best g p n) (p.rows (suc n)).suggest s h) [
              | inl z ↦ c.from s z
              | inr z ↦ subst (λ o. accepts g p o ≡ true) z e
            ];
            most = λ j lo hi a. let m = higher_most (best g p n) (p.rows (suc n)).suggest in
                elim (cases_lt n j) [
                  | inl l ↦ let q : suc n ≡ j = omega arith in subst (λ i. key3_of (p.rows i).suggest ≤ key3_of (higher g (best g p n) (p.rows (suc n)).suggest)) q m.1
                  | inr l ↦ let o = c.most j lo l a in let x = m.0 in omega arith
                ];
          }
      go false e c =
          record {
            from = c.from;
            most = λ j lo hi a. elim (cases_lt n j) [
              | inl l ↦ absurd (let q : suc n ≡ j = omega arith in both_ways _ e (subst (λ i. accepted g p i ≡ true) (sym q) a))
              | inr l ↦ c.most j lo l a
            ];
          }
