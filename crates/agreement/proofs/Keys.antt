-- A key with the previous key: the one before that was for another value.
use Rattle.std.proofs.Common.{◌≡◌, ℕ, ◌<◌, Bool, true, false, cond, not, List, Some, None, Option, sym, refl, ◌∙◌, subst, arith}
use Rattle.std.proofs.lemmas.Bool.Decides.{nat_tests}
use Rattle.values.specs.Same.{equal}
use Rattle.values.proofs.Same.{same_from_equal, differ_from_equal}
use Rattle.rules.specs.Party.{Keyed}
use Rattle.rules.specs.Tests.{below}
use Rattle.agreement.proofs.Notes.{Still}

-- a key and its previous one, against what was said by its stage
pub record Told (log : ℕ → Option (List ℕ)) (key : Keyed) (previous : Option ℕ) : Type 0 where
  pub behind : below previous key.at ≡ true
  pub has : 0 < key.at → log key.at ≡ Some key.value
  pub other : (p : ℕ) → previous ≡ Some p → 0 < p → (y : List ℕ) × (log p ≡ Some y) × (y ≡ key.value → ⊥)

pub told_grows : (a b : ℕ → Option (List ℕ)) (key : Keyed) (previous : Option ℕ) → Still a b → Told a key previous → Told b key previous
told_grows a b key previous s t =
    record {
      behind = t.behind;
      has = λ h. let q = s key.at in let z = t.has h in grind arith;
      other = λ p e h. let o = t.other p e h in let q = s p in let z = o.1 in (o.0, grind arith, o.2);
    }

-- a key that has never moved
pub told_none : (log : ℕ → Option (List ℕ)) (x : List ℕ) → Told log (record { at = 0; value = x }) None
told_none log x = record { behind = refl; has = λ h. absurd (omega arith); other = λ p e h. absurd (let z : ◌≡◌ {A = ℕ} 0 1 = cc in omega arith) }

-- the key moves to a later view: the previous one stays with the same value, and becomes the old key with another
pub told_moved : (a b : ℕ → Option (List ℕ)) (key : Keyed) (previous : Option ℕ) (v : ℕ) (x : List ℕ) → Still a b → key.at < v → b v ≡ Some x → Told a key previous →
    Told b (record { at = v; value = x }) (cond (not (equal key.value x)) (Some key.at) previous)
told_moved a b key previous v x s lt h t = go (equal key.value x) refl
  where
    later : (o : Option ℕ) → below o key.at ≡ true → below o v ≡ true
    later None e = refl
    later (Some p) e = grind (arith, nat_tests)

    go : (c : Bool) → equal key.value x ≡ c → Told b (record { at = v; value = x }) (cond (not c) (Some key.at) previous)
    go true c =
        let q : key.value ≡ x = same_from_equal _ _ c in
        record {
          behind = later previous t.behind;
          has = λ _. h;
          other = λ p e pos. let o = t.other p e pos in let z = s p in let w = o.1 in (o.0, grind arith, λ f. o.2 (f ∙ sym q));
        }
    go false c =
        record {
          behind = grind (arith, nat_tests);
          has = λ _. h;
          other = λ p e pos.
              let e₁ : key.at ≡ p = grind arith in
              let w : a p ≡ Some key.value = subst (λ n. a n ≡ Some key.value) e₁ (t.has (omega arith)) in
              let z = s p in
              (key.value, grind arith, differ_from_equal _ _ c);
        }
