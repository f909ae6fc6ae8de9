-- Certificates: a quorum each honest member of which has said a value. Quorums enter through their laws alone.
use Rattle.std.proofs.Common.{◌≡◌, ℕ, zero, suc, ◌≤◌, Bool, true, false, not, ◌&&◌, ◌||◌, eqb, ◌⊎◌, List, Some, None, Option, refl, ◌∙◌, inl, inr, arith}
use Rattle.std.proofs.lemmas.Bool.{and_parts}
use Rattle.std.proofs.lemmas.Bool.Decides.{nat_tests}
use Rattle.values.proofs.Same.{same_from_equal, equal_self}
use Rattle.rules.specs.Party.{Setting}
use Rattle.rules.specs.Thresholds.{quorum, voucher}
use Rattle.rules.specs.Tests.{is}
use Rattle.rules.specs.Quorums.{Quorums}
use Rattle.rules.proofs.Quorums.{quorums_meet}

-- who is honest, and that quorums are lawful among them
pub record World : Type 0 where
  pub g : Setting
  pub honest : ℕ → Bool
  pub laws : Quorums g.n honest (quorum g) (voucher g)

-- every member of some quorum is faulty or has said x
pub record Cert (w : World) (p : ℕ → Option (List ℕ)) (x : List ℕ) : Type 0 where
  pub holds : quorum w.g (λ j. not (w.honest j) || is x (p j)) ≡ true

pub is_some : (x : List ℕ) (o : Option (List ℕ)) → is x o ≡ true → o ≡ Some x
is_some x None e = absurd (let z : ◌≡◌ {A = ℕ} 0 1 = grind arith in omega arith)
is_some x (Some y) e = let q : y ≡ x = same_from_equal y x e in cc

pub some_is : (x : List ℕ) (o : Option (List ℕ)) → o ≡ Some x → is x o ≡ true
some_is x o e = rw e (equal_self x)

pub none_some : {C : Type 0} {X : Type 0} (o : Option X) (x : X) → o ≡ None → o ≡ Some x → C
none_some o x a b = absurd (let z : ◌≡◌ {A = ℕ} 0 1 = cc in omega arith)

-- a member of the ring passes a test, or none does
pub find : (t : ℕ → Bool) (n : ℕ) → ((j : ℕ) × (1 ≤ j) × (j ≤ n) × (t j ≡ true)) ⊎ ((j : ℕ) → 1 ≤ j → j ≤ n → t j ≡ false)
find t zero = inr (λ j lo hi. absurd (omega arith))
find t (suc n) = go (t (suc n)) refl (find t n)
  where
    go : (b : Bool) → t (suc n) ≡ b → ((j : ℕ) × (1 ≤ j) × (j ≤ n) × (t j ≡ true)) ⊎ ((j : ℕ) → 1 ≤ j → j ≤ n → t j ≡ false) →
        ((j : ℕ) × (1 ≤ j) × (j ≤ suc n) × (t j ≡ true)) ⊎ ((j : ℕ) → 1 ≤ j → j ≤ suc n → t j ≡ false)
    go true e h = inl (suc n, omega arith, omega arith, e)
    go false e (inl h) = inl (h.0, h.1, omega (arith, h.2), h.3)
    go false e (inr h) = inr (λ j lo hi. last j lo hi (eqb j (suc n)) refl)
      where
        last : (j : ℕ) → 1 ≤ j → j ≤ suc n → (b : Bool) → eqb j (suc n) ≡ b → t j ≡ false
        last j lo hi true q = let q₁ : j ≡ suc n = grind (arith, nat_tests) in rw q₁ e
        last j lo hi false q = h j lo (grind (arith, nat_tests))

module _ (w : World) where
  -- two certificates share an honest party
  pub certs_share : (p q : ℕ → Option (List ℕ)) (x y : List ℕ) → Cert w p x → Cert w q y → (j : ℕ) × (w.honest j ≡ true) × (p j ≡ Some x) × (q j ≡ Some y)
  certs_share p q x y a b =
      let s = quorums_meet w.g.n w.honest (quorum w.g) (voucher w.g) w.laws (λ j. not (w.honest j) || is x (p j)) (λ j. not (w.honest j) || is y (q j)) a.holds b.holds in
      let h = s.3 in
      let c = s.4 in
      let d = s.5 in
      (s.0, h, is_some x _ (grind arith), is_some y _ (grind arith))

  pub cert_has : (p : ℕ → Option (List ℕ)) (x : List ℕ) → Cert w p x → (j : ℕ) × (w.honest j ≡ true) × (p j ≡ Some x)
  cert_has p x a = let s = certs_share p p x x a a in (s.0, s.1, s.2)

  -- a certificate grows with what is said
  pub cert_grows : (p q : ℕ → Option (List ℕ)) (x : List ℕ) → ((j : ℕ) → w.honest j ≡ true → (p j ≡ None) ⊎ (q j ≡ p j)) → Cert w p x → Cert w q x
  cert_grows p q x s a = record { holds = w.laws.more_quorum (λ j. not (w.honest j) || is x (p j)) (λ j. not (w.honest j) || is x (q j)) (λ j _ _ h. grows (w.honest j) (p j) (q j) (s j) h) a.holds }
    where
      grows : (b : Bool) (o t : Option (List ℕ)) → (b ≡ true → (o ≡ None) ⊎ (t ≡ o)) → (not b || is x o) ≡ true → (not b || is x t) ≡ true
      grows false o t s h = refl
      grows true o t s h = elim (s refl) [ inl z ↦ none_some o x z (is_some x o h) | inr z ↦ some_is x t (z ∙ is_some x o h) ]

  -- a quorum of entries, each of which an honest party bears out
  pub cert_from : (p q : ℕ → Option (List ℕ)) (x : List ℕ) → ((j : ℕ) → 1 ≤ j → j ≤ w.g.n → w.honest j ≡ true → p j ≡ Some x → q j ≡ Some x) →
      quorum w.g (λ j. is x (p j)) ≡ true → Cert w q x
  cert_from p q x s a = record { holds = w.laws.more_quorum (λ j. is x (p j)) (λ j. not (w.honest j) || is x (q j)) (λ j lo hi h. from (w.honest j) (p j) (q j) (s j lo hi) (is_some x (p j) h)) a }
    where
      from : (b : Bool) (o t : Option (List ℕ)) → (b ≡ true → o ≡ Some x → t ≡ Some x) → o ≡ Some x → (not b || is x t) ≡ true
      from false o t h e = refl
      from true o t h e = some_is x t (h refl e)

  -- a quorum has an honest member, and a voucher has
  pub quorum-has : (t : ℕ → Bool) → quorum w.g t ≡ true → (j : ℕ) × (w.honest j ≡ true) × (t j ≡ true)
  quorum-has t a = let s = quorums_meet w.g.n w.honest (quorum w.g) (voucher w.g) w.laws t t a a in (s.0, s.3, s.4)

  pub voucher-has : (t : ℕ → Bool) → voucher w.g t ≡ true → (j : ℕ) × (w.honest j ≡ true) × (t j ≡ true)
  voucher-has t a = let s = w.laws.one_honest t a in (s.0, s.4, s.3)

  -- a quorum is more than a voucher
  pub quorum-voucher : (t : ℕ → Bool) → quorum w.g t ≡ true → voucher w.g t ≡ true
  quorum-voucher t a = w.laws.more_voucher (λ j. t j && w.honest j) t (λ j lo hi h. (and_parts (t j) (w.honest j) h).0) (w.laws.honest_part t a)
