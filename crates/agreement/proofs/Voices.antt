-- Words of the honest parties: a quorum of which each honest member has said x, and what two such quorums share.
use Rattle.std.proofs.Common.{◌≡◌, ℕ, Bool, true, not, ◌&&◌, ◌||◌, List, Some, Option, arith}
use Rattle.std.proofs.lemmas.Bool.{and_parts}
use Rattle.rules.specs.Party.{Setting}
use Rattle.rules.specs.Thresholds.{quorum, voucher}
use Rattle.rules.specs.Tests.{is}
use Rattle.rules.specs.Quorums.{Quorums}
use Rattle.rules.proofs.Quorums.{quorums_meet}
use Rattle.agreement.proofs.World.{is_some, some_is}

module _ (g : Setting) (hon : ℕ → Bool) where
  -- a quorum, each honest member of which has said x
  abbrev pub Voiced : (ℕ → Option (List ℕ)) → List ℕ → Type 0
  Voiced said x = quorum g (λ j. not (hon j) || is x (said j)) ≡ true

  -- a party that is honest, and has said x
  abbrev pub Voice : (ℕ → Option (List ℕ)) → List ℕ → Type 0
  Voice said x = (j : ℕ) × (hon j ≡ true) × (said j ≡ Some x)

  module _ (laws : Quorums g.n hon (quorum g) (voucher g)) where
    -- a test that holds for every honest member, at an honest member
    pub of_honest : (b t : Bool) → b ≡ true → (not b || t) ≡ true → t ≡ true
    of_honest b t e h = grind arith

    pub voices_meet : (p q : ℕ → Option (List ℕ)) (x y : List ℕ) → Voiced p x → Voiced q y → (j : ℕ) × (hon j ≡ true) × (p j ≡ Some x) × (q j ≡ Some y)
    voices_meet p q x y a b =
        let s = quorums_meet g.n hon (quorum g) (voucher g) laws (λ j. not (hon j) || is x (p j)) (λ j. not (hon j) || is y (q j)) a b in
        (s.0, s.3, is_some x (p s.0) (of_honest _ _ s.3 s.4), is_some y (q s.0) (of_honest _ _ s.3 s.5))

    pub voice : (p : ℕ → Option (List ℕ)) (x : List ℕ) → Voiced p x → Voice p x
    voice p x a = let s = voices_meet p p x x a a in (s.0, s.1, s.2)

    -- a quorum of honest parties by another test shares an honest party with it
    pub voice_meets : (p : ℕ → Option (List ℕ)) (x : List ℕ) (t : ℕ → Bool) → Voiced p x → quorum g (λ j. not (hon j) || t j) ≡ true →
        (j : ℕ) × (hon j ≡ true) × (p j ≡ Some x) × (t j ≡ true)
    voice_meets p x t a b =
        let s = quorums_meet g.n hon (quorum g) (voucher g) laws (λ j. not (hon j) || is x (p j)) (λ j. not (hon j) || t j) a b in
        (s.0, s.3, is_some x (p s.0) (of_honest _ _ s.3 s.4), of_honest _ _ s.3 s.5)

    -- entries that all honest parties fill alike form a quorum
    pub all_say : (row : ℕ → Option (List ℕ)) (x : List ℕ) → ((j : ℕ) → hon j ≡ true → row j ≡ Some x) → quorum g (λ j. is x (row j)) ≡ true
    all_say row x h = laws.more_quorum hon _ (λ j _ _ hj. some_is x (row j) (h j hj)) laws.honest_quorum

    -- the honest members of a quorum are a voucher for whatever they all pass
    pub vouched_by : (p : ℕ → Option (List ℕ)) (x : List ℕ) (t : ℕ → Bool) → Voiced p x → ((j : ℕ) → hon j ≡ true → p j ≡ Some x → t j ≡ true) →
        voucher g t ≡ true
    vouched_by p x t a h =
        laws.more_voucher (λ j. (not (hon j) || is x (p j)) && hon j) t
        (λ j _ _ e.
        let s = and_parts (not (hon j) || is x (p j)) (hon j) e in
        h j s.1 (is_some x (p j) (of_honest _ _ s.1 s.0)))
        (laws.honest_part (λ j. not (hon j) || is x (p j)) a)
