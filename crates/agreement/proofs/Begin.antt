-- What an accepted set-up has found, and the laws of quorums among the honest parties of its ring.
use Rattle.std.proofs.Common.{◌≡◌, ℕ, zero, suc, ◌*◌, ◌^◌, ◌<◌, ◌≤◌, Bool, true, false, not, ◌&&◌, eqb, ltb, leb, List, [], ◌∷◌, length, refl, arith}
use Rattle.std.proofs.lemmas.Bool.{cond_both, and_parts, and_from, eqb-true, leb-true, ltb-true, le-leb}
use Rattle.std.proofs.lemmas.Bool.Decides.{nat_tests}
use Rattle.messages.specs.Messages.{Msg, between}
use Rattle.rules.specs.Counting.{count}
use Rattle.rules.specs.Bounds.{every}
use Rattle.rules.specs.Thresholds.{sizes_fit, quorum, voucher}
use Rattle.rules.specs.Quorums.{Quorums}
use Rattle.rules.proofs.Quorums.{by_count}
use Rattle.agreement.specs.Ring.{Kind, Ring, setting, in_ring, honest, room}
use Rattle.agreement.specs.Calls.{said, Outcome, Plan, refuse, named, set_up_done, own_allowed, places_enough, set_up}

-- what set-up found where it answered 0
pub record Started (k : Kind) (p : Plan) (s : Ring) : Type 0 where
  pub is : set_up k p s ≡ set_up_done k p s
  pub some : 1 ≤ p.n
  pub few : 3 * p.f < p.n
  pub bound : count (named p.word) p.n ≤ p.f
  pub own : own_allowed k p ≡ true
  pub empty : s.wire ≡ []

no_length : (xs : List Msg) → length xs ≡ 0 → xs ≡ []
no_length [] e = refl
no_length (x ∷ xs) e = absurd (omega arith)

module _ (k : Kind) (p : Plan) (s : Ring) where
  record Why (o : Outcome) : Type 0 where
    holds : o.answer ≡ said 0 → (o ≡ set_up_done k p s) × (1 ≤ p.n) × (3 * p.f < p.n) × (count (named p.word) p.n ≤ p.f) × (own_allowed k p ≡ true) × (s.wire ≡ [])

  not_refused : (number : ℕ) → Why (refuse s number)
  not_refused number = record { holds = λ e. absurd (let z : ◌≡◌ {A = ℕ} 0 1 = grind arith in omega arith) }

  pub started : (set_up k p s).answer ≡ said 0 → Started k p s
  unfolding set_up
  started e =
      let w = (cond_both (sizes_fit p.n p.f) _ _ Why
      (λ a. cond_both (ltb p.word (2 ^ p.n)) _ _ Why
      (λ _. cond_both (leb (count (named p.word) p.n) p.f) _ _ Why
      (λ b. cond_both (places_enough k p s) _ _ Why
      (λ _. cond_both (own_allowed k p) _ _ Why
      (λ c. cond_both (eqb (length s.wire) 0) _ _ Why
      (λ d. cond_both (leb (p.n * p.n) (room s)) _ _ Why
      (λ _. let z = and_parts (between 1 64 p.n) (ltb (3 * p.f) p.n) a in
      let y = and_parts (leb 1 p.n) (leb p.n 64) z.0 in
      record { holds = λ _. (refl, leb-true _ _ y.0, ltb-true _ _ z.1, leb-true _ _ b, c, no_length s.wire (eqb-true _ _ d)) })
      (λ _. not_refused 10))
      (λ _. not_refused 11))
      (λ _. not_refused 5))
      (λ _. not_refused 4))
      (λ _. not_refused 3))
      (λ _. not_refused 2))
      (λ _. not_refused 1)).holds e in
      record { is = w.0; some = w.1; few = w.2; bound = w.3; own = w.4; empty = w.5 }

-- one of the parties that all pass
pub every-at : (t : ℕ → Bool) (n i : ℕ) → every t n ≡ true → 1 ≤ i → i ≤ n → t i ≡ true
every-at t zero i e lo hi = absurd (omega arith)
every-at t (suc n) i e lo hi = go (eqb i (suc n)) refl (every-at t n i)
  where
    go : (b : Bool) → eqb i (suc n) ≡ b → (every t n ≡ true → 1 ≤ i → i ≤ n → t i ≡ true) → t i ≡ true
    go true q ih = let q₁ : i ≡ suc n = eqb-true _ _ q in let a = and_parts (t (suc n)) (every t n) e in rw q₁ a.0
    go false q ih = let a = and_parts (t (suc n)) (every t n) e in ih a.1 lo (grind (arith, nat_tests))

-- the laws hold among the honest parties of a ring whose liars are few
module _ (k : Kind) (s : Ring) (few : 3 * s.f < s.n) (bound : count s.faulty s.n ≤ s.f) where
  pub honest_laws : Quorums s.n (honest s) (quorum (setting k s)) (voucher (setting k s))
  honest_laws =
      let b = by_count (setting k s) s.faulty few bound in
      record {
        more_quorum = b.more_quorum;
        more_voucher = b.more_voucher;
        honest_quorum = b.more_quorum (λ j. not (s.faulty j)) (honest s) (λ j lo hi h. and_from _ _ (inside j lo hi) h) b.honest_quorum;
        honest_part = λ p q. b.more_voucher (λ j. p j && not (s.faulty j)) (λ j. p j && honest s j) (λ j lo hi h. let a = and_parts (p j) _ h in and_from _ _ a.0 (and_from _ _ (inside j lo hi) a.1)) (b.honest_part p q);
        meet = b.meet;
        one_honest = λ p q. let w = b.one_honest p q in (w.0, w.1, w.2, w.3, and_from _ _ (inside w.0 w.1 w.2) w.4);
      }
    where
      inside : (j : ℕ) → 1 ≤ j → j ≤ s.n → in_ring s j ≡ true
      inside j lo hi = and_from _ _ (le-leb _ _ lo) (le-leb _ _ hi)

-- an honest party is in the ring, and not faulty
pub honest_parts : (s : Ring) (i : ℕ) → honest s i ≡ true → (1 ≤ i) × (i ≤ s.n) × (s.faulty i ≡ false)
honest_parts s i h = (grind (arith, nat_tests), grind (arith, nat_tests), grind (arith, nat_tests))

pub in_ring_parts : (s : Ring) (i : ℕ) → in_ring s i ≡ true → (1 ≤ i) × (i ≤ s.n)
in_ring_parts s i h = (grind (arith, nat_tests), grind (arith, nat_tests))
