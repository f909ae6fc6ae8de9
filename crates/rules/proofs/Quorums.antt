-- Counting gives the laws of quorums: n - f parties of more than 3 f, of which at most f lie.
use Rattle.std.proofs.Common.{◌≡◌, ℕ, ◌*◌, ◌<◌, ◌≤◌, Bool, true, not, ◌&&◌, arith}
use Rattle.std.proofs.lemmas.Bool.{and_parts, le-leb, leb-true}
use Rattle.rules.specs.Counting.{count}
use Rattle.rules.specs.Party.{Setting}
use Rattle.rules.specs.Thresholds.{quorum, voucher}
use Rattle.rules.specs.Quorums.{Quorums}
use Rattle.rules.proofs.Counts.{count_mono, count-meet, count_not, count_share}

module _ (g : Setting) (faulty : ℕ → Bool) (few : 3 * g.f < g.n) (bound : count faulty g.n ≤ g.f) where
  pub by_count : Quorums g.n (λ j. not (faulty j)) (quorum g) (voucher g)
  by_count =
      record {
        more_quorum = λ p q h k. let m = count_mono p q g.n h in le-leb _ _ (omega (arith, leb-true _ _ k));
        more_voucher = λ p q h k. let m = count_mono p q g.n h in le-leb _ _ (omega (arith, leb-true _ _ k));
        honest_quorum = let e = count_not faulty g.n in le-leb _ _ (omega arith);
        honest_part = λ p k.
            let e = count_not faulty g.n in
            let m = count-meet p (λ j. not (faulty j)) g.n in
            le-leb _ _ (omega (arith, leb-true _ _ k));
        meet = λ p q k l. count_share p q g.n (omega (arith, leb-true _ _ k, leb-true _ _ l));
        one_honest = λ p k. let e = count_not faulty g.n in count_share p (λ j. not (faulty j)) g.n (omega (arith, leb-true _ _ k));
      }

module _ (n : ℕ) (honest : ℕ → Bool) (quorum voucher : (ℕ → Bool) → Bool) (r : Quorums n honest quorum voucher) where
  -- two quorums share an honest party
  pub quorums_meet : (p q : ℕ → Bool) → quorum p ≡ true → quorum q ≡ true → (j : ℕ) × (1 ≤ j) × (j ≤ n) × (honest j ≡ true) × (p j ≡ true) × (q j ≡ true)
  quorums_meet p q k l =
      let s = r.meet (λ j. p j && honest j) q (r.honest_part p k) l in
      let a = and_parts (p s.0) (honest s.0) s.3 in
      (s.0, s.1, s.2, a.1, a.0, s.4)
