-- Between calls every honest party has followed all rules that begin with "once": kept by a step, by the timer, and true at set-up.
use Rattle.std.proofs.Common.{◌≡◌, ℕ, ◌<◌, ◌≤◌, Bool, true, false, cond, not, ◌||◌, eqb, leb, ◌⊎◌, List, refl, subst, inl, inr, arith}
use Rattle.std.proofs.lemmas.Bool.{cond_both, cases_eq, or_parts, both_ways}
use Rattle.std.proofs.lemmas.Bool.Decides.{nat_tests}
use Rattle.values.specs.Same.{equal}
use Rattle.messages.specs.Messages.{Msg}
use Rattle.rules.specs.Party.{Setting, Proposal, nothing, waiting, echoed, dropped, Party, Step, and_then}
use Rattle.rules.specs.Thresholds.{quorum, voucher}
use Rattle.rules.specs.Tests.{lock_opened, heeded}
use Rattle.rules.specs.Step.{enter, newcomer, wake, wake_proposal, lock_fits, may_wait, on_propose, on_proof, on_vote, step, on_timer}
use Rattle.rules.specs.Quorums.{Quorums}
use Rattle.agreement.proofs.Walk.{Parts, walk_step, walk_timer}
use Rattle.agreement.proofs.Closure.{Tallied, Waits, member, tallied_kept, waits_kept}
use Rattle.agreement.proofs.Part.{Part, by_parts}

-- the reaction to a proof, a propose and a key3
picked : (P : Step → Type 0) (n : ℕ) (a b c d e f h i j : Step) → P c → P d → P f → (n ≡ 3) ⊎ ((n ≡ 4) ⊎ (n ≡ 8)) →
    P (cond (eqb n 1) a (cond (eqb n 2) b (cond (eqb n 3) c (cond (eqb n 4) d (cond (leb n 7) e (cond (eqb n 8) f (cond (eqb n 9) h (cond (eqb n 10) i j))))))))
picked P n a b c d e f h i j x y z (inl k) = rw k x
picked P n a b c d e f h i j x y z (inr (inl k)) = rw k y
picked P n a b c d e f h i j x y z (inr (inr k)) = rw k z

module _ (g : Setting) (hon : ℕ → Bool) (laws : Quorums g.n hon (quorum g) (voucher g)) (some : 0 < g.n) where
  module _ (me : ℕ) (m : Msg) (lo : 1 ≤ m.from) (hi : m.from ≤ g.n) where
    -- ## Tallies
    pub part_tallied : (p : Party) (s : Step) → Part g me m p s → Tallied g p → Tallied g s.after
    part_tallied p s x t = tallied_kept g hon laws me p s.after m x.effect.holds x.drawn.keeps x.drawn.draws t

    tallied_parts : Parts g me m (λ p s. Tallied g p → Tallied g s.after)
    tallied_parts = by_parts g me m some lo hi (λ p s. Tallied g p → Tallied g s.after) (λ p t. t) part_tallied (λ p s f a b t. b (a t))

    pub step_tallied : (p : Party) → Tallied g p → Tallied g (step g me p m).after
    step_tallied p = walk_step g me m (λ p s. Tallied g p → Tallied g s.after) tallied_parts p

    pub timer_tallied : m.kind ≡ 0 → (p : Party) → Tallied g p → Tallied g (on_timer g me p).after
    timer_tallied k p = walk_timer g me m (λ p s. Tallied g p → Tallied g s.after) tallied_parts p k

    -- ## A waiting proposal
    pub record W (s : Step) : Type 0 where
      pub holds : Waits g s.after

    unheld : (q : Party) → ((x : List ℕ) → q.rec.proposal ≡ waiting x → ⊥) → Waits g q
    unheld q h = record { why = λ x e. absurd (h x e) }

    woken : (p : Party) (x : Proposal) → p.rec.proposal ≡ x → W (wake_proposal g me x p)
    woken p nothing e = record { holds = unheld p (λ y z. let w : ◌≡◌ {A = ℕ} 0 1 = cc in omega arith) }
    woken p (waiting x) e =
        cond_both (equal (p.rec.field 9).value x || lock_opened g p) _ _ W
        (λ _. record { holds = unheld _ (λ y z. let w : ◌≡◌ {A = ℕ} 0 1 = cc in omega arith) })
        (λ b. let c = or_parts (equal (p.rec.field 9).value x) (lock_opened g p) b in
        record { holds = record { why = λ y z. let q : x ≡ y = cc in (subst (λ w. equal (p.rec.field 9).value w ≡ false) q c.0, c.1) } })
    woken p (echoed x) e = record { holds = unheld p (λ y z. let w : ◌≡◌ {A = ℕ} 0 1 = cc in omega arith) }
    woken p dropped e = record { holds = unheld p (λ y z. let w : ◌≡◌ {A = ℕ} 0 1 = cc in omega arith) }

    wakes : (p : Party) → W (wake g me p)
    unfolding wake
    wakes p = woken p p.rec.proposal refl

    proof_waits : (p : Party) → W (on_proof g me p m)
    unfolding on_proof
    proof_waits p = record { holds = (wakes _).holds }

    propose_waits : (p : Party) → W (on_propose g me p m)
    unfolding on_propose
    propose_waits p =
        cond_both (not (g.allows m.value)) _ _ W (λ _. record { holds = unheld _ (λ y z. let w : ◌≡◌ {A = ℕ} 0 1 = cc in omega arith) })
        (λ _. cond_both (lock_fits g me p.rec m.value) _ _ W (λ _. record { holds = unheld _ (λ y z. let w : ◌≡◌ {A = ℕ} 0 1 = cc in omega arith) })
        (λ _. cond_both (may_wait g me p.rec m.key) _ _ W (λ _. record { holds = (wakes _).holds })
        (λ _. record { holds = unheld _ (λ y z. let w : ◌≡◌ {A = ℕ} 0 1 = cc in omega arith) })))

    key3_waits : (p : Party) → W (and_then (on_vote g me p m) (wake g me))
    key3_waits p = record { holds = (wakes (on_vote g me p m).after).holds }

    -- a message after which nothing is tested
    abbrev Calm : Type 0
    Calm = (m.kind ≡ 3 → ⊥) × (m.kind ≡ 4 → ⊥) × (m.kind ≡ 8 → ⊥)

    abbrev R : Party → Step → Type 0
    R p s = Calm → Tallied g p → Waits g p → Tallied g s.after × Waits g s.after

    waits_parts : Parts g me m R
    waits_parts =
        by_parts g me m some lo hi R (λ p c t w. (t, w))
        (λ p s x c t w. (part_tallied p s x t, waits_kept g hon laws me p s.after m x.effect.holds x.drawn.keeps x.drawn.draws t c.0 c.1 c.2 w))
        (λ p s f a b c t w. let n = a c t w in b c n.0 n.1)

    heeded_waits : (p : Party) → Waits g p → (m.kind ≡ 3) ⊎ ((m.kind ≡ 4) ⊎ (m.kind ≡ 8)) → W (step g me p m)
    unfolding step
    heeded_waits p w k =
        cond_both (heeded g me p m) _ _ W (λ h. picked W m.kind _ _ _ _ _ _ _ _ _ (proof_waits p) (propose_waits p) (key3_waits p) k) (λ h. record { holds = w })

    pub step_waits : (p : Party) → Tallied g p → Waits g p → Waits g (step g me p m).after
    step_waits p t w =
        elim (cases_eq m.kind 3) [
          | inl k ↦ (heeded_waits p w (inl k)).holds
          | inr n₃ ↦ elim (cases_eq m.kind 4) [
            | inl k ↦ (heeded_waits p w (inr (inl k))).holds
            | inr n₄ ↦ elim (cases_eq m.kind 8) [
              | inl k ↦ (heeded_waits p w (inr (inr k))).holds
              | inr n₈ ↦ (walk_step g me m R waits_parts p (n₃, n₄, n₈) t w).1
            ]
          ]
        ]

    pub timer_waits : m.kind ≡ 0 → (p : Party) → Tallied g p → Waits g p → Waits g (on_timer g me p).after
    timer_waits k p t w =
        (walk_timer g me m R waits_parts p k ((λ e. absurd (omega arith)), (λ e. absurd (omega arith)), (λ e. absurd (omega arith))) t w).1

  -- ## At set-up
  none-quorum : (t : ℕ → Bool) → ((j : ℕ) → t j ≡ false) → quorum g t ≡ true → ⊥
  none-quorum t h q = let j = member g hon laws t q in both_ways _ (h j.0) j.3

  none-voucher : (t : ℕ → Bool) → ((j : ℕ) → t j ≡ false) → voucher g t ≡ true → ⊥
  none-voucher t h q = let j = laws.one_honest t q in both_ways _ (h j.0) j.3

  pub first_tallied : (i : ℕ) (own : List ℕ) → Tallied g (enter g i (newcomer own) 1).after
  unfolding enter
  first_tallied i own =
      record {
        begun = omega arith;
        seen = λ k a b. grind (arith, nat_tests);
        vote = λ kind x _ _ h. absurd (none-quorum (λ j. false) (λ j. refl) h);
        lock = λ x h. absurd (none-quorum (λ j. false) (λ j. refl) h);
        join = λ x h. absurd (none-voucher (λ j. false) (λ j. refl) h);
        decide = λ x h. absurd (none-quorum (λ j. false) (λ j. refl) h);
        offer = λ h. absurd (none-quorum (λ j. false) (λ j. refl) h);
        ended = λ h. absurd (both_ways _ h refl);
        held = λ x e. absurd (let w : ◌≡◌ {A = ℕ} 0 1 = cc in omega arith);
      }

  pub first_waits : (i : ℕ) (own : List ℕ) → Waits g (enter g i (newcomer own) 1).after
  unfolding enter
  first_waits i own = record { why = λ x e. absurd (let w : ◌≡◌ {A = ℕ} 0 1 = cc in omega arith) }
