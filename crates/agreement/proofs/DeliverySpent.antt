-- A message that was taken in, or came too late, is never heeded again.
use Rattle.std.proofs.Common.{◌≡◌, ℕ, ◌≤◌, false, cond, not, ◌&&◌, ◌||◌, eqb, leb, Some, None, Option, refl, inl, inr, arith}
use Rattle.std.proofs.lemmas.Bool.{cond_both, cases_eq, eqb-true, eqb-false, leb-true, leb-false}
use Rattle.std.proofs.lemmas.Bool.Decides.{nat_tests}
use Rattle.values.specs.Same.{equal}
use Rattle.messages.specs.Messages.{Msg}
use Rattle.rules.specs.Party.{Setting, Suggest, Proposal, nothing, waiting, echoed, dropped, Party, Step, and_then, none}
use Rattle.rules.specs.Tests.{lock_opened, heeded, voted, done_vouched, done_agreed}
use Rattle.rules.specs.Step.{on_request, told_suggest, propose, propose_due, on_suggest, wake, wake_proposal, lock_fits, may_wait, on_propose, told_proof, on_proof, told_vote, announce_due, on_vote, told_done, say_done, decide, on_lock, on_done, step}
use Rattle.agreement.proofs.Drawn.{Keeps}

-- ## What was not heeded stays so
module _ (g : Setting) (me : ℕ) (p q : Party) (x : Msg) (k : Keeps g p q) where
  request_spent : x.kind ≡ 1 → heeded g me p x ≡ false → heeded g me q x ≡ false
  request_spent e h = let a = k.decision in let b = k.request x.from in grind (arith, nat_tests)

  done_spent : x.kind ≡ 10 → heeded g me p x ≡ false → heeded g me q x ≡ false
  done_spent e h = let a = k.decision in let b = k.done x.from in grind (arith, nat_tests)

  suggest_spent : x.kind ≡ 2 → x.view ≤ p.rec.view → heeded g me p x ≡ false → heeded g me q x ≡ false
  suggest_spent e l h = let a = k.decision in let b = k.suggest x.from in let c = k.view in grind (arith, nat_tests)

  proof_spent : x.kind ≡ 3 → x.view ≤ p.rec.view → heeded g me p x ≡ false → heeded g me q x ≡ false
  proof_spent e l h = let a = k.decision in let b = k.proof x.from in let c = k.view in grind (arith, nat_tests)

  propose_spent : x.kind ≡ 4 → x.view ≤ p.rec.view → heeded g me p x ≡ false → heeded g me q x ≡ false
  propose_spent e l h = let a = k.decision in let b = k.proposal in let c = k.view in grind (arith, nat_tests)

  vote_spent : 5 ≤ x.kind → x.kind ≤ 9 → x.view ≤ p.rec.view → heeded g me p x ≡ false → heeded g me q x ≡ false
  vote_spent lo hi l h = let a = k.decision in let b = k.vote x.from x.kind in let c = k.view in grind (arith, nat_tests)

  pub spent_kept : 1 ≤ x.kind → x.kind ≤ 10 → (2 ≤ x.kind → x.kind ≤ 9 → x.view ≤ p.rec.view) → heeded g me p x ≡ false → heeded g me q x ≡ false
  spent_kept lo hi l h =
      elim (cases_eq x.kind 1) [
        | inl e ↦ request_spent e h
        | inr n₁ ↦ elim (cases_eq x.kind 10) [
          | inl e ↦ done_spent e h
          | inr n₂ ↦ let v : x.view ≤ p.rec.view = l (omega arith) (omega arith) in
              elim (cases_eq x.kind 2) [
                | inl e ↦ suggest_spent e v h
                | inr n₃ ↦ elim (cases_eq x.kind 3) [
                  | inl e ↦ proof_spent e v h
                  | inr n₄ ↦ elim (cases_eq x.kind 4) [ inl e ↦ propose_spent e v h | inr n₅ ↦ vote_spent (omega arith) (omega arith) v h ]
                ]
              ]
        ]
      ]

-- ## What was handed is not heeded again
-- one kind after another
by_kind : (P : Step → Type 0) (n : ℕ) (a b c d e f h i j : Step) → (n ≡ 1 → P a) → (n ≡ 2 → P b) → (n ≡ 3 → P c) → (n ≡ 4 → P d) → (5 ≤ n → n ≤ 7 → P e) →
    (n ≡ 8 → P f) → (n ≡ 9 → P h) → (n ≡ 10 → P i) → 1 ≤ n → n ≤ 10 →
    P (cond (eqb n 1) a (cond (eqb n 2) b (cond (eqb n 3) c (cond (eqb n 4) d (cond (leb n 7) e (cond (eqb n 8) f (cond (eqb n 9) h (cond (eqb n 10) i j))))))))
by_kind P n a b c d e f h i j pa pb pc pd pe pf ph pi lo hi =
    cond_both (eqb n 1) _ _ P (λ t. pa (eqb-true _ _ t)) (λ n₁. cond_both (eqb n 2) _ _ P (λ t. pb (eqb-true _ _ t)) (λ n₂. cond_both (eqb n 3) _ _ P (λ t. pc (eqb-true _ _ t))
    (λ n₃. cond_both (eqb n 4) _ _ P (λ t. pd (eqb-true _ _ t)) (λ n₄.
    cond_both (leb n 7) _ _ P
    (λ t. pe (let x₁ = eqb-false _ _ n₁ in let x₂ = eqb-false _ _ n₂ in let x₃ = eqb-false _ _ n₃ in let x₄ = eqb-false _ _ n₄ in omega arith) (leb-true _ _ t))
    (λ n₅. cond_both (eqb n 8) _ _ P (λ t. pf (eqb-true _ _ t)) (λ n₆. cond_both (eqb n 9) _ _ P (λ t. ph (eqb-true _ _ t)) (λ n₇. cond_both (eqb n 10) _ _ P (λ t. pi (eqb-true _ _ t))
    (λ n₈. absurd (let x₅ = leb-false _ _ n₅ in let x₆ = eqb-false _ _ n₆ in let x₇ = eqb-false _ _ n₇ in let x₈ = eqb-false _ _ n₈ in omega arith)))))))))

module _ (g : Setting) (me : ℕ) (m : Msg) where
  record N (s : Step) : Type 0 where
    holds : heeded g me s.after m ≡ false

  -- a party that has the message
  wake_now : (p : Party) (x : Proposal) → p.rec.proposal ≡ x → heeded g me p m ≡ false → N (wake_proposal g me x p)
  wake_now p nothing e h = record { holds = h }
  wake_now p (waiting x) e h =
      cond_both (equal (p.rec.field 9).value x || lock_opened g p) _ _ N (λ a. record { holds = grind (arith, nat_tests) }) (λ a. record { holds = h })
  wake_now p (echoed x) e h = record { holds = h }
  wake_now p dropped e h = record { holds = h }

  woken_now : (p : Party) → heeded g me p m ≡ false → N (wake g me p)
  unfolding wake
  woken_now p h = wake_now p p.rec.proposal refl h

  request_now : (p : Party) → m.kind ≡ 1 → N (on_request g me p m)
  unfolding on_request
  request_now p k = record { holds = grind (arith, nat_tests) }

  propose_of : (p : Party) (o : Option Suggest) → m.kind ≡ 2 → N (propose g me (told_suggest g me p m) o)
  propose_of p None k = record { holds = grind (arith, nat_tests) }
  propose_of p (Some s) k = record { holds = grind (arith, nat_tests) }

  suggest_now : (p : Party) → m.kind ≡ 2 → N (on_suggest g me p m)
  unfolding on_suggest
  suggest_now p k = cond_both (propose_due g me (told_suggest g me p m)) _ _ N (λ d. propose_of p _ k) (λ d. record { holds = grind (arith, nat_tests) })

  proof_now : (p : Party) → m.kind ≡ 3 → N (on_proof g me p m)
  unfolding on_proof
  proof_now p k = woken_now (told_proof g me p m) (grind (arith, nat_tests))

  propose_now : (p : Party) → m.kind ≡ 4 → N (on_propose g me p m)
  unfolding on_propose
  propose_now p k =
      cond_both (not (g.allows m.value)) _ _ N (λ _. record { holds = grind (arith, nat_tests) })
      (λ _. cond_both (lock_fits g me p.rec m.value) _ _ N (λ _. record { holds = grind (arith, nat_tests) })
      (λ _. cond_both (may_wait g me p.rec m.key) _ _ N (λ _. woken_now _ (grind (arith, nat_tests))) (λ _. record { holds = grind (arith, nat_tests) })))

  vote_now : (p : Party) → 5 ≤ m.kind → m.kind ≤ 8 → N (on_vote g me p m)
  unfolding on_vote
  vote_now p lo hi =
      cond_both (announce_due g me (told_vote g me p m) m.kind m.value) _ _ N (λ _. record { holds = grind (arith, nat_tests) }) (λ _. record { holds = grind (arith, nat_tests) })

  lock_now : (p : Party) → m.kind ≡ 9 → N (on_lock g me p m)
  unfolding on_lock
  lock_now p k =
      cond_both (none p.rec.done && voted g (told_vote g me p m) 9 m.value) _ _ N (λ _. record { holds = grind (arith, nat_tests) }) (λ _. record { holds = grind (arith, nat_tests) })

  done_now : (p : Party) → m.kind ≡ 10 → N (on_done g me p m)
  unfolding on_done
  done_now p k =
      cond_both (none p.rec.done && done_vouched g (told_done g me p m) m.value) _ _ (λ (s : Step). N (and_then s (decide g me m.value)))
      (λ d. cond_both (done_agreed g (told_done g me p m) m.value) _ _ (λ (t : Step). N (and_then (say_done g me (told_done g me p m) m.value) (λ _. t)))
      (λ a. record { holds = grind (arith, nat_tests) }) (λ a. record { holds = grind (arith, nat_tests) }))
      (λ d. cond_both (done_agreed g (told_done g me p m) m.value) _ _ N (λ a. record { holds = grind (arith, nat_tests) }) (λ a. record { holds = grind (arith, nat_tests) }))

  key3_now : (p : Party) → m.kind ≡ 8 → N (and_then (on_vote g me p m) (wake g me))
  key3_now p k = record { holds = (woken_now (on_vote g me p m).after (vote_now p (omega arith) (omega arith)).holds).holds }

  by_step : (p : Party) → 1 ≤ m.kind → m.kind ≤ 10 → N (step g me p m)
  unfolding step
  by_step p lo hi =
      cond_both (heeded g me p m) _ _ N
      (λ h. by_kind N m.kind _ _ _ _ _ _ _ _ _ (request_now p) (suggest_now p) (proof_now p) (propose_now p) (λ a b. vote_now p a (omega arith)) (key3_now p) (lock_now p) (done_now p) lo hi)
      (λ h. record { holds = h })

  pub spent_now : (p : Party) → 1 ≤ m.kind → m.kind ≤ 10 → heeded g me (step g me p m).after m ≡ false
  spent_now p lo hi = (by_step p lo hi).holds
