-- A step is one, two or three parts: what each part keeps, the step keeps.
use Rattle.std.proofs.Common.{◌≡◌, ℕ, ◌<◌, ◌≤◌, max, true, not, eqb, ltb, leb, List, [], ◌++◌, Some, None, Option, refl, subst, append_assoc, arith}
use Rattle.std.proofs.lemmas.Bool.{cond_both, eqb-true}
use Rattle.std.proofs.lemmas.Bool.Decides.{nat_tests}
use Rattle.messages.specs.Messages.{Msg}
use Rattle.rules.specs.Party.{Setting, Proposal, nothing, waiting, echoed, dropped, Party, Step, with_rec, with_proposal, with_row, with_abort, still, and_then, none}
use Rattle.rules.specs.Thresholds.{primary}
use Rattle.rules.specs.Tests.{heeded, is_nothing}
use Rattle.rules.specs.Step.{wake, lock_fits, may_wait, on_propose, told_proof, on_proof, aborts, join_abort, leave, on_abort, on_timer, react, step}
use Rattle.agreement.proofs.Effects.{E, still_effect, request_effect, suggest_effect, told_proof_effect, drop_effect, echo_effect, wait_effect, vote_effect, lock_effect, wake_effect, done_effect, raise_effect, told_abort_effect, join_effect, leave_effect}
use Rattle.agreement.proofs.Posts.{Posts, still-posts, echo-posts, wake-posts, suggest-posts, vote-posts, lock-posts, raise_posts, join_posts, leave-posts, done-posts, request-posts}

-- what none holds of
pub none_is : {X : Type 0} (o : Option X) → none o ≡ true → o ≡ None
none_is None e = refl
none_is (Some x) e = absurd (let z : ◌≡◌ {A = ℕ} 0 1 = grind arith in omega arith)

nothing_is : (g : Setting) (x : Proposal) → is_nothing g x ≡ true → x ≡ nothing
nothing_is g nothing e = refl
nothing_is g (waiting x) e = absurd (let z : ◌≡◌ {A = ℕ} 0 1 = grind arith in omega arith)
nothing_is g (echoed x) e = absurd (let z : ◌≡◌ {A = ℕ} 0 1 = grind arith in omega arith)
nothing_is g dropped e = absurd (let z : ◌≡◌ {A = ℕ} 0 1 = grind arith in omega arith)

-- I is said of the party and of all it has posted in this step so far
module _ (g : Setting) (me : ℕ) (m : Msg) (some : 0 < g.n) (I : Party → List Msg → Type 0)
    (kept : (p : Party) (ms : List Msg) (s : Step) → E g me p m s → Posts g me p s → I p ms → I s.after (ms ++ s.posts)) where
  module _ (ms : List Msg) where
    pub record Fine (s : Step) : Type 0 where
      pub holds : I s.after (ms ++ s.posts)

    module _ (p : Party) (h : I p ms) where
      fine : (s : Step) → E g me p m s → Posts g me p s → Fine s
      fine s e q = record { holds = kept p ms s e q h }

      fine_still : Fine (still p)
      fine_still = fine _ (still_effect g me p m) (still-posts g me p m p)

    -- one part after another
    then : (s : Step) (f : Party → Step) → Fine s → E g me s.after m (f s.after) → Posts g me s.after (f s.after) → Fine (and_then s f)
    then s f a e q =
        record { holds = subst (I (f s.after).after) (append_assoc ms s.posts (f s.after).posts) (kept s.after (ms ++ s.posts) (f s.after) e q a.holds) }

    then-wake : (s : Step) → Fine s → Fine (and_then s (wake g me))
    unfolding wake
    then-wake s a = then s (wake g me) a (wake_effect g me s.after m _ refl) (wake-posts g me s.after m _)

    then-leave : (s : Step) → Fine s → Fine (and_then s (leave g me))
    then-leave s a = then s (leave g me) a (leave_effect g me s.after m) (leave-posts g me s.after m some)

    module _ (p : Party) (h : I p ms) where
      fine_proof : m.view ≡ p.rec.view → m.kind ≡ 3 → (p.rows m.from).proof ≡ None → Fine (on_proof g me p m)
      unfolding on_proof
      fine_proof v k f = then-wake (still (told_proof g me p m)) (fine p h _ (told_proof_effect g me p m v k f) (still-posts g me p m _))

      fine_propose : m.view ≡ p.rec.view → m.kind ≡ 4 → m.from ≡ primary g p.rec.view → p.rec.proposal ≡ nothing → Fine (on_propose g me p m)
      unfolding on_propose
      fine_propose v k f n =
          cond_both (not (g.allows m.value)) _ _ Fine (λ _. fine p h _ (drop_effect g me p m v k f n) (still-posts g me p m _))
          (λ a. cond_both (lock_fits g me p.rec m.value) _ _ Fine
          (λ b. fine p h _ (echo_effect g me p m v k f n (grind arith) b) (echo-posts g me p m _))
          (λ b. cond_both (may_wait g me p.rec m.key) _ _ Fine
          (λ c. then-wake (still (with_rec p (with_proposal p.rec (waiting m.value)))) (fine p h _ (wait_effect g me p m v k f n (grind arith) b c) (still-posts g me p m _)))
          (λ c. fine p h _ (drop_effect g me p m v k f n) (still-posts g me p m _))))

      fine_abort : m.kind ≡ 11 → Fine (on_abort g me p m)
      unfolding on_abort
      fine_abort k =
          then-leave _
          (then (still (with_row p m.from (with_abort (p.rows m.from) (max (p.rows m.from).abort m.view)))) (join_abort g me)
          (fine p h _ (told_abort_effect g me p m k) (still-posts g me p m _)) (join_effect g me _ m) (join_posts g me _ m))

      pub fine_timer : Fine (on_timer g me p)
      unfolding on_timer
      fine_timer =
          then-leave _
          (cond_both (ltb (aborts g me p me) p.rec.view) _ _ Fine
          (λ a. fine p h _ (raise_effect g me p m _ (grind (arith, nat_tests))) (raise_posts g me p m _ (grind (arith, nat_tests)))) (λ _. fine_still p h))

      module _ (lo : 1 ≤ m.from) (hi : m.from ≤ g.n) where
        fine_react : heeded g me p m ≡ true → Fine (react g me p m)
        fine_react t =
            cond_both (eqb m.kind 1) _ _ Fine (λ k. fine p h _ (request_effect g me p m (eqb-true _ _ k) (grind (arith, nat_tests))) (request-posts g me p m lo hi))
            (λ k₁. cond_both (eqb m.kind 2) _ _ Fine (λ k. fine p h _ (suggest_effect g me p m (grind (arith, nat_tests)) (eqb-true _ _ k) (none_is _ (grind (arith, nat_tests)))) (suggest-posts g me p m))
            (λ k₂. cond_both (eqb m.kind 3) _ _ Fine (λ k. fine_proof (grind (arith, nat_tests)) (eqb-true _ _ k) (none_is _ (grind (arith, nat_tests))))
            (λ k₃. cond_both (eqb m.kind 4) _ _ Fine (λ k. fine_propose (grind (arith, nat_tests)) (eqb-true _ _ k) (grind (arith, nat_tests)) (nothing_is g _ (grind (arith, nat_tests))))
            (λ k₄. cond_both (leb m.kind 7) _ _ Fine
            (λ k. fine p h _ (vote_effect g me p m (grind (arith, nat_tests)) (grind (arith, nat_tests)) (grind (arith, nat_tests)) (none_is _ (grind (arith, nat_tests)))) (vote-posts g me p m (grind (arith, nat_tests)) (grind (arith, nat_tests))))
            (λ k₅. cond_both (eqb m.kind 8) _ _ Fine
            (λ k. then-wake _ (fine p h _ (vote_effect g me p m (grind (arith, nat_tests)) (grind (arith, nat_tests)) (grind (arith, nat_tests)) (none_is _ (grind (arith, nat_tests)))) (vote-posts g me p m (grind (arith, nat_tests)) (grind (arith, nat_tests)))))
            (λ k₆. cond_both (eqb m.kind 9) _ _ Fine (λ k. fine p h _ (lock_effect g me p m (grind (arith, nat_tests)) (eqb-true _ _ k) (none_is _ (grind (arith, nat_tests)))) (lock-posts g me p m))
            (λ k₇. cond_both (eqb m.kind 10) _ _ Fine (λ k. fine p h _ (done_effect g me p m (eqb-true _ _ k) (none_is _ (grind (arith, nat_tests)))) (done-posts g me p m))
            (λ k₈. fine_abort (grind (arith, nat_tests))))))))))

        pub fine_step : Fine (step g me p m)
        unfolding step
        fine_step = cond_both (heeded g me p m) _ _ Fine fine_react (λ _. fine_still p h)

  -- the whole step on a message, and on the timer
  pub step_kept : (p : Party) → 1 ≤ m.from → m.from ≤ g.n → I p [] → I (step g me p m).after (step g me p m).posts
  step_kept p lo hi h = (fine_step [] p h lo hi).holds

  pub timer-kept : (p : Party) → I p [] → I (on_timer g me p).after (on_timer g me p).posts
  timer-kept p h = (fine_timer [] p h).holds
