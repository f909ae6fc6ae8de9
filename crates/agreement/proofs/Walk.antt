-- A step as a walk through its parts: what each part keeps, and what one after another keeps, a whole step keeps.
use Rattle.std.proofs.Common.{◌≡◌, ℕ, ◌<◌, ◌≤◌, max, true, false, not, eqb, ltb, leb, ◌⊎◌, None, refl, subst, inl, inr, arith}
use Rattle.std.proofs.lemmas.Bool.{cond_both, eqb-true, eqb-false, leb-true, leb-false, ltb-true}
use Rattle.std.proofs.lemmas.Bool.Decides.{nat_tests}
use Rattle.messages.specs.Messages.{Msg}
use Rattle.rules.specs.Party.{Setting, Proposal, nothing, waiting, echoed, dropped, Party, Step, with_rec, with_proposal, with_row, with_abort, still, and_then, none}
use Rattle.rules.specs.Thresholds.{primary, vouched, reached}
use Rattle.rules.specs.Tests.{heeded, is_nothing}
use Rattle.agreement.proofs.Steps.{none_is}
use Rattle.rules.specs.Step.{enter, on_request, on_suggest, echo, wake, lock_fits, may_wait, on_propose, told_proof, on_proof, on_vote, on_lock, on_done, aborts, say_abort, join_abort, leave, on_abort, on_timer, step}

-- party p takes message m, of its view, whose kind is k
abbrev pub Now : Party → Msg → ℕ → Type 0
Now p m k = (m.kind ≡ k) × (m.view ≡ p.rec.view)

-- a part that belongs to an abort, or to a timer, which has no message
abbrev pub Turn : Msg → Type 0
Turn m = (m.kind ≡ 0) ⊎ (m.kind ≡ 11)

-- a message after which a waiting proposal is tested
abbrev pub Wakes : Msg → Type 0
Wakes m = (m.kind ≡ 3) ⊎ ((m.kind ≡ 4) ⊎ (m.kind ≡ 8))

abbrev pub raised_row : Party → Msg → Party
raised_row p m = with_row p m.from (with_abort (p.rows m.from) (max (p.rows m.from).abort m.view))

abbrev pub proposed : Party → Proposal → Party
proposed p x = with_rec p (with_proposal p.rec x)

module _ (g : Setting) (me : ℕ) (m : Msg) where
  -- the parts of a step on m, each with the tests that had passed
  pub record Parts (R : Party → Step → Type 0) : Type 0 where
    pub stay : (p : Party) → R p (still p)
    pub request : (p : Party) → m.kind ≡ 1 → (p.rows m.from).request < m.view → R p (on_request g me p m)
    pub enter : (p : Party) (v : ℕ) → Turn m → p.rec.view < v → R p (enter g me p v)
    pub suggest : (p : Party) → Now p m 2 → (p.rows m.from).suggest ≡ None → R p (on_suggest g me p m)
    pub proof : (p : Party) → Now p m 3 → (p.rows m.from).proof ≡ None → R p (still (told_proof g me p m))
    pub forbid : (p : Party) → Now p m 4 → m.from ≡ primary g p.rec.view → p.rec.proposal ≡ nothing → g.allows m.value ≡ false →
        R p (still (proposed p dropped))
    pub echo : (p : Party) → Now p m 4 → m.from ≡ primary g p.rec.view → p.rec.proposal ≡ nothing → g.allows m.value ≡ true →
        lock_fits g me p.rec m.value ≡ true → R p (echo g me p m.value)
    pub wait : (p : Party) → Now p m 4 → m.from ≡ primary g p.rec.view → p.rec.proposal ≡ nothing → g.allows m.value ≡ true →
        lock_fits g me p.rec m.value ≡ false → may_wait g me p.rec m.key ≡ true → R p (still (proposed p (waiting m.value)))
    pub drop : (p : Party) → Now p m 4 → m.from ≡ primary g p.rec.view → p.rec.proposal ≡ nothing → g.allows m.value ≡ true →
        lock_fits g me p.rec m.value ≡ false → may_wait g me p.rec m.key ≡ false → R p (still (proposed p dropped))
    pub wake : (p : Party) → Wakes m → R p (wake g me p)
    pub vote : (p : Party) → 5 ≤ m.kind → m.kind ≤ 8 → m.view ≡ p.rec.view → (p.rows m.from).vote m.kind ≡ None → R p (on_vote g me p m)
    pub lock : (p : Party) → Now p m 9 → (p.rows m.from).vote 9 ≡ None → R p (on_lock g me p m)
    pub done : (p : Party) → m.kind ≡ 10 → (p.rows m.from).done ≡ None → R p (on_done g me p m)
    pub abort : (p : Party) → m.kind ≡ 11 → R p (still (raised_row p m))
    pub raise : (p : Party) (u : ℕ) → Turn m → (p.rows me).abort < u → R p (say_abort g me p u)
    pub then : (p : Party) (s : Step) (f : Party → Step) → R p s → R s.after (f s.after) → R p (and_then s f)

  is_fresh : (x : Proposal) → is_nothing g x ≡ true → x ≡ nothing
  is_fresh nothing e = refl
  is_fresh (waiting x) e = absurd (let z : ◌≡◌ {A = ℕ} 0 1 = grind arith in omega arith)
  is_fresh (echoed x) e = absurd (let z : ◌≡◌ {A = ℕ} 0 1 = grind arith in omega arith)
  is_fresh dropped e = absurd (let z : ◌≡◌ {A = ℕ} 0 1 = grind arith in omega arith)

  -- ## What is heeded passes the tests of its kind
  module _ (p : Party) (h : heeded g me p m ≡ true) where
    heeds_request : m.kind ≡ 1 → (p.rows m.from).request < m.view
    heeds_request k = grind (arith, nat_tests)

    heeds_view : 2 ≤ m.kind → m.kind ≤ 9 → m.view ≡ p.rec.view
    heeds_view lo hi = grind (arith, nat_tests)

    heeds_suggest : m.kind ≡ 2 → none (p.rows m.from).suggest ≡ true
    heeds_suggest k = grind (arith, nat_tests)

    heeds_proof : m.kind ≡ 3 → none (p.rows m.from).proof ≡ true
    heeds_proof k = grind (arith, nat_tests)

    heeds_propose : m.kind ≡ 4 → (m.from ≡ primary g p.rec.view) × (is_nothing g p.rec.proposal ≡ true)
    heeds_propose k = grind (arith, nat_tests)

    heeds_vote : 5 ≤ m.kind → m.kind ≤ 9 → none ((p.rows m.from).vote m.kind) ≡ true
    heeds_vote lo hi = grind (arith, nat_tests)

    heeds_done : m.kind ≡ 10 → none (p.rows m.from).done ≡ true
    heeds_done k = grind (arith, nat_tests)

    heeds_kind : (1 ≤ m.kind) × (m.kind ≤ 11)
    heeds_kind = grind (arith, nat_tests)

  module _ (R : Party → Step → Type 0) (parts : Parts R) where
    walk_leave : (p : Party) → Turn m → R p (leave g me p)
    unfolding leave
    walk_leave p t =
        cond_both (leb p.rec.view (reached g (aborts g me p))) _ _ (R p)
        (λ a. parts.enter p _ t (let h = leb-true _ _ a in omega arith)) (λ a. parts.stay p)

    walk_join : (p : Party) → Turn m → R p (join_abort g me p)
    unfolding join_abort
    walk_join p t =
        cond_both (ltb (aborts g me p me) (vouched g (aborts g me p))) _ _ (R p) (λ a. parts.raise p _ t (ltb-true _ _ a)) (λ a. parts.stay p)

    walk_abort : (p : Party) → m.kind ≡ 11 → R p (on_abort g me p m)
    unfolding on_abort
    walk_abort p k = parts.then p (join_abort g me (raised_row p m)) (leave g me) (parts.then p (still (raised_row p m)) (join_abort g me) (parts.abort p k) (walk_join _ (inr k))) (walk_leave _ (inr k))

    walk_propose : (p : Party) → Now p m 4 → m.from ≡ primary g p.rec.view → p.rec.proposal ≡ nothing → R p (on_propose g me p m)
    unfolding on_propose
    walk_propose p k f n =
        cond_both (not (g.allows m.value)) _ _ (R p)
        (λ a. parts.forbid p k f n (grind arith))
        (λ a. let a₁ : g.allows m.value ≡ true = grind arith in
        cond_both (lock_fits g me p.rec m.value) _ _ (R p) (λ b. parts.echo p k f n a₁ b)
        (λ b. cond_both (may_wait g me p.rec m.key) _ _ (R p)
        (λ c. parts.then p (still (proposed p (waiting m.value))) (wake g me) (parts.wait p k f n a₁ b c) (parts.wake _ (inr (inl k.0))))
        (λ c. parts.drop p k f n a₁ b c)))

    walk_proof : (p : Party) → Now p m 3 → (p.rows m.from).proof ≡ None → R p (on_proof g me p m)
    unfolding on_proof
    walk_proof p k n = parts.then p (still (told_proof g me p m)) (wake g me) (parts.proof p k n) (parts.wake _ (inl k.0))

    pub walk_step : (p : Party) → R p (step g me p m)
    unfolding step
    walk_step p =
        cond_both (heeded g me p m) _ _ (R p)
        (λ h.
        cond_both (eqb m.kind 1) _ _ (R p) (λ e. let k = eqb-true _ _ e in parts.request p k (heeds_request p h k))
        (λ n₁. cond_both (eqb m.kind 2) _ _ (R p)
        (λ e. let k = eqb-true _ _ e in parts.suggest p (k, heeds_view p h (omega arith) (omega arith)) (none_is _ (heeds_suggest p h k)))
        (λ n₂. cond_both (eqb m.kind 3) _ _ (R p)
        (λ e. let k = eqb-true _ _ e in walk_proof p (k, heeds_view p h (omega arith) (omega arith)) (none_is _ (heeds_proof p h k)))
        (λ n₃. cond_both (eqb m.kind 4) _ _ (R p)
        (λ e. let k = eqb-true _ _ e in let q = heeds_propose p h k in walk_propose p (k, heeds_view p h (omega arith) (omega arith)) q.0 (is_fresh _ q.1))
        (λ n₄. let r = heeds_kind p h in
        let lo : 5 ≤ m.kind = let a = eqb-false _ _ n₁ in let b = eqb-false _ _ n₂ in let c = eqb-false _ _ n₃ in let d = eqb-false _ _ n₄ in omega arith in
        cond_both (leb m.kind 7) _ _ (R p)
        (λ e. let k = leb-true _ _ e in parts.vote p lo (omega arith) (heeds_view p h (omega arith) (omega arith)) (none_is _ (heeds_vote p h lo (omega arith))))
        (λ n₅. cond_both (eqb m.kind 8) _ _ (R p)
        (λ e. let k = eqb-true _ _ e in
        parts.then p (on_vote g me p m) (wake g me) (parts.vote p lo (omega arith) (heeds_view p h (omega arith) (omega arith)) (none_is _ (heeds_vote p h lo (omega arith)))) (parts.wake _ (inr (inr k))))
        (λ n₆. cond_both (eqb m.kind 9) _ _ (R p)
        (λ e. let k = eqb-true _ _ e in parts.lock p (k, heeds_view p h (omega arith) (omega arith))
        (subst (λ i. (p.rows m.from).vote i ≡ None) k (none_is _ (heeds_vote p h lo (omega arith)))))
        (λ n₇. cond_both (eqb m.kind 10) _ _ (R p)
        (λ e. let k = eqb-true _ _ e in parts.done p k (none_is _ (heeds_done p h k)))
        (λ n₈. walk_abort p (let a = leb-false _ _ n₅ in let b = eqb-false _ _ n₆ in let c = eqb-false _ _ n₇ in let d = eqb-false _ _ n₈ in omega arith))))))))))
        (λ h. parts.stay p)

    pub walk_timer : (p : Party) → m.kind ≡ 0 → R p (on_timer g me p)
    unfolding on_timer
    walk_timer p k =
        parts.then p _ (leave g me)
        (cond_both (ltb (aborts g me p me) p.rec.view) _ _ (R p) (λ a. parts.raise p _ (inl k) (ltb-true _ _ a)) (λ a. parts.stay p)) (walk_leave _ (inl k))
