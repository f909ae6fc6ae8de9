-- More of what one part of a step does: what it never takes back, what it draws from a full tally, and why it drops a proposal.
use Rattle.std.proofs.Common.{◌≡◌, ℕ, suc, ◌<◌, ◌≤◌, true, false, ◌&&◌, ◌||◌, ◌⊎◌, Some, None, Option, refl, arith}
use Rattle.std.proofs.lemmas.Bool.{cond_both}
use Rattle.std.proofs.lemmas.Bool.Decides.{nat_tests}
use Rattle.values.specs.Same.{equal}
use Rattle.messages.specs.Messages.{Msg}
use Rattle.rules.specs.Party.{Setting, Suggest, Proposal, nothing, waiting, echoed, dropped, Party, Step, still, and_then, none}
use Rattle.rules.specs.Thresholds.{primary, quorum}
use Rattle.rules.specs.Tests.{lock_opened, accepted, voted, done_vouched, done_agreed, best, is_nothing}
use Rattle.rules.specs.Step.{enter, on_request, told_suggest, propose, propose_due, on_suggest, echo, wake_proposal, lock_fits, may_wait, told_proof, told_vote, announce_due, on_vote, on_lock, say_done, told_done, decide, on_done, say_abort}
use Rattle.agreement.proofs.Walk.{Now, Turn, Wakes, raised_row, proposed}

-- ## What a part never takes back
pub record Keeps (g : Setting) (p q : Party) : Type 0 where
  pub view : p.rec.view ≤ q.rec.view
  pub decision : none p.rec.decision ≡ false → none q.rec.decision ≡ false
  pub request : (j : ℕ) → (p.rows j).request ≤ (q.rows j).request
  pub done : (j : ℕ) → none (p.rows j).done ≡ false → none (q.rows j).done ≡ false
  pub suggest : (j : ℕ) → q.rec.view ≡ p.rec.view → none (p.rows j).suggest ≡ false → none (q.rows j).suggest ≡ false
  pub proof : (j : ℕ) → q.rec.view ≡ p.rec.view → none (p.rows j).proof ≡ false → none (q.rows j).proof ≡ false
  pub vote : (j k : ℕ) → q.rec.view ≡ p.rec.view → none ((p.rows j).vote k) ≡ false → none ((q.rows j).vote k) ≡ false
  pub proposal : q.rec.view ≡ p.rec.view → is_nothing g p.rec.proposal ≡ false → is_nothing g q.rec.proposal ≡ false

-- ## What a part draws from the tally that its message has filled
pub record Draws (g : Setting) (p : Party) (m : Msg) (q : Party) : Type 0 where
  pub vote : 5 ≤ m.kind → m.kind ≤ 8 → voted g q m.kind m.value ≡ true →
      (q.rec.view ≤ (q.rec.field (suc m.kind)).at) ⊎ (voted g p m.kind m.value ≡ true)
  pub lock : m.kind ≡ 9 → voted g q 9 m.value ≡ true → (none q.rec.done ≡ false) ⊎ (voted g p 9 m.value ≡ true)
  pub join : m.kind ≡ 10 → done_vouched g q m.value ≡ true → none q.rec.done ≡ false
  pub decide : m.kind ≡ 10 → done_agreed g q m.value ≡ true → none q.rec.decision ≡ false
  pub offer : m.kind ≡ 2 → quorum g (λ j. accepted g q j) ≡ true →
      (none q.rec.offer ≡ false) ⊎ ((q.rec.offer ≡ p.rec.offer) × (best g q g.n ≡ None))

-- ## Why a proposal is dropped
-- party p cannot follow the propose m: its value is not allowed, or its key does not reach the lock
abbrev pub Misfits : Setting → Party → Msg → Type 0
Misfits g p m =
    (g.allows m.value ≡ false) ⊎
    ((0 < (p.rec.field 9).at) × (equal (p.rec.field 9).value m.value ≡ false) × ((m.key < (p.rec.field 9).at) ⊎ (p.rec.view ≤ m.key)))

pub record Drops (g : Setting) (p : Party) (m : Msg) (q : Party) : Type 0 where
  pub why : q.rec.proposal ≡ dropped → (q.rec.view ≡ p.rec.view) ×
      ((p.rec.proposal ≡ dropped) ⊎ ((m.kind ≡ 4) × (m.view ≡ p.rec.view) × (m.from ≡ primary g p.rec.view) × (q.rec.field ≡ p.rec.field) × Misfits g p m))

module _ (g : Setting) (me : ℕ) (p : Party) (m : Msg) where
  pub record D (s : Step) : Type 0 where
    pub keeps : Keeps g p s.after
    pub draws : Draws g p m s.after
    pub drops : Drops g p m s.after

  pub request_drawn : m.kind ≡ 1 → (p.rows m.from).request < m.view → D (on_request g me p m)
  unfolding on_request
  request_drawn k h = record { keeps = grind (arith, nat_tests); draws = grind (arith, nat_tests); drops = grind (arith, nat_tests) }

  pub enter_drawn : (v : ℕ) → Turn m → p.rec.view < v → D (enter g me p v)
  unfolding enter
  enter_drawn v t h = record { keeps = grind (arith, nat_tests); draws = grind (arith, nat_tests); drops = grind (arith, nat_tests) }

  suggested_drawn : (o : Option Suggest) → m.kind ≡ 2 → (p.rows m.from).suggest ≡ None → best g (told_suggest g me p m) g.n ≡ o → D (propose g me (told_suggest g me p m) o)
  suggested_drawn None k f b = record { keeps = grind (arith, nat_tests); draws = grind (arith, nat_tests); drops = grind (arith, nat_tests) }
  suggested_drawn (Some s) k f b = record { keeps = grind (arith, nat_tests); draws = grind (arith, nat_tests); drops = grind (arith, nat_tests) }

  pub suggest_drawn : m.kind ≡ 2 → (p.rows m.from).suggest ≡ None → D (on_suggest g me p m)
  unfolding on_suggest
  suggest_drawn k f =
      cond_both (propose_due g me (told_suggest g me p m)) _ _ D (λ d. suggested_drawn _ k f refl) (λ d. record { keeps = grind (arith, nat_tests); draws = grind (arith, nat_tests); drops = grind (arith, nat_tests) })

  pub proof_drawn : m.kind ≡ 3 → (p.rows m.from).proof ≡ None → D (still (told_proof g me p m))
  proof_drawn k f = record { keeps = grind (arith, nat_tests); draws = grind (arith, nat_tests); drops = grind (arith, nat_tests) }

  module _ (now : Now p m 4) (f : m.from ≡ primary g p.rec.view) (n : p.rec.proposal ≡ nothing) where
    pub forbid_drawn : g.allows m.value ≡ false → D (still (proposed p dropped))
    forbid_drawn a = let k = now.0 in let v = now.1 in record { keeps = grind (arith, nat_tests); draws = grind (arith, nat_tests); drops = grind (arith, nat_tests) }

    pub echo_drawn : D (echo g me p m.value)
    echo_drawn = let k = now.0 in let v = now.1 in record { keeps = grind (arith, nat_tests); draws = grind (arith, nat_tests); drops = grind (arith, nat_tests) }

    pub wait_drawn : D (still (proposed p (waiting m.value)))
    wait_drawn = let k = now.0 in let v = now.1 in record { keeps = grind (arith, nat_tests); draws = grind (arith, nat_tests); drops = grind (arith, nat_tests) }

    pub drop_drawn : lock_fits g me p.rec m.value ≡ false → may_wait g me p.rec m.key ≡ false → D (still (proposed p dropped))
    drop_drawn b c = let k = now.0 in let v = now.1 in record { keeps = grind (arith, nat_tests); draws = grind (arith, nat_tests); drops = grind (arith, nat_tests) }

  pub wake_drawn : Wakes m → (x : Proposal) → p.rec.proposal ≡ x → D (wake_proposal g me x p)
  wake_drawn t nothing e = record { keeps = grind (arith, nat_tests); draws = grind (arith, nat_tests); drops = grind (arith, nat_tests) }
  wake_drawn t (waiting x) e =
      cond_both (equal (p.rec.field 9).value x || lock_opened g p) _ _ D
      (λ a. record { keeps = grind (arith, nat_tests); draws = grind (arith, nat_tests); drops = grind (arith, nat_tests) }) (λ a. record { keeps = grind (arith, nat_tests); draws = grind (arith, nat_tests); drops = grind (arith, nat_tests) })
  wake_drawn t (echoed x) e = record { keeps = grind (arith, nat_tests); draws = grind (arith, nat_tests); drops = grind (arith, nat_tests) }
  wake_drawn t dropped e = record { keeps = grind (arith, nat_tests); draws = grind (arith, nat_tests); drops = grind (arith, nat_tests) }

  pub vote_drawn : 5 ≤ m.kind → m.kind ≤ 8 → (p.rows m.from).vote m.kind ≡ None → D (on_vote g me p m)
  unfolding on_vote
  vote_drawn lo hi f =
      cond_both (announce_due g me (told_vote g me p m) m.kind m.value) _ _ D
      (λ d. record { keeps = grind (arith, nat_tests); draws = grind (arith, nat_tests); drops = grind (arith, nat_tests) })
      (λ d. record { keeps = grind (arith, nat_tests); draws = grind (arith, nat_tests); drops = grind (arith, nat_tests) })

  pub lock_drawn : m.kind ≡ 9 → (p.rows m.from).vote 9 ≡ None → D (on_lock g me p m)
  unfolding on_lock
  lock_drawn k f =
      cond_both (none p.rec.done && voted g (told_vote g me p m) 9 m.value) _ _ D
      (λ d. record { keeps = grind (arith, nat_tests); draws = grind (arith, nat_tests); drops = grind (arith, nat_tests) })
      (λ d. record { keeps = grind (arith, nat_tests); draws = grind (arith, nat_tests); drops = grind (arith, nat_tests) })

  pub done_drawn : m.kind ≡ 10 → (p.rows m.from).done ≡ None → D (on_done g me p m)
  unfolding on_done
  done_drawn k f =
      cond_both (none p.rec.done && done_vouched g (told_done g me p m) m.value) _ _ (λ (s : Step). D (and_then s (decide g me m.value)))
      (λ d. cond_both (done_agreed g (told_done g me p m) m.value) _ _ (λ (t : Step). D (and_then (say_done g me (told_done g me p m) m.value) (λ _. t)))
      (λ a. record { keeps = grind (arith, nat_tests); draws = grind (arith, nat_tests); drops = grind (arith, nat_tests) })
      (λ a. record { keeps = grind (arith, nat_tests); draws = grind (arith, nat_tests); drops = grind (arith, nat_tests) }))
      (λ d. cond_both (done_agreed g (told_done g me p m) m.value) _ _ D
      (λ a. record { keeps = grind (arith, nat_tests); draws = grind (arith, nat_tests); drops = grind (arith, nat_tests) })
      (λ a. record { keeps = grind (arith, nat_tests); draws = grind (arith, nat_tests); drops = grind (arith, nat_tests) }))

  pub abort_drawn : m.kind ≡ 11 → D (still (raised_row p m))
  abort_drawn k = record { keeps = grind (arith, nat_tests); draws = grind (arith, nat_tests); drops = grind (arith, nat_tests) }

  pub raise_drawn : (u : ℕ) → Turn m → D (say_abort g me p u)
  raise_drawn u t = record { keeps = grind (arith, nat_tests); draws = grind (arith, nat_tests); drops = grind (arith, nat_tests) }
