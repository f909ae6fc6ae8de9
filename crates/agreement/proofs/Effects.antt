-- What one part of a step can change in a party, and which test had passed. Nothing here knows of honesty.
use Rattle.std.proofs.Common.{◌≡◌, ℕ, suc, ◌<◌, ◌≤◌, max, true, false, cond, not, ◌&&◌, ◌||◌, ltb, leb, ◌⊎◌, List, Some, None, Option, refl, arith}
use Rattle.std.proofs.lemmas.Bool.{cond_both, and_parts, leb-true}
use Rattle.std.proofs.lemmas.Bool.Decides.{nat_tests}
use Rattle.values.specs.Same.{equal}
use Rattle.messages.specs.Messages.{Msg}
use Rattle.rules.specs.Party.{Setting, Suggest, Proof, Proposal, nothing, waiting, echoed, dropped, Row, Party, Step, with_rec, with_proposal, with_row, with_abort, still, and_then, none}
use Rattle.rules.specs.Thresholds.{primary, quorum, vouched, reached}
use Rattle.rules.specs.Tests.{lock_opened, accepted, voted, done_vouched, done_agreed, best}
use Rattle.rules.specs.Step.{enter, on_request, told_suggest, propose, propose_due, on_suggest, echo, wake_proposal, lock_fits, may_wait, told_proof, told_vote, keeps_previous, announce_due, on_vote, on_lock, say_done, told_done, decide, on_done, aborts, say_abort, join_abort, leave}

-- a field of kind k stays, or moves to the view: then a quorum in the rows voted the message's value by the kind before
module _ (g : Setting) (me : ℕ) (p : Party) (m : Msg) (q : Party) where
  abbrev pub Field : ℕ → Type 0
  Field k =
      ((q.rec.field k ≡ p.rec.field k) × (q.rec.previous k ≡ p.rec.previous k)) ⊎
      ((k ≡ suc m.kind) × (5 ≤ m.kind) × (m.kind ≤ 8) × ((p.rec.field k).at < p.rec.view) × (q.rec.view ≡ p.rec.view) ×
      (q.rec.field k ≡ record { at = p.rec.view; value = m.value }) ×
      (q.rec.previous k ≡ cond (keeps_previous g me k && not (equal (p.rec.field k).value m.value)) (Some (p.rec.field k).at) (p.rec.previous k)) ×
      (voted g q m.kind m.value ≡ true))

  -- the proposal of the view stays, is forgotten with the view, is taken in, or a waiting one is echoed
  abbrev pub Proposed : Type 0
  Proposed =
      ((q.rec.view ≡ p.rec.view) × (q.rec.proposal ≡ p.rec.proposal)) ⊎
      (((p.rec.view < q.rec.view) × (q.rec.proposal ≡ nothing)) ⊎
      (((q.rec.view ≡ p.rec.view) × (p.rec.proposal ≡ nothing) × (m.kind ≡ 4) × (m.view ≡ p.rec.view) × (m.from ≡ primary g p.rec.view) × (q.rec.field ≡ p.rec.field) ×
      ((q.rec.proposal ≡ dropped) ⊎
      ((g.allows m.value ≡ true) ×
      (((q.rec.proposal ≡ waiting m.value) × (lock_fits g me p.rec m.value ≡ false) × (may_wait g me p.rec m.key ≡ true)) ⊎
      ((q.rec.proposal ≡ echoed m.value) × (lock_fits g me p.rec m.value ≡ true)))))) ⊎
      ((x : List ℕ) × (q.rec.view ≡ p.rec.view) × (p.rec.proposal ≡ waiting x) × (q.rec.proposal ≡ echoed x) × (q.rec.field ≡ p.rec.field) ×
      ((equal (p.rec.field 9).value x ≡ true) ⊎ (lock_opened g q ≡ true)))))

  -- an entry of the view: gone, kept, or the message's
  abbrev pub Entry : {X : Type 0} → (Row → Option X) → ℕ → X → ℕ → Type 0
  Entry e kind x j =
      (e (q.rows j) ≡ None) ⊎ (((q.rec.view ≡ p.rec.view) × (e (q.rows j) ≡ e (p.rows j))) ⊎
      ((q.rec.view ≡ p.rec.view) × (m.from ≡ j) × (m.kind ≡ kind) × (m.view ≡ p.rec.view) × (e (p.rows j) ≡ None) × (e (q.rows j) ≡ Some x)))

-- the message's contents as a row keeps them
abbrev pub suggest_in : Msg → Suggest
suggest_in m = record { key3 = record { at = m.key; value = m.value }; key2 = record { at = m.second_key; value = m.second_value }; previous = m.previous }

abbrev pub proof_in : Msg → Proof
proof_in m = record { key1 = record { at = m.key; value = m.value }; previous = m.previous }

-- what one part of a step can do to a party p, which becomes q
pub record Effect (g : Setting) (me : ℕ) (p : Party) (m : Msg) (q : Party) : Type 0 where
  pub view : (q.rec.view ≡ p.rec.view) ⊎ (p.rec.view < q.rec.view)
  pub field : (k : ℕ) → Field g me p m q k
  pub proposal : Proposed g me p m q
  -- suggest and proof are fixed on entering a view, from what the fields then are
  pub suggest : ((q.rec.view ≡ p.rec.view) × (q.rec.suggest ≡ p.rec.suggest)) ⊎
      ((p.rec.view < q.rec.view) × (q.rec.suggest ≡ record { key3 = p.rec.field 8; key2 = p.rec.field 7; previous = p.rec.previous 7 }))
  pub proof : ((q.rec.view ≡ p.rec.view) × (q.rec.proof ≡ p.rec.proof)) ⊎
      ((p.rec.view < q.rec.view) × (q.rec.proof ≡ record { key1 = p.rec.field 6; previous = p.rec.previous 6 }))
  -- a propose is made from the best of a quorum of accepted suggests
  pub offer : ((q.rec.view ≡ p.rec.view) × (q.rec.offer ≡ p.rec.offer)) ⊎
      (((p.rec.view < q.rec.view) × (q.rec.offer ≡ None)) ⊎
      ((s : Suggest) × (q.rec.view ≡ p.rec.view) × (p.rec.offer ≡ None) × (m.kind ≡ 2) × (best g q g.n ≡ Some s) × (quorum g (λ j. accepted g q j) ≡ true) ×
      (q.rec.offer ≡ Some s.key3)))
  pub done : (q.rec.done ≡ p.rec.done) ⊎
      ((p.rec.done ≡ None) × (q.rec.done ≡ Some m.value) × ((voted g q 9 m.value ≡ true) ⊎ (done_vouched g q m.value ≡ true)))
  pub decision : (q.rec.decision ≡ p.rec.decision) ⊎
      ((q.rec.decision ≡ Some m.value) × (done_agreed g q m.value ≡ true) × ((none q.rec.done ≡ false) ⊎ (done_vouched g q m.value ≡ false)))
  pub row_vote : (j k : ℕ) → Entry g me p m q (λ r. r.vote k) k m.value j
  pub row_suggest : (j : ℕ) → Entry g me p m q (λ r. r.suggest) 2 (suggest_in m) j
  pub row_proof : (j : ℕ) → Entry g me p m q (λ r. r.proof) 3 (proof_in m) j
  pub row_done : (j : ℕ) → ((q.rows j).done ≡ (p.rows j).done) ⊎ ((m.from ≡ j) × (m.kind ≡ 10) × ((p.rows j).done ≡ None) × ((q.rows j).done ≡ Some m.value))
  pub row_request : (j : ℕ) → ((q.rows j).request ≡ (p.rows j).request) ⊎
      ((m.from ≡ j) × (m.kind ≡ 1) × ((p.rows j).request < m.view) × ((q.rows j).request ≡ m.view) × (q.rec ≡ p.rec))
  pub row_abort : (j : ℕ) → ((q.rows j).abort ≡ (p.rows j).abort) ⊎
      (((m.from ≡ j) × (m.kind ≡ 11) × ((p.rows j).abort < m.view) × ((q.rows j).abort ≡ m.view)) ⊎ ((j ≡ me) × ((p.rows j).abort < (q.rows j).abort)))

module _ (g : Setting) (me : ℕ) (p : Party) (m : Msg) where
  pub record E (s : Step) : Type 0 where
    pub holds : Effect g me p m s.after

  pub still_effect : E (still p)
  still_effect = record { holds = grind (arith, nat_tests) }

  pub request_effect : m.kind ≡ 1 → (p.rows m.from).request < m.view → E (on_request g me p m)
  unfolding on_request
  request_effect k h = record { holds = grind (arith, nat_tests) }

  pub enter_effect : (v : ℕ) → p.rec.view < v → E (enter g me p v)
  unfolding enter
  enter_effect v h = record { holds = grind (arith, nat_tests) }

  -- ## The parts of the handlers of kinds 2 to 9, in their own view
  module _ (v : m.view ≡ p.rec.view) where
    suggested_effect : (o : Option Suggest) → m.kind ≡ 2 → (p.rows m.from).suggest ≡ None → propose_due g me (told_suggest g me p m) ≡ true →
        best g (told_suggest g me p m) g.n ≡ o → E (propose g me (told_suggest g me p m) o)
    suggested_effect None k f d b = record { holds = grind (arith, nat_tests) }
    suggested_effect (Some s) k f d b =
        let a = and_parts (none p.rec.offer) _ d in
        let a₀ = a.0 in
        let a₁ = a.1 in
        record { holds = grind (arith, nat_tests) }

    pub suggest_effect : m.kind ≡ 2 → (p.rows m.from).suggest ≡ None → E (on_suggest g me p m)
    unfolding on_suggest
    suggest_effect k f =
        cond_both (propose_due g me (told_suggest g me p m)) _ _ E (λ d. suggested_effect _ k f d refl) (λ d. record { holds = grind (arith, nat_tests) })

    pub told_proof_effect : m.kind ≡ 3 → (p.rows m.from).proof ≡ None → E (still (told_proof g me p m))
    told_proof_effect k f = record { holds = grind (arith, nat_tests) }

    module _ (k : m.kind ≡ 4) (f : m.from ≡ primary g p.rec.view) (n : p.rec.proposal ≡ nothing) where
      pub drop_effect : E (still (with_rec p (with_proposal p.rec dropped)))
      drop_effect = record { holds = grind (arith, nat_tests) }

      pub echo_effect : g.allows m.value ≡ true → lock_fits g me p.rec m.value ≡ true → E (echo g me p m.value)
      echo_effect a l = record { holds = grind (arith, nat_tests) }

      pub wait_effect : g.allows m.value ≡ true → lock_fits g me p.rec m.value ≡ false → may_wait g me p.rec m.key ≡ true →
          E (still (with_rec p (with_proposal p.rec (waiting m.value))))
      wait_effect a l w = record { holds = grind (arith, nat_tests) }

    pub vote_effect : 5 ≤ m.kind → m.kind ≤ 8 → (p.rows m.from).vote m.kind ≡ None → E (on_vote g me p m)
    unfolding on_vote
    vote_effect lo hi f =
        cond_both (announce_due g me (told_vote g me p m) m.kind m.value) _ _ E
        (λ d. let a = and_parts (voted g (told_vote g me p m) m.kind m.value) _ d in
        let a₀ = a.0 in
        let a₁ = a.1 in
        record { holds = grind (arith, nat_tests) })
        (λ d. record { holds = grind (arith, nat_tests) })

    pub lock_effect : m.kind ≡ 9 → (p.rows m.from).vote 9 ≡ None → E (on_lock g me p m)
    unfolding on_lock
    lock_effect k f =
        cond_both (none p.rec.done && voted g (told_vote g me p m) 9 m.value) _ _ E
        (λ d. let a = and_parts (none p.rec.done) _ d in
        let a₀ = a.0 in
        let a₁ = a.1 in
        record { holds = grind (arith, nat_tests) })
        (λ d. record { holds = grind (arith, nat_tests) })

  pub wake_effect : (x : Proposal) → p.rec.proposal ≡ x → E (wake_proposal g me x p)
  wake_effect nothing e = still_effect
  wake_effect (waiting x) e =
      cond_both (equal (p.rec.field 9).value x || lock_opened g p) _ _ E (λ a. record { holds = grind (arith, nat_tests) }) (λ a. still_effect)
  wake_effect (echoed x) e = still_effect
  wake_effect dropped e = still_effect

  -- ## Done, abort, timer
  pub done_effect : m.kind ≡ 10 → (p.rows m.from).done ≡ None → E (on_done g me p m)
  unfolding on_done
  done_effect k f =
      cond_both (none p.rec.done && done_vouched g (told_done g me p m) m.value) _ _ (λ (s : Step). E (and_then s (decide g me m.value)))
      (λ d. cond_both (done_agreed g (told_done g me p m) m.value) _ _ (λ (t : Step). E (and_then (say_done g me (told_done g me p m) m.value) (λ _. t)))
      (λ a. record { holds = grind (arith, nat_tests) }) (λ a. record { holds = grind (arith, nat_tests) }))
      (λ d. cond_both (done_agreed g (told_done g me p m) m.value) _ _ E
      (λ a. record { holds = grind (arith, nat_tests) }) (λ a. record { holds = grind (arith, nat_tests) }))

  pub raise_effect : (u : ℕ) → (p.rows me).abort < u → E (say_abort g me p u)
  raise_effect u h = record { holds = grind (arith, nat_tests) }

  pub told_abort_effect : m.kind ≡ 11 → E (still (with_row p m.from (with_abort (p.rows m.from) (max (p.rows m.from).abort m.view))))
  told_abort_effect k = record { holds = grind (arith, nat_tests) }

  pub join_effect : E (join_abort g me p)
  unfolding join_abort
  join_effect =
      cond_both (ltb (aborts g me p me) (vouched g (aborts g me p))) _ _ E (λ a. raise_effect _ (grind (arith, nat_tests))) (λ a. still_effect)

  pub leave_effect : E (leave g me p)
  unfolding leave
  leave_effect =
      cond_both (leb p.rec.view (reached g (aborts g me p))) _ _ E
      (λ a. enter_effect _ (let h = leb-true _ _ a in omega arith)) (λ a. still_effect)
