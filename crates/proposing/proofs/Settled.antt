-- The proposal's next state is what the rules of propose and of a waiting proposal say.
use Rattle.std.proofs.Common.{◌≡◌, ℕ, Bool, true, false, cond, not, ◌&&◌, ◌||◌, eqb, List, sym, refl, ap, ◌∙◌, arith}
use Rattle.std.proofs.lemmas.Bool.Decides.{nat_tests}
use Rattle.values.specs.Same.{equal}
use Rattle.messages.specs.Messages.{Msg}
use Rattle.rules.specs.Counting.{upd}
use Rattle.rules.specs.Party.{Setting, Proposal, nothing, waiting, echoed, dropped, Row, Party, Step, still, with_rec, with_proof, with_proposal}
use Rattle.rules.specs.Tests.{lock_opened}
use Rattle.rules.specs.Step.{lock_fits, may_wait, echo, wake, wake_proposal, on_propose, on_proof}
use Rattle.proposing.specs.Proposals.{next_state, is_settled, is_held, take_up, next_of, settled}
use Rattle.posting.proofs.Choosing.{passed, failed}

-- the rule of a propose by its tests, in the order of the rules and in that of the states
in_order : (al z eq mw op : Bool) (dr ec wt : Step) →
    cond (al && (z || eq)) ec (cond (al && mw) (cond op ec wt) dr) ≡ cond (not al) dr (cond (z || eq) ec (cond mw (cond (eq || op) ec wt) dr))
in_order false z eq mw op dr ec wt = refl
in_order true true eq mw op dr ec wt = refl
in_order true false true mw op dr ec wt = refl
in_order true false false mw op dr ec wt = refl

by_state : (f : Proposal → Step) (a b c : Bool) (e w d : Proposal) → f (cond a e (cond b (cond c e w) d)) ≡ cond a (f e) (cond b (cond c (f e) (f w)) (f d))
by_state f true b c e w d = refl
by_state f false true true e w d = refl
by_state f false true false e w d = refl
by_state f false false c e w d = refl

by_two : (f : Proposal → Step) (b : Bool) (e w : Proposal) → f (cond b e w) ≡ cond b (f e) (f w)
by_two f true e w = refl
by_two f false e w = refl

module _ (g : Setting) (me : ℕ) (p : Party) (m : Msg) where
  pub settled_still : true ≡ is_settled p.rec.proposal → settled g me p m ≡ still p
  unfolding settled
  settled_still h = passed (is_settled p.rec.proposal) (still p) (take_up g me p (next_of g me p m)) h

  pub settled_taken : (s : Proposal) → false ≡ is_settled p.rec.proposal → s ≡ next_of g me p m → settled g me p m ≡ take_up g me p s
  unfolding settled
  settled_taken s h e = failed (is_settled p.rec.proposal) (still p) (take_up g me p (next_of g me p m)) h ∙ ap (take_up g me p) (sym e)

  abbrev fits : Bool
  fits = g.allows m.value && lock_fits g me p.rec m.value

  abbrev waits : Bool
  waits = g.allows m.value && may_wait g me p.rec m.key

  abbrev settled_at : Proposal → ℕ → Step
  settled_at s k = cond (is_settled s) (still p) (take_up g me p (next_state s k m.value fits waits (is_held (p.rec.field 9).value s || lock_opened g p)))

  pub settled_propose : m.kind ≡ 4 → p.rec.proposal ≡ nothing → settled g me p m ≡ on_propose g me p m
  unfolding settled on_propose wake
  settled_propose k e =
      ap (λ s. settled_at s m.kind) e ∙ (ap (settled_at nothing) k ∙
      (by_state (take_up g me p) fits waits (lock_opened g p) (echoed m.value) (waiting m.value) dropped ∙
      in_order (g.allows m.value) (eqb (p.rec.field 9).at 0) (equal (p.rec.field 9).value m.value) (may_wait g me p.rec m.key) (lock_opened g p)
      (still (with_rec p (with_proposal p.rec dropped))) (echo g me p m.value) (still (with_rec p (with_proposal p.rec (waiting m.value))))))

  -- with the state that it has, nothing changes
  kept : (s : Proposal) → p.rec.proposal ≡ s → still (with_rec p (with_proposal p.rec s)) ≡ still p
  kept s e = ap (λ t. still (with_rec p (with_proposal p.rec t))) (sym e)

  at_nothing : eqb m.kind 4 ≡ false → p.rec.proposal ≡ nothing → settled_at nothing m.kind ≡ still p
  at_nothing k e = ap (λ c. take_up g me p (cond c (cond fits (echoed m.value) (cond waits (cond (lock_opened g p) (echoed m.value) (waiting m.value)) dropped)) nothing)) k ∙ kept nothing e

  at_waiting : (y : List ℕ) → (eqb m.kind 3 || eqb m.kind 8) ≡ true → p.rec.proposal ≡ waiting y → settled_at (waiting y) m.kind ≡ wake_proposal g me (waiting y) p
  at_waiting y k e =
      let free = equal (p.rec.field 9).value y || lock_opened g p in
      ap (λ c. take_up g me p (cond (c && free) (echoed y) (waiting y))) k ∙ (by_two (take_up g me p) free (echoed y) (waiting y) ∙
      ap (cond free (echo g me p y)) (kept (waiting y) e))

  at_state : (s : Proposal) → (eqb m.kind 3 || eqb m.kind 8) ≡ true → eqb m.kind 4 ≡ false → p.rec.proposal ≡ s → settled_at s m.kind ≡ wake_proposal g me s p
  at_state nothing k n e = at_nothing n e
  at_state (waiting y) k n e = at_waiting y k e
  at_state (echoed y) k n e = refl
  at_state dropped k n e = refl

  not_propose : (eqb m.kind 3 || eqb m.kind 8) ≡ true → eqb m.kind 4 ≡ false
  not_propose k = grind (arith, nat_tests)

  pub settled_wake : (eqb m.kind 3 || eqb m.kind 8) ≡ true → settled g me p m ≡ wake g me p
  unfolding settled wake
  settled_wake k = at_state p.rec.proposal k (not_propose k) refl

  pub proof_told : (rows : ℕ → Row) → rows ≡ upd p.rows m.from (with_proof (p.rows m.from) (record { key1 = record { at = m.key; value = m.value }; previous = m.previous })) →
      on_proof g me p m ≡ wake g me (record { rec = p.rec; rows = rows })
  unfolding on_proof
  proof_told rows e = ap (λ r. wake g me (record { rec = p.rec; rows = r })) (sym e)
