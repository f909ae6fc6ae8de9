-- The proposal of a view: its state and the arriving kind together give the next state.
use Rattle.std.specs.Prelude.{ℕ, Bool, true, false, cond, ◌&&◌, ◌||◌, List, ◌==◌}
use Rattle.values.specs.Same.{equal}
use Rattle.messages.specs.Messages.{Msg}
use Rattle.rules.specs.Party.{Setting, Proposal, nothing, waiting, echoed, dropped, Party, Step, still, with_rec, with_proposal}
use Rattle.rules.specs.Tests.{lock_opened}
use Rattle.rules.specs.Step.{lock_fits, may_wait, echo}

-- a propose (4) comes first; a waiting one is echoed after a proof (3) or a key3 (8) that frees it
abbrev pub next_state : Proposal → ℕ → List ℕ → Bool → Bool → Bool → Proposal
next_state nothing kind x fits waits freed =
    cond (kind == 4) (cond fits (echoed x) (cond waits (cond freed (echoed x) (waiting x)) dropped)) nothing
next_state (waiting y) kind x fits waits freed = cond ((kind == 3 || kind == 8) && freed) (echoed y) (waiting y)
next_state (echoed y) kind x fits waits freed = echoed y
next_state dropped kind x fits waits freed = dropped

-- echoed or dropped, it stays so for the view
abbrev pub is_settled : Proposal → Bool
is_settled nothing = false
is_settled (waiting y) = false
is_settled (echoed y) = true
is_settled dropped = true

-- a waiting proposal is for the value of the lock
abbrev pub is_held : List ℕ → Proposal → Bool
is_held lock nothing = false
is_held lock (waiting y) = equal lock y
is_held lock (echoed y) = false
is_held lock dropped = false

module _ (g : Setting) (me : ℕ) where
  -- the new state is written, and an echo is made with it
  abbrev pub take_up : Party → Proposal → Step
  take_up p nothing = still (with_rec p (with_proposal p.rec nothing))
  take_up p (waiting y) = still (with_rec p (with_proposal p.rec (waiting y)))
  take_up p (echoed y) = echo g me p y
  take_up p dropped = still (with_rec p (with_proposal p.rec dropped))

  -- the state after this message
  abbrev pub next_of : Party → Msg → Proposal
  next_of p m =
      next_state p.rec.proposal m.kind m.value (g.allows m.value && lock_fits g me p.rec m.value)
      (g.allows m.value && may_wait g me p.rec m.key) (is_held (p.rec.field 9).value p.rec.proposal || lock_opened g p)

  unfoldable pub settled : Party → Msg → Step
  settled p m = cond (is_settled p.rec.proposal) (still p) (take_up p (next_of p m))
