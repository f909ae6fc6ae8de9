-- The tests of the rules: who supports a value, what opens a lock, what bears out a key, what is ignored.
use Rattle.std.specs.Prelude.{ℕ, zero, suc, Bool, true, false, cond, not, ◌&&◌, ◌||◌, List, Some, None, Option, ◌==◌, nat_le, nat_lt}
use Rattle.values.specs.Same.{equal}
use Rattle.messages.specs.Messages.{Msg, between}
use Rattle.rules.specs.Party.{Setting, Keyed, Suggest, Proof, Proposal, nothing, waiting, echoed, dropped, Party, none}
use Rattle.rules.specs.Thresholds.{quorum, voucher, primary}

-- an entry for x
abbrev pub is : List ℕ → Option (List ℕ) → Bool
is x None = false
is x (Some y) = equal y x

-- previous < key, where None is -1
abbrev pub below : Option ℕ → ℕ → Bool
below None k = true
below (Some p) k = nat_lt p k

-- key ≤ previous
abbrev pub up_to : ℕ → Option ℕ → Bool
up_to k None = false
up_to k (Some p) = nat_le k p

-- a proof opens a lock in view v: its key1, or a previous one, is at least as new and for another value
abbrev pub opens : ℕ → Keyed → Proof → Bool
opens v lock p =
    (below p.previous p.key1.at && nat_lt p.key1.at v) &&
    (up_to lock.at p.previous || (nat_le lock.at p.key1.at && not (equal p.key1.value lock.value)))

-- a suggest bears out a key in view v: its key2 is at least as new and for the same value, or a previous one is at least as new
abbrev pub bears_out : ℕ → Keyed → Suggest → Bool
bears_out v key s =
    (below s.previous s.key2.at && nat_lt s.key2.at v) &&
    (up_to key.at s.previous || (nat_le key.at s.key2.at && equal s.key2.value key.value))

abbrev pub opens_lock : ℕ → Keyed → Option Proof → Bool
opens_lock v lock None = false
opens_lock v lock (Some p) = opens v lock p

abbrev pub bears_key : ℕ → Keyed → Option Suggest → Bool
bears_key v key None = false
bears_key v key (Some s) = bears_out v key s

module _ (g : Setting) where
  -- the lock is opened by a voucher of proofs
  abbrev pub lock_opened : Party → Bool
  lock_opened p = voucher g (λ j. opens_lock p.rec.view (p.rec.field 9) (p.rows j).proof)

  -- the key of a suggest is borne out by a voucher of the stored suggests
  abbrev pub borne_out : Party → Keyed → Bool
  borne_out p key = voucher g (λ j. bears_key p.rec.view key (p.rows j).suggest)

  abbrev pub accepts : Party → Option Suggest → Bool
  accepts p None = false
  accepts p (Some s) =
      g.allows s.key3.value && (s.key3.at == 0 || (nat_lt s.key3.at p.rec.view && borne_out p s.key3))

  abbrev pub accepted : Party → ℕ → Bool
  accepted p j = accepts p (p.rows j).suggest

  -- a quorum of senders has voted x by this kind
  abbrev pub voted : Party → ℕ → List ℕ → Bool
  voted p kind x = quorum g (λ j. is x ((p.rows j).vote kind))

  abbrev pub done_vouched : Party → List ℕ → Bool
  done_vouched p x = voucher g (λ j. is x (p.rows j).done)

  abbrev pub done_agreed : Party → List ℕ → Bool
  done_agreed p x = quorum g (λ j. is x (p.rows j).done)

  -- ## The suggest to follow: the highest key3, and the lowest sender among equals
  abbrev pub higher : Option Suggest → Option Suggest → Option Suggest
  higher None t = t
  higher (Some s) None = Some s
  higher (Some s) (Some t) = cond (nat_lt s.key3.at t.key3.at) (Some t) (Some s)

  abbrev pub best : Party → ℕ → Option Suggest
  best p zero = None
  best p (suc k) = cond (accepted p (suc k)) (higher (best p k) (p.rows (suc k)).suggest) (best p k)

  -- ## What is ignored
  abbrev pub is_nothing : Proposal → Bool
  is_nothing nothing = true
  is_nothing (waiting x) = false
  is_nothing (echoed x) = false
  is_nothing dropped = false

  -- the first of its kind from its sender, in the view or, for a done, in the shift
  abbrev pub first_of_kind : Party → Msg → Bool
  first_of_kind p m =
      cond (m.kind == 2) (none (p.rows m.from).suggest)
      (cond (m.kind == 3) (none (p.rows m.from).proof)
      (cond (m.kind == 4) (is_nothing p.rec.proposal)
      (cond (m.kind == 10) (none (p.rows m.from).done) (none ((p.rows m.from).vote m.kind)))))

  -- a suggest counts at the primary only, a propose from the primary only
  abbrev pub primary_fits : ℕ → Party → Msg → Bool
  primary_fits me p m =
      cond (m.kind == 2) (me == primary g p.rec.view)
      (cond (m.kind == 4) (m.from == primary g p.rec.view) true)

  -- a message that the party takes in
  abbrev pub heeded : ℕ → Party → Msg → Bool
  heeded me p m =
      none p.rec.decision &&
      (cond (m.kind == 1) (nat_lt (p.rows m.from).request m.view)
      (cond (between 2 9 m.kind) (m.view == p.rec.view && (primary_fits me p m && first_of_kind p m))
      (cond (m.kind == 10) (first_of_kind p m) (m.kind == 11))))
