-- What is promised of every shift, whatever the faulty parties send.
use Rattle.std.specs.Prelude.{◌≡◌, ℕ, suc, ◌≤◌, Bool, true, false, cond, ◌&&◌, List, [], ◌∷◌, take, ◌==◌}
use Rattle.std.specs.List.{AllByRecursion}
use Rattle.messages.specs.Messages.{Msg}
use Rattle.rules.specs.Thresholds.{primary}
use Rattle.agreement.specs.Ring.{Kind, Ring, is_open, is_decided, setting, honest, shown}
use Rattle.agreement.specs.Calls.{said, Plan, set_up}
use Rattle.agreement.specs.Runs.{Call, Shift, shift}

-- ## Messages between honest parties
-- from an honest party to an honest one
abbrev pub between_honest : Ring → Msg → Bool
between_honest s m = honest s m.from && honest s m.to

abbrev pub NoneBetween : Ring → List Msg → Type 0
NoneBetween s ms = AllByRecursion (λ m. between_honest s m ≡ false) ms

-- ## Nothing said twice
abbrev pub like : ℕ → ℕ → ℕ → ℕ → Msg → Bool
like from to kind view m = m.from == from && (m.to == to && (m.kind == kind && m.view == view))

abbrev pub how_many : (Msg → Bool) → List Msg → ℕ
how_many t [] = 0
how_many t (m ∷ ms) = cond (t m) (suc (how_many t ms)) (how_many t ms)

-- of one kind and one view an honest party has posted at most one message to one party
abbrev pub SaidOnce : Shift → Type 0
SaidOnce h = (i j kind view : ℕ) → honest h.ring i ≡ true → how_many (like i j kind view) h.posted ≤ 1

module _ (k : Kind) where
  -- party i is honest, and show calls it decided with the value x
  pub record Decided (s : Ring) (i : ℕ) (x : List ℕ) : Type 0 where
    pub trusty : honest s i ≡ true
    pub state : (shown k s i).state ≡ is_decided
    pub value : (shown k s i).value ≡ x

  -- party i is honest, and show calls it open in view v
  pub record Open (s : Ring) (i v : ℕ) : Type 0 where
    pub trusty : honest s i ≡ true
    pub state : (shown k s i).state ≡ is_open
    pub view : (shown k s i).view ≡ v

  -- ## One decided value
  -- at whatever points of the shift two honest parties are decided, they have one value, and it is allowed
  abbrev pub OneValue : Plan → Ring → List Call → Type 0
  OneValue p s cs =
      (a b i j : ℕ) (x y : List ℕ) → Decided (shift k p s (take a cs)).ring i x → Decided (shift k p s (take b cs)).ring j y →
      (x ≡ y) × (k.allows x ≡ true)

  -- ## Nobody undecided
  -- once no message between honest parties waits or was lost, and the undecided share one view with an honest primary, none is undecided
  abbrev pub NobodyLeft : Shift → Type 0
  NobodyLeft h =
      NoneBetween h.ring h.ring.wire → NoneBetween h.ring h.lost →
      (v : ℕ) → ((i w : ℕ) → Open h.ring i w → w ≡ v) → honest h.ring (primary (setting k h.ring) v) ≡ true →
      (i w : ℕ) → Open h.ring i w → ⊥

  -- ## The three together, of a shift and of each of its beginnings
  pub record Counts (p : Plan) (s : Ring) (cs : List Call) : Type 0 where
    pub one_value : OneValue p s cs
    pub nobody_left : (a : ℕ) → NobodyLeft (shift k p s (take a cs))
    pub said_once : (a : ℕ) → SaidOnce (shift k p s (take a cs))

-- for every kind of value, every plan, every ring handed in and every list of calls
abbrev pub CountsHold : Type 0
CountsHold = (k : Kind) (p : Plan) (s : Ring) (cs : List Call) → (set_up k p s).answer ≡ said 0 → Counts k p s cs
