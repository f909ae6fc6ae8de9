-- Shifts: a set-up that is answered with 0, and then any list of calls.
use Rattle.std.specs.Prelude.{ℕ, cond, List, [], ◌∷◌, ◌++◌}
use Rattle.messages.specs.Messages.{Msg}
use Rattle.wires.specs.Wire.{looked, taken}
use Rattle.agreement.specs.Ring.{Kind, Ring, tables_fit}
use Rattle.agreement.specs.Calls.{Outcome, Plan, refuse, bring_found, lose_found, send_message, ring_timer, ring_show, set_up}

pub data Call : Type 0 where
  hand : ℕ → Call
  repeat : ℕ → Call
  lose : ℕ → Call
  send : Msg → Call
  timer : ℕ → Call
  show : ℕ → Call

-- a ring with what was posted and what was lost in the shift so far
pub record Shift : Type 0 where
  pub ring : Ring
  pub posted : List Msg
  pub lost : List Msg

module _ (k : Kind) where
  -- one call once the tables are found to fit
  abbrev pub obey : Ring → Call → Outcome
  obey s (hand i) = bring_found k s (looked s.wire i) (taken s.wire i)
  obey s (repeat i) = bring_found k s (looked s.wire i) s.wire
  obey s (lose i) = lose_found k s (looked s.wire i) (taken s.wire i)
  obey s (send m) = send_message k s m
  obey s (timer i) = ring_timer k s i
  obey s (show i) = ring_show k s i

  unfoldable pub call : Ring → Call → Outcome
  call s c = cond (tables_fit s) (obey s c) (refuse s 4)

  abbrev pub follow : Shift → Outcome → Shift
  follow h o = record { ring = o.after; posted = h.posted ++ o.posted; lost = h.lost ++ o.lost }

  abbrev pub run : Shift → List Call → Shift
  run h [] = h
  run h (c ∷ cs) = run (follow h (call h.ring c)) cs

  -- the shift as set-up leaves it
  abbrev pub begun : Plan → Ring → Shift
  begun p s = record { ring = (set_up k p s).after; posted = (set_up k p s).posted; lost = [] }

  -- the shift after a list of calls
  abbrev pub shift : Plan → Ring → List Call → Shift
  shift p s cs = run (begun p s) cs
