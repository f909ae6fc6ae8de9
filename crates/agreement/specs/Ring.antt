-- A ring of parties by its meaning: who is faulty, what each party keeps, and what waits on the wire.
use Rattle.std.specs.Prelude.{ℕ, ◌+◌, ◌*◌, Bool, cond, not, ◌&&◌, ◌||◌, List, replicate, Some, None, Option, nat_le}
use Rattle.messages.specs.Messages.{Msg, between}
use Rattle.wires.specs.Wire.{room_left}
use Rattle.rules.specs.Party.{Setting, Party}
use Rattle.rules.specs.Bounds.{party_fits, every}

-- a kind of value: its width, the bytes that some value has, and those that a ring may agree on
pub record Kind : Type 0 where
  pub width : ℕ
  pub valid : List ℕ → Bool
  pub allows : List ℕ → Bool

pub record Ring : Type 0 where
  -- how many parties, 0 before set-up, and how many may lie
  pub n : ℕ
  pub f : ℕ
  pub faulty : ℕ → Bool
  pub parties : ℕ → Party
  -- how many records and rows the lent tables have places for
  pub records : ℕ
  pub rows : ℕ
  -- the messages that wait, and how many fit
  pub wire : List Msg
  pub capacity : ℕ

-- the ring over another wire
abbrev pub rewired : Ring → List Msg → ℕ → Ring
rewired s wire capacity =
    record { n = s.n; f = s.f; faulty = s.faulty; parties = s.parties; records = s.records; rows = s.rows; wire = wire; capacity = capacity }

-- what the rules of a step are given
abbrev pub setting : Kind → Ring → Setting
setting k s = record { n = s.n; f = s.f; width = k.width; allows = k.allows }

-- party numbers run from 1 to n
abbrev pub in_ring : Ring → ℕ → Bool
in_ring s i = between 1 s.n i

abbrev pub honest : Ring → ℕ → Bool
honest s i = in_ring s i && not (s.faulty i)

abbrev pub room : Ring → ℕ
room s = room_left s.capacity s.wire

-- the room that one step may need
abbrev pub step_room : ℕ → ℕ
step_room n = 3 * n + 8

-- the tables have places enough, and every number of an honest party lies within its bounds
abbrev pub tables_fit : Ring → Bool
tables_fit s =
    nat_le s.n s.records && (nat_le (s.n * s.n) s.rows && every (λ i. s.faulty i || party_fits s.n (s.parties i)) s.n)

-- ## What show tells of a party
pub data State : Type 0 where
  is_faulty : State
  is_open : State
  is_decided : State

pub record Shown : Type 0 where
  pub state : State
  pub view : ℕ
  pub lock : ℕ
  pub value : List ℕ

abbrev pub shown_party : Kind → Party → Option (List ℕ) → Shown
shown_party k p None = record { state = is_open; view = p.rec.view; lock = (p.rec.field 9).at; value = replicate k.width 0 }
shown_party k p (Some x) = record { state = is_decided; view = p.rec.view; lock = (p.rec.field 9).at; value = x }

abbrev pub shown : Kind → Ring → ℕ → Shown
shown k s i =
    cond (s.faulty i) (record { state = is_faulty; view = 0; lock = 0; value = replicate k.width 0 })
    (shown_party k (s.parties i) (s.parties i).rec.decision)
