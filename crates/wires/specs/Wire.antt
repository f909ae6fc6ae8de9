-- A wire by its meaning, a list of waiting messages and a capacity: what each call answers and leaves.
use Rattle.std.specs.Prelude.{ℕ, zero, suc, ◌-◌, Bool, cond, ◌&&◌, List, [], ◌∷◌, ◌++◌, length, replicate, Some, Ok, Err, Result, nat_lt}
use Rattle.messages.specs.Messages.{Msg, in_range}
use Rattle.wires.specs.declared.fault.WireFault.{WireFault}
use Rattle.wires.specs.declared.fault.WireFault.TheVariants.{Range, NoMessage, NoRoom}

-- the number of a refusal
abbrev pub fault_number : WireFault → ℕ
fault_number Range = 6
fault_number NoMessage = 9
fault_number NoRoom = 10

-- a call's answer by its meaning: what it gives, or the number of the refusal
abbrev pub answer : {A B : Type 0} → (A → B) → Result A WireFault → Result B ℕ
answer means (Ok x) = Ok (means x)
answer means (Err fault) = Err (fault_number fault)

-- how many more messages fit
abbrev pub room_left : ℕ → List Msg → ℕ
room_left capacity waiting = capacity - length waiting

-- whether a message waits at the place `i`, counted from 0
abbrev pub has_place : List Msg → ℕ → Bool
has_place waiting i = nat_lt i (length waiting)

-- the message at the place `i`, or refusal 9
abbrev pub looked : List Msg → ℕ → Result Msg ℕ
looked [] i = Err 9
looked (m ∷ ms) zero = Ok m
looked (m ∷ ms) (suc i) = looked ms i

-- the list without the message at the place `i`, the later ones moved up
abbrev pub taken : List Msg → ℕ → List Msg
taken [] i = []
taken (m ∷ ms) zero = ms
taken (m ∷ ms) (suc i) = m ∷ taken ms i

module _ (valid : List ℕ → Bool) (width : ℕ) where
  -- whether a post is accepted: every field in range, and room
  abbrev pub may_post : ℕ → List Msg → Msg → Bool
  may_post capacity waiting m = in_range valid width m && nat_lt 0 (room_left capacity waiting)

  -- a post's answer: refusal 6 for a field out of range, then 10 for no room
  abbrev pub post_answer : ℕ → List Msg → Msg → Result (Unit {0}) ℕ
  post_answer capacity waiting m = cond (in_range valid width m) (cond (nat_lt 0 (room_left capacity waiting)) (Ok tt) (Err 10)) (Err 6)

  -- the list after a post: the message at the end if it is accepted
  abbrev pub posted : ℕ → List Msg → Msg → List Msg
  posted capacity waiting m = cond (may_post capacity waiting m) (waiting ++ m ∷ []) waiting

-- the request that an entry out of range means
abbrev pub fixed_request : ℕ → Msg
fixed_request width =
    record {
      kind = 1;
      from = 1;
      to = 1;
      view = 1;
      key = 0;
      value = replicate width 0;
      second_key = 0;
      second_value = replicate width 0;
      previous = Some 0;
    }
