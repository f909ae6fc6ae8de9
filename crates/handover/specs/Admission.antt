-- Which message may be brought to its receiver.
use Rattle.std.specs.Prelude.{ℕ, cond, ◌&&◌, List, Ok, Err, Result, nat_le}
use Rattle.messages.specs.Messages.{Msg, between}
use Rattle.wires.specs.Wire.{room_left}
use Rattle.agreement.specs.Ring.{step_room}

-- the message that was found, if it is between parties of a ring of n and the wire has room for a step; else the number of the refusal
abbrev pub admitted : ℕ → ℕ → List Msg → Result Msg ℕ → Result Msg ℕ
admitted n capacity waiting (Ok m) =
    cond (between 1 n m.from && between 1 n m.to) (cond (nat_le (step_room n) (room_left capacity waiting)) (Ok m) (Err 10)) (Err 2)
admitted n capacity waiting (Err number) = Err number
