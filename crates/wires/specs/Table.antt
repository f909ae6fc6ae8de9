-- What a table of messages means as a wire.
use Rattle.std.specs.Prelude.{ℕ, Bool, cond, List, map, take}
use Rattle.messages.specs.Messages.{Msg, in_range}
use Rattle.messages.specs.Meaning.{message}
use Rattle.messages.specs.declared.message.Message.{Message}
use Rattle.wires.specs.Wire.{fixed_request}

module _ (valid : List ℕ → Bool) (width : ℕ) where
  -- a message in range means itself, any other the one fixed request
  abbrev pub as_ranged : Msg → Msg
  as_ranged m = cond (in_range valid width m) m (fixed_request width)

  module _ {V : Type 0} (bytes : V → List ℕ) where
    -- what one entry of the table means
    abbrev pub entry : Message V → Msg
    entry m = as_ranged (message bytes m)

    -- the first `count` entries, as far as the table goes
    abbrev pub entries : ℕ → List (Message V) → List Msg
    entries count table = map entry (take count table)
