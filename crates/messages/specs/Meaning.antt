-- What the code's message means: the same fields, each value by its bytes.
use Rattle.std.specs.Prelude.{ℕ, List}
use Rattle.messages.specs.Messages.{Msg}
use Rattle.messages.specs.declared.message.Message.{Message}

abbrev pub message : {V : Type 0} → (V → List ℕ) → Message V → Msg
message bytes m =
    record {
      kind = m.kind;
      from = m.from;
      to = m.to;
      view = m.view;
      key = m.key;
      value = bytes m.value;
      second_key = m.second_key;
      second_value = bytes m.second_value;
      previous = m.previous;
    }
