-- What a token stands for: its bytes, and the number that they write.
use Rattle.std.specs.Prelude.{ℕ, List, Some, None, Ok, Err, Option, Result}
use Rattle.sheet_fields.specs.Numbers.{number}
use Rattle.sheet_lines.specs.declared.token.Token.{Token}
use Rattle.sheet_lines.specs.declared.token.Token.TheVariants.{Name, Number, Value}

abbrev pub token_bytes : Token → List ℕ
token_bytes (Name s) = s.now
token_bytes (Number s n) = s.now
token_bytes (Value s) = s.now

abbrev pub token_number : Token → Option ℕ
token_number (Name s) = number s.now
token_number (Number s n) = Some n
token_number (Value s) = number s.now

-- the bytes of a token that was found
abbrev pub found_bytes : {E : Type 0} → Result Token E → Option (List ℕ)
found_bytes (Ok t) = Some (token_bytes t)
found_bytes (Err e) = None

-- the number of a token that was found
abbrev pub found_number : {E : Type 0} → Result Token E → Option ℕ
found_number (Ok t) = token_number t
found_number (Err e) = None
