-- Messages by their meaning, where a value is its bytes, and the range of every field by kind.
use Rattle.std.specs.Prelude.{ℕ, Bool, true, false, cond, ◌&&◌, ◌||◌, List, length, replicate, Some, None, Option, ◌==◌, nat_le}
use Rattle.values.specs.Limits.{party_limit}
use Rattle.values.specs.Same.{equal}

pub record Msg : Type 0 where
  pub kind : ℕ
  pub from : ℕ
  pub to : ℕ
  pub view : ℕ
  pub key : ℕ
  pub value : List ℕ
  pub second_key : ℕ
  pub second_value : List ℕ
  -- a previous key; None stands for -1
  pub previous : Option ℕ

-- a message that uses no field but its head
abbrev pub unused : ℕ → ℕ → ℕ → ℕ → Msg
unused width kind from to =
    record {
      kind = kind;
      from = from;
      to = to;
      view = 0;
      key = 0;
      value = replicate width 0;
      second_key = 0;
      second_value = replicate width 0;
      previous = Some 0;
    }

-- the last view, and the largest number of parties
abbrev pub last_view : ℕ
last_view = 2000000000

abbrev pub most_parties : ℕ
most_parties = party_limit

-- `x` lies from `low` to `high`
abbrev pub between : ℕ → ℕ → ℕ → Bool
between low high x = nat_le low x && nat_le x high

-- which fields a kind uses
abbrev pub uses_view : ℕ → Bool
uses_view kind = between 1 9 kind || kind == 11

abbrev pub uses_key : ℕ → Bool
uses_key kind = between 2 4 kind

abbrev pub uses_value : ℕ → Bool
uses_value kind = between 2 10 kind

abbrev pub uses_second : ℕ → Bool
uses_second kind = kind == 2

abbrev pub uses_previous : ℕ → Bool
uses_previous kind = between 2 3 kind

-- an abort stays below the last view, so that there is a view after it
abbrev pub highest_view : ℕ → ℕ
highest_view kind = cond (kind == 11) 1999999999 last_view

abbrev pub previous_fits : Option ℕ → Bool
previous_fits None = true
previous_fits (Some p) = nat_le p last_view

abbrev pub is_zero : Option ℕ → Bool
is_zero None = false
is_zero (Some p) = p == 0

abbrev pub is_party : ℕ → Bool
is_party p = between 1 most_parties p

-- each field in range for a kind that uses it, else 0
abbrev pub view_fits : ℕ → ℕ → Bool
view_fits kind view = cond (uses_view kind) (between 1 (highest_view kind) view) (view == 0)

abbrev pub key_fits : Bool → ℕ → Bool
key_fits used key = cond used (nat_le key last_view) (key == 0)

abbrev pub earlier_fits : Bool → Option ℕ → Bool
earlier_fits used previous = cond used (previous_fits previous) (is_zero previous)

module _ (valid : List ℕ → Bool) (width : ℕ) where
  -- bytes that stand for a value: blank where the kind does not use the field
  abbrev pub value_fits : Bool → List ℕ → Bool
  value_fits used x = length x == width && (valid x && cond used true (equal x (replicate width 0)))

  -- every used field in range, every unused one 0 or blank
  abbrev pub in_range : Msg → Bool
  in_range m =
      between 1 11 m.kind && (is_party m.from && (is_party m.to &&
      (view_fits m.kind m.view &&
      (key_fits (uses_key m.kind) m.key &&
      (key_fits (uses_second m.kind) m.second_key &&
      (earlier_fits (uses_previous m.kind) m.previous &&
      (value_fits (uses_value m.kind) m.value &&
      value_fits (uses_second m.kind) m.second_value)))))))
