-- What a message in range says of each field.
use Rattle.std.proofs.Common.{◌≡◌, ℕ, ◌≤◌, Bool, true, false, eqb, leb, List, length, Some, arith}
use Rattle.std.proofs.lemmas.Bool.{and_parts, eqb-true, leb-true}
use Rattle.std.proofs.lemmas.Bool.Decides.{nat_tests}
use Rattle.messages.specs.Messages.{Msg, in_range, between, is_party, view_fits, key_fits, earlier_fits, value_fits, uses_key, uses_value, uses_second, uses_previous}

-- the tests of the fields, one by one
pub record Fields (valid : List ℕ → Bool) (width : ℕ) (m : Msg) : Type 0 where
  pub kind_fits : between 1 11 m.kind ≡ true
  pub from_fits : is_party m.from ≡ true
  pub to_fits : is_party m.to ≡ true
  pub view_in : view_fits m.kind m.view ≡ true
  pub key_in : key_fits (uses_key m.kind) m.key ≡ true
  pub second_in : key_fits (uses_second m.kind) m.second_key ≡ true
  pub previous_in : earlier_fits (uses_previous m.kind) m.previous ≡ true
  pub value_in : value_fits valid width (uses_value m.kind) m.value ≡ true
  pub second_value_in : value_fits valid width (uses_second m.kind) m.second_value ≡ true

pub in_range-fields : (valid : List ℕ → Bool) (width : ℕ) (m : Msg) → in_range valid width m ≡ true → Fields valid width m
in_range-fields valid width m h =
    let a = and_parts (between 1 11 m.kind) _ h in
    let b = and_parts (is_party m.from) _ a.1 in
    let c = and_parts (is_party m.to) _ b.1 in
    let d = and_parts (view_fits m.kind m.view) _ c.1 in
    let e = and_parts (key_fits (uses_key m.kind) m.key) _ d.1 in
    let f = and_parts (key_fits (uses_second m.kind) m.second_key) _ e.1 in
    let g = and_parts (earlier_fits (uses_previous m.kind) m.previous) _ f.1 in
    let v = and_parts (value_fits valid width (uses_value m.kind) m.value) _ g.1 in
    record { kind_fits = a.0; from_fits = b.0; to_fits = c.0; view_in = d.0; key_in = e.0; second_in = f.0; previous_in = g.0; value_in = v.0; second_value_in = v.1 }

pub between-low : (low high x : ℕ) → between low high x ≡ true → low ≤ x
between-low low high x h = leb-true low x (and_parts (leb low x) (leb x high) h).0

pub between-high : (low high x : ℕ) → between low high x ≡ true → x ≤ high
between-high low high x h = leb-true x high (and_parts (leb low x) (leb x high) h).1

pub view_small : (kind view : ℕ) → view_fits kind view ≡ true → view ≤ 2000000000
view_small kind view h = grind (arith, nat_tests)

pub key_small : (used : Bool) (key : ℕ) → key_fits used key ≡ true → key ≤ 2000000000
key_small true key h = leb-true key 2000000000 h
key_small false key h = let e : key ≡ 0 = eqb-true key 0 h in omega arith

pub earlier_small : (used : Bool) (p : ℕ) → earlier_fits used (Some p) ≡ true → p ≤ 2000000000
earlier_small true p h = leb-true p 2000000000 h
earlier_small false p h = let e : p ≡ 0 = eqb-true p 0 h in omega arith

module _ (valid : List ℕ → Bool) (width : ℕ) where
  pub value-length : (used : Bool) (x : List ℕ) → value_fits valid width used x ≡ true → length x ≡ width
  value-length used x h = eqb-true (length x) width (and_parts (eqb (length x) width) _ h).0

  pub value-valid : (used : Bool) (x : List ℕ) → value_fits valid width used x ≡ true → valid x ≡ true
  value-valid used x h = (and_parts (valid x) _ (and_parts (eqb (length x) width) _ h).1).0
