-- Which way a rule goes, by a test.
use Rattle.std.proofs.Common.{◌≡◌, ℕ, Bool, true, false, cond, sym, ap, ◌∙◌}
use Rattle.rules.specs.Party.{Record, Row, Party}

-- a test that is passed, or not, decides
pub passed : {X : Type 0} (b : Bool) (x y : X) → true ≡ b → cond b x y ≡ x
passed b x y h = ap (λ c. cond c x y) (sym h)

pub failed : {X : Type 0} (b : Bool) (x y : X) → false ≡ b → cond b x y ≡ y
failed b x y h = ap (λ c. cond c x y) (sym h)

-- a party by its two parts
pub two_parts : (r r' : Record) (t t' : ℕ → Row) → r ≡ r' → t ≡ t' → ◌≡◌ {A = Party} (record { rec = r; rows = t }) (record { rec = r'; rows = t' })
two_parts r r' t t' e f = ap (λ x. record { rec = x; rows = t }) e ∙ ap (λ x. record { rec = r'; rows = x }) f
