-- A kind of value and a ring, as the model has them.
use Rattle.std.specs.Prelude.{ℕ, Bool, List}
use Rattle.rules.specs.Party.{Setting}
use Rattle.agreement.specs.Ring as model
use Rattle.tables.specs.declared.ring.Ring.{Ring}

-- a kind of value, by its ghost members
abbrev pub kind_of : ℕ → (List ℕ → Bool) → (List ℕ → Bool) → model.Kind
kind_of width valid allows = record { width = width; valid = valid; allows = allows }

-- what the rules of a step are given in this ring
abbrev pub setting_in : ℕ → (List ℕ → Bool) → Ring → Setting
setting_in width allows ring = record { n = ring.n; f = ring.f; width = width; allows = allows }
