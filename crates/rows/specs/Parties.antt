-- A party over its part of the lent tables.
use Rattle.std.specs.Prelude.{◌≡◌, ℕ, List}
use Rattle.rules.specs.Party as model
use Rattle.rows.specs.Meaning.{party_of}
use Rattle.rows.specs.declared.party.Party.{Party}

-- what the party keeps
abbrev pub party_in : {V : Type 0} → (V → List ℕ) → Party V → model.Party
party_in bytes p = party_of bytes p.own.now p.rows.now

-- the party stands where it stood, over the same part of the tables
abbrev pub StaysAt : {V : Type 0} → Party V → Party V → Type 0
StaysAt p q = (q.seat ≡ p.seat) × ((q.own.ghost_name ≡ p.own.ghost_name) × (q.rows.ghost_name ≡ p.rows.ghost_name))
