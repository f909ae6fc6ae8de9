-- The plan that set-up is given, and the tables that it sets up.
use Rattle.std.specs.Prelude.{◌≡◌, ℕ, List, map}
use Rattle.messages.specs.Messages.{Msg}
use Rattle.agreement.specs.Ring.{Ring}
use Rattle.agreement.specs.Calls as model
use Rattle.tables.specs.declared.tables.Tables.{Tables}
use Rattle.tables.specs.Meaning.{ring_at}
use Rattle.setup.specs.declared.plan.Plan.{Plan}

-- the own values by their bytes
abbrev pub plan_of : {V : Type 0} → (V → List ℕ) → ℕ → ℕ → ℕ → List V → model.Plan
plan_of bytes n f word own = record { n = n; f = f; word = word; own = map bytes own }

abbrev pub plan_in : {V : Type 0} → (V → List ℕ) → Plan V → model.Plan
plan_in bytes plan = plan_of bytes plan.n plan.f plan.faulty plan.own.now

-- the ring over the tables that it is lent, the rows cut into parts of this size
abbrev pub ring_cut : {V : Type 0} → (V → List ℕ) → ℕ → Tables V → List Msg → ℕ → Ring
ring_cut bytes size tables wire capacity = ring_at bytes size tables.ring tables.records.now tables.rows.now wire capacity

-- the same two tables, whatever the ring
abbrev pub SamePlaces : {V : Type 0} → Tables V → Tables V → Type 0
SamePlaces t u = (u.records.ghost_name ≡ t.records.ghost_name) × (u.rows.ghost_name ≡ t.rows.ghost_name)
