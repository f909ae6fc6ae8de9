-- What show's answer means.
use Rattle.std.specs.Prelude.{ℕ, List, Ok, Err, Result}
use Rattle.agreement.specs.Ring as model
use Rattle.agreement.specs.Ring.{is_faulty, is_open, is_decided}
use Rattle.agreement.specs.Calls.{Answer, told, refused}
use Rattle.tables.specs.declared.refusal.Refusal.{Refusal}
use Rattle.tables.specs.Refusals.{refusal_number}
use Rattle.ring.specs.declared.shown.State.{State}
use Rattle.ring.specs.declared.shown.State.TheVariants.{Faulty, Open, Decided}
use Rattle.ring.specs.declared.shown.Shown.{Shown}

abbrev pub state_of : State → model.State
state_of Faulty = is_faulty
state_of Open = is_open
state_of Decided = is_decided

module _ {V : Type 0} (bytes : V → List ℕ) where
  abbrev pub shown_of : Shown V → model.Shown
  shown_of s = record { state = state_of s.state; view = s.view; lock = s.lock; value = bytes s.value }

  -- show's answer: what it tells, or the number of the refusal
  abbrev pub shown_answer : Result (Shown V) Refusal → Answer
  shown_answer (Ok s) = told (shown_of s)
  shown_answer (Err refusal) = refused (refusal_number refusal)
