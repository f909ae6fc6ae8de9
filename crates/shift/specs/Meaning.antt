-- What a list of calls comes to, and what is promised of a whole shift.
use Rattle.std.specs.Prelude.{◌≡◌, ℕ, suc, Bool, true, false, cond, List, [], ◌∷◌}
use Rattle.messages.specs.Meaning.{message}
use Rattle.agreement.specs.Ring.{Kind, Ring}
use Rattle.agreement.specs.Calls.{Answer, said, told, refused, Plan, set_up}
use Rattle.agreement.specs.Runs as model
use Rattle.agreement.specs.Runs.{hand, repeat, lose, send, timer, show, call, begun, shift}
use Rattle.agreement.specs.Counts.{Counts}
use Rattle.shift.specs.declared.call.Call.{Call}
use Rattle.shift.specs.declared.call.Call.TheVariants.{Hand, Repeat, Lose, Send, Timer, Show}

-- what a call of the code means
abbrev pub call_of : {V : Type 0} → (V → List ℕ) → Call V → model.Call
call_of bytes (Hand place) = hand place
call_of bytes (Repeat place) = repeat place
call_of bytes (Lose place) = lose place
call_of bytes (Send m) = send (message bytes m)
call_of bytes (Timer party) = timer party
call_of bytes (Show party) = show party

-- an answer without what show tells: then 0
abbrev pub briefly : Answer → Answer
briefly (said posts) = said posts
briefly (told shown) = said 0
briefly (refused number) = refused number

abbrev pub is_refused : Answer → Bool
is_refused (said posts) = false
is_refused (told shown) = false
is_refused (refused number) = true

module _ (k : Kind) where
  -- how many calls are refused
  abbrev pub refusals : Ring → List model.Call → ℕ
  refusals s [] = 0
  refusals s (c ∷ cs) = cond (is_refused (call k s c).answer) (suc (refusals (call k s c).after cs)) (refusals (call k s c).after cs)

  -- the ring after all calls
  abbrev pub end_of : Ring → List model.Call → Ring
  end_of s [] = s
  end_of s (c ∷ cs) = end_of (call k s c).after cs

-- a shift that was set up and run: the number of refused calls, the ring at its end, and the three counts
pub record Ran (k : Kind) (p : Plan) (s : Ring) (cs : List model.Call) (number : ℕ) (s' : Ring) : Type 0 where
  pub started : (set_up k p s).answer ≡ said 0
  pub passed_over : number ≡ refusals k (begun k p s).ring cs
  pub ring : s' ≡ (shift k p s cs).ring
  pub counts : Counts k p s cs
