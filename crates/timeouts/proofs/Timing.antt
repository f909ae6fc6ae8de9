-- A timer that is refused, and one that is not, against the rules.
use Rattle.std.proofs.Common.{◌≡◌, ℕ, Bool, true, false, cond, not, ltb, leb, Some, None, Option, is_some, Ok, Err, Result, sym, refl, arith}
use Rattle.std.specs.Option.{option_map}
use Rattle.messages.specs.Messages.{last_view}
use Rattle.rules.specs.Party.{none}
use Rattle.agreement.specs.Ring.{Kind, Ring, in_ring, room, step_room}
use Rattle.agreement.specs.Calls.{refused, Gives, timed}
use Rattle.agreement.proofs.Obeyed.{answered, timed-decided, timed_late, timed_crowded}

-- the refusals in their order
abbrev by_standing : Bool → Bool → Result (Unit {0}) ℕ
by_standing known suited = cond known (cond suited (Ok tt) (Err 3)) (Err 2)

abbrev by_state : Bool → Bool → Bool → Result (Unit {0}) ℕ
by_state undecided early roomy = cond undecided (cond early (cond roomy (Ok tt) (Err 10)) (Err 13)) (Err 12)

-- nothing there is nothing by its meaning
pub nothing_mapped : {X Y : Type 0} (f : X → Y) (o : Option X) (b : Bool) → is_some o ≡ not b → b ≡ none (option_map f o)
nothing_mapped f (Some x) true e = absurd (let z : ◌≡◌ {A = ℕ} 0 1 = cc in omega arith)
nothing_mapped f (Some x) false e = refl
nothing_mapped f None true e = refl
nothing_mapped f None false e = absurd (let z : ◌≡◌ {A = ℕ} 0 1 = cc in omega arith)

no_liar : (f : Bool) → true ≡ not f → false ≡ f
no_liar true e = sym e
no_liar false e = refl

module _ (k : Kind) (s : Ring) (i : ℕ) where
  -- ## Whose timer it is
  pub timer_honest_one : (a b : Bool) → a ≡ in_ring s i → (true ≡ in_ring s i → b ≡ not (s.faulty i)) → Ok tt ≡ by_standing a b → (true ≡ in_ring s i) × (false ≡ s.faulty i)
  timer_honest_one true true known liar e = (known, no_liar (s.faulty i) (liar known))
  timer_honest_one true false known liar e = absurd (let z : ◌≡◌ {A = ℕ} 0 1 = cc in omega arith)
  timer_honest_one false b known liar e = absurd (let z : ◌≡◌ {A = ℕ} 0 1 = cc in omega arith)

  -- ## What the party is at
  abbrev undecided : Bool
  undecided = none (s.parties i).rec.decision

  abbrev early : Bool
  early = ltb (s.parties i).rec.view last_view

  abbrev roomy : Bool
  roomy = leb (step_room s.n) (room s)

  pub timed-refused : (a b c : Bool) (number : ℕ) → a ≡ undecided → b ≡ early → c ≡ roomy → Err number ≡ by_state a b c → Gives (timed k s i) (refused number) s
  timed-refused true true true number p q r e = absurd (let z : ◌≡◌ {A = ℕ} 0 1 = cc in omega arith)
  timed-refused true true false number p q r e = let z : number ≡ 10 = cc in answered number 10 z (timed_crowded k s i p q r)
  timed-refused true false c number p q r e = let z : number ≡ 13 = cc in answered number 13 z (timed_late k s i p q)
  timed-refused false b c number p q r e = let z : number ≡ 12 = cc in answered number 12 z (timed-decided k s i p)

  pub timed_free : (a b c : Bool) → a ≡ undecided → b ≡ early → c ≡ roomy → Ok tt ≡ by_state a b c → (true ≡ undecided) × (true ≡ early) × (true ≡ roomy)
  timed_free true true true p q r e = (p, q, r)
  timed_free true true false p q r e = absurd (let z : ◌≡◌ {A = ℕ} 0 1 = cc in omega arith)
  timed_free true false c p q r e = absurd (let z : ◌≡◌ {A = ℕ} 0 1 = cc in omega arith)
  timed_free false b c p q r e = absurd (let z : ◌≡◌ {A = ℕ} 0 1 = cc in omega arith)
