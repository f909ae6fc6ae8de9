-- A message that is let through, and one that is not, against the rules of hand and repeat.
use Rattle.std.proofs.Common.{◌≡◌, ℕ, Bool, true, false, cond, ◌&&◌, leb, List, Ok, Err, Result, sym, refl, ap, ◌∙◌, arith}
use Rattle.messages.specs.Messages.{Msg, between}
use Rattle.wires.specs.Wire.{room_left}
use Rattle.agreement.specs.Ring.{Kind, Ring, step_room}
use Rattle.agreement.specs.Calls.{refused, Gives, refuse, deliver, bring_found}
use Rattle.agreement.proofs.Obeyed.{gives}
use Rattle.handover.specs.Admission.{admitted}

-- ## The test
-- what becomes of a message by the two tests
abbrev tried : Bool → Bool → Msg → Result Msg ℕ
tried a b m = cond a (cond b (Ok m) (Err 10)) (Err 2)

module _ (n capacity : ℕ) (waiting : List Msg) where
  -- whether a message is between parties of the ring, and whether there is room for a step
  abbrev pub known : Msg → Bool
  known m = between 1 n m.from && between 1 n m.to

  abbrev pub roomy : Bool
  roomy = leb (step_room n) (room_left capacity waiting)

  both_true : (a b : Bool) (x m : Msg) → tried a b x ≡ Ok m → (a ≡ true) × (b ≡ true) × (x ≡ m)
  both_true true true x m e = (refl, refl, cc)
  both_true true false x m e = absurd (let z : ◌≡◌ {A = ℕ} 0 1 = cc in omega arith)
  both_true false b x m e = absurd (let z : ◌≡◌ {A = ℕ} 0 1 = cc in omega arith)

  -- what is known of a message that is let through
  pub let_through : (r : Result Msg ℕ) (m : Msg) → admitted n capacity waiting r ≡ Ok m → (r ≡ Ok m) × (true ≡ known m) × (true ≡ roomy)
  let_through (Ok x) m e =
      let p = both_true (known x) roomy x m e in
      (ap Ok p.2, sym (ap known (sym p.2) ∙ p.0), sym p.1)
  let_through (Err number) m e = absurd (let z : ◌≡◌ {A = ℕ} 0 1 = cc in omega arith)

-- ## The call
module _ (k : Kind) (s : Ring) (w : List Msg) where
  turned_away : (a b : Bool) (m : Msg) (number : ℕ) → tried a b m ≡ Err number → cond a (cond b (deliver k s m w) (refuse s 10)) (refuse s 2) ≡ refuse s number
  turned_away true true m number e = absurd (let z : ◌≡◌ {A = ℕ} 0 1 = cc in omega arith)
  turned_away true false m number e = let z : 10 ≡ number = cc in ap (refuse s) z
  turned_away false b m number e = let z : 2 ≡ number = cc in ap (refuse s) z

  refused_found : (r : Result Msg ℕ) (number : ℕ) → admitted s.n s.capacity s.wire r ≡ Err number → bring_found k s r w ≡ refuse s number
  refused_found (Ok m) number e = turned_away (known s.n s.capacity s.wire m) (roomy s.n s.capacity s.wire) m number e
  refused_found (Err x) number e = let z : x ≡ number = cc in ap (refuse s) z

  pub bring-refused : (r : Result Msg ℕ) (number : ℕ) → admitted s.n s.capacity s.wire r ≡ Err number → Gives (bring_found k s r w) (refused number) s
  bring-refused r number e = gives (bring_found k s r w) (refuse s number) (refused number) s (refused_found r number e) refl refl
