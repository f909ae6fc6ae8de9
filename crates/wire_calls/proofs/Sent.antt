-- A message that a party may send, against the rules.
use Rattle.std.proofs.Common.{◌≡◌, ℕ, Bool, true, false, cond, ◌&&◌, List, IfOk, Ok, Err, Result, refl, ap, ◌∙◌, arith}
use Rattle.messages.specs.Messages.{Msg}
use Rattle.wires.specs.Wire.{post_answer, posted}
use Rattle.agreement.specs.Ring.{Kind, Ring, rewired, in_ring}
use Rattle.agreement.specs.Calls.{said, Gives}
use Rattle.agreement.specs.Runs.{obey, send}
use Rattle.agreement.proofs.Obeyed.{send_tried, tried}
use Rattle.tables.specs.declared.refusal.Refusal.{Refusal}
use Rattle.tables.specs.Meaning.{answer_of, result_of}

-- the refusals in their order
abbrev by_standing : Bool → Bool → Result (Unit {0}) ℕ
by_standing known suited = cond known (cond suited (Ok tt) (Err 3)) (Err 2)

module _ (k : Kind) (s : Ring) (m : Msg) where
  abbrev both : Bool
  both = in_ring s m.from && in_ring s m.to

  pub send_free : (a b : Bool) → a ≡ both → (true ≡ both → b ≡ s.faulty m.from) → Ok tt ≡ by_standing a b → (true ≡ both) × (true ≡ s.faulty m.from)
  send_free true true known liar e = (known, liar known)
  send_free true false known liar e = absurd (let z : ◌≡◌ {A = ℕ} 0 1 = cc in omega arith)
  send_free false b known liar e = absurd (let z : ◌≡◌ {A = ℕ} 0 1 = cc in omega arith)

  one_said : (r : Result ℕ Refusal) → IfOk r (λ posts. posts ≡ 1) → answer_of r ≡ tried k s m (result_of (λ _. tt) r)
  one_said (Ok posts) e = ap said e
  one_said (Err refusal) e = refl

  -- the wire has taken it or not
  pub send-done : (r : Result ℕ Refusal) (w : List Msg) (c : ℕ) → true ≡ both → true ≡ s.faulty m.from → IfOk r (λ posts. posts ≡ 1) →
      result_of (λ _. tt) r ≡ post_answer k.valid k.width s.capacity s.wire m → w ≡ posted k.valid k.width s.capacity s.wire m → c ≡ s.capacity →
      Gives (obey k s (send m)) (answer_of r) (rewired s w c)
  send-done r w c known liar one e p q =
      let g = send_tried k s m (result_of (λ _. tt) r) w c known liar e p q in
      record { answer = one_said r one ∙ g.answer; after = g.after }
