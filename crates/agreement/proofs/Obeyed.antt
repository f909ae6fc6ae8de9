-- A call against the rules, case by case.
use Rattle.std.proofs.Common.{◌≡◌, ℕ, zero, suc, ◌+◌, ◌-◌, ◌*◌, ◌≤◌, Bool, true, false, cond, ◌&&◌, ltb, leb, List, [], ◌∷◌, ◌++◌, length, replicate, Ok, Err, Result, sym, refl, ap, ◌∙◌, subst, arith}
use Rattle.std.specs.List.{AllByRecursion as All}
use Rattle.std.proofs.lemmas.Bool.{and_parts, leb-true}
use Rattle.messages.specs.Messages.{Msg, between, in_range, last_view}
use Rattle.wires.specs.Wire.{looked, taken, post_answer, posted}
use Rattle.rules.specs.Party.{none}
use Rattle.rules.specs.Step.{step, on_timer}
use Rattle.agreement.specs.Ring.{Kind, Ring, Shown, setting, is_faulty, in_ring, room, step_room, tables_fit, shown, shown_party, rewired}
use Rattle.agreement.specs.Calls.{Answer, said, told, refused, Outcome, Gives, refuse, with_wire, stepped, deliver, bring_found, lose_found, timed}
use Rattle.agreement.specs.Runs.{Call, lose, send, timer, show, call, obey}

-- ## Numbers of parties
pub between_parts : (low high x : ℕ) → true ≡ between low high x → (low ≤ x) × (x ≤ high)
between_parts low high x e =
    let p = and_parts (leb low x) (leb x high) (sym e) in
    (leb-true low x p.0, leb-true x high p.1)

-- ## Places of a wire
abbrev the_number : Result Msg ℕ → ℕ
the_number (Ok m) = 0
the_number (Err number) = number

abbrev found : Result Msg ℕ → Bool
found (Ok m) = true
found (Err number) = false

abbrev the_message : Msg → Result Msg ℕ → Msg
the_message d (Ok m) = m
the_message d (Err number) = d

abbrev Holds : Bool → Type 0
Holds true = Unit {0}
Holds false = ⊥

true_false : true ≡ false → ⊥
true_false e = subst Holds e tt

-- where there is no message the refusal is 9, and nothing is taken out
pub none_there : (w : List Msg) (i number : ℕ) → looked w i ≡ Err number → (number ≡ 9) × (taken w i ≡ w)
none_there [] i number e = (sym (ap the_number e), refl)
none_there (m ∷ w) zero number e = absurd (true_false (ap found e))
none_there (m ∷ w) (suc i) number e = let r = none_there w i number e in (r.0, ap (λ x. m ∷ x) r.1)

-- what holds of all that wait holds of the one at a place
pub one_there : (P : Msg → Type 0) (w : List Msg) (i : ℕ) (m : Msg) → All P w → looked w i ≡ Ok m → P m
one_there P [] i m a e = absurd (true_false (ap found (sym e)))
one_there P (x ∷ w) zero m a e = subst P (ap (the_message x) e) a.0
one_there P (x ∷ w) (suc i) m a e = one_there P w i m a.1 e

pub rewired_same : (s : Ring) (w v : List Msg) (c d : ℕ) → w ≡ v → c ≡ d → rewired s w c ≡ rewired s v d
rewired_same s w v c d e h = ap (λ x. rewired s x c) e ∙ ap (rewired s v) h

pub both_known : (s : Ring) (m : Msg) → true ≡ (in_ring s m.from && in_ring s m.to) → ((1 ≤ m.from) × (m.from ≤ s.n)) × ((1 ≤ m.to) × (m.to ≤ s.n))
both_known s m e =
    let p = and_parts (in_ring s m.from) (in_ring s m.to) (sym e) in
    (between_parts 1 s.n m.from (sym p.0), between_parts 1 s.n m.to (sym p.1))

-- ## An outcome by what it is
pub answered : {o : Outcome} {s : Ring} (a b : ℕ) → a ≡ b → Gives o (refused b) s → Gives o (refused a) s
answered a b e g = record { answer = ap refused e ∙ g.answer; after = g.after }

pub gives : (o o' : Outcome) (a : Answer) (s : Ring) → o ≡ o' → a ≡ o'.answer → s ≡ o'.after → Gives o a s
gives o o' a s e h q = record { answer = h ∙ sym (ap (λ x. x.answer) e); after = q ∙ sym (ap (λ x. x.after) e) }

module _ (k : Kind) (s : Ring) where
  pub unfit : (c : Call) (s' : Ring) → false ≡ tables_fit s → s' ≡ s → Gives (call k s c) (refused 4) s'
  unfolding call
  unfit c s' h q = gives (cond (tables_fit s) (obey k s c) (refuse s 4)) (refuse s 4) (refused 4) s' (ap (λ b. cond b (obey k s c) (refuse s 4)) (sym h)) refl q

  pub obeyed : (c : Call) (a : Answer) (s' : Ring) → true ≡ tables_fit s → Gives (obey k s c) a s' → Gives (call k s c) a s'
  unfolding call
  obeyed c a s' h g = subst (λ b. Gives (cond b (obey k s c) (refuse s 4)) a s') h g

  -- ## Show
  abbrev told_of : ℕ → Outcome
  told_of i = record { after = s; answer = told (shown k s i); posted = []; lost = [] }

  pub show_nobody : (i : ℕ) → false ≡ in_ring s i → Gives (obey k s (show i)) (refused 2) s
  show_nobody i e = gives (obey k s (show i)) (refuse s 2) (refused 2) s (ap (λ b. cond b (told_of i) (refuse s 2)) (sym e)) refl refl

  pub show_one : (i : ℕ) (x : Shown) → true ≡ in_ring s i → x ≡ shown k s i → Gives (obey k s (show i)) (told x) s
  show_one i x e h = gives (obey k s (show i)) (told_of i) (told x) s (ap (λ b. cond b (told_of i) (refuse s 2)) (sym e)) (ap told h) refl

  abbrev faulty-shown : Shown
  faulty-shown = record { state = is_faulty; view = 0; lock = 0; value = replicate k.width 0 }

  pub shown-faulty : (i : ℕ) → true ≡ s.faulty i → shown k s i ≡ faulty-shown
  shown-faulty i e = ap (λ b. cond b faulty-shown (shown_party k (s.parties i) (s.parties i).rec.decision)) (sym e)

  pub shown-honest : (i : ℕ) → false ≡ s.faulty i → shown k s i ≡ shown_party k (s.parties i) (s.parties i).rec.decision
  shown-honest i e = ap (λ b. cond b faulty-shown (shown_party k (s.parties i) (s.parties i).rec.decision)) (sym e)

  -- ## Lose
  pub lose_some : (i : ℕ) (m : Msg) (w : List Msg) (c : ℕ) → looked s.wire i ≡ Ok m → w ≡ taken s.wire i → c ≡ s.capacity →
      Gives (obey k s (lose i)) (said 0) (rewired s w c)
  lose_some i m w c e h q =
      gives (obey k s (lose i)) (record { after = with_wire s (taken s.wire i); answer = said 0; posted = []; lost = m ∷ [] }) (said 0) (rewired s w c)
      (ap (λ r. lose_found k s r (taken s.wire i)) e) refl (rewired_same s w (taken s.wire i) c s.capacity h q)

  pub lose-none : (i number : ℕ) (w : List Msg) (c : ℕ) → looked s.wire i ≡ Err number → w ≡ taken s.wire i → c ≡ s.capacity →
      Gives (obey k s (lose i)) (refused 9) (rewired s w c)
  lose-none i number w c e h q =
      let z = none_there s.wire i number e in
      gives (obey k s (lose i)) (refuse s number) (refused 9) (rewired s w c) (ap (λ r. lose_found k s r (taken s.wire i)) e) (ap refused (sym z.0))
      (rewired_same s w s.wire c s.capacity (h ∙ z.1) q)

  -- ## Send
  module _ (m : Msg) where
    abbrev both : Bool
    both = in_ring s m.from && in_ring s m.to

    abbrev after_post : Bool → Bool → Outcome
    after_post a b =
        cond a (cond b (record { after = with_wire s (s.wire ++ (m ∷ [])); answer = said 1; posted = m ∷ []; lost = [] }) (refuse s 10)) (refuse s 6)

    abbrev ranged : Bool
    ranged = in_range k.valid k.width m

    abbrev sent : Bool → Bool → Outcome
    sent a b = cond a (cond b (after_post ranged (leb 1 (room s))) (refuse s 3)) (refuse s 2)

    pub send_nobody : false ≡ both → Gives (obey k s (send m)) (refused 2) s
    send_nobody e = gives (obey k s (send m)) (refuse s 2) (refused 2) s (ap (λ b. sent b (s.faulty m.from)) (sym e)) refl refl

    pub send-honest : true ≡ both → false ≡ s.faulty m.from → Gives (obey k s (send m)) (refused 3) s
    send-honest e h =
        gives (obey k s (send m)) (refuse s 3) (refused 3) s (ap (λ b. sent b (s.faulty m.from)) (sym e) ∙ ap (λ b. sent true b) (sym h)) refl refl

    abbrev pub tried : Result (Unit {0}) ℕ → Answer
    tried (Ok u) = said 1
    tried (Err number) = refused number

    by_cases : (a b : Bool) → Gives (after_post a b) (tried (cond a (cond b (Ok tt) (Err 10)) (Err 6))) (rewired s (cond (a && b) (s.wire ++ (m ∷ [])) s.wire) s.capacity)
    by_cases true true = record { answer = refl; after = refl }
    by_cases true false = record { answer = refl; after = refl }
    by_cases false b = record { answer = refl; after = refl }

    pub send_tried : (r : Result (Unit {0}) ℕ) (w : List Msg) (c : ℕ) → true ≡ both → true ≡ s.faulty m.from →
        r ≡ post_answer k.valid k.width s.capacity s.wire m → w ≡ posted k.valid k.width s.capacity s.wire m → c ≡ s.capacity →
        Gives (obey k s (send m)) (tried r) (rewired s w c)
    send_tried r w c e h p q z =
        let g = by_cases ranged (ltb 0 (room s)) in
        gives (obey k s (send m)) (after_post ranged (leb 1 (room s))) (tried r) (rewired s w c)
        (ap (λ b. sent b (s.faulty m.from)) (sym e) ∙ ap (λ b. sent true b) (sym h)) (ap tried p ∙ g.answer)
        (rewired_same s w (posted k.valid k.width s.capacity s.wire m) c s.capacity q z ∙ g.after)

  -- ## Hand and repeat: how far a message comes
  module _ (i : ℕ) (w : List Msg) where
    pub bring-none : (number : ℕ) → looked s.wire i ≡ Err number → Gives (bring_found k s (looked s.wire i) w) (refused 9) s
    bring-none number e =
        gives (bring_found k s (looked s.wire i) w) (refuse s number) (refused 9) s (ap (λ r. bring_found k s r w) e) (ap refused (sym (none_there s.wire i number e).0)) refl

    module _ (m : Msg) (there : looked s.wire i ≡ Ok m) where
      abbrev brought : Bool → Bool → Outcome
      brought a b = cond a (cond b (deliver k s m w) (refuse s 10)) (refuse s 2)

      abbrev enough : Bool
      enough = leb (step_room s.n) (room s)

      pub bring_stranger : false ≡ both m → Gives (bring_found k s (looked s.wire i) w) (refused 2) s
      bring_stranger e =
          gives (bring_found k s (looked s.wire i) w) (refuse s 2) (refused 2) s (ap (λ r. bring_found k s r w) there ∙ ap (λ b. brought b enough) (sym e)) refl refl

      pub bring_crowded : true ≡ both m → false ≡ enough → Gives (bring_found k s (looked s.wire i) w) (refused 10) s
      bring_crowded e h =
          gives (bring_found k s (looked s.wire i) w) (refuse s 10) (refused 10) s
          (ap (λ r. bring_found k s r w) there ∙ (ap (λ b. brought b enough) (sym e) ∙ ap (brought true) (sym h))) refl refl

      pub bring_all : (a : Answer) (s' : Ring) → true ≡ both m → true ≡ enough → Gives (deliver k s m w) a s' → Gives (bring_found k s (looked s.wire i) w) a s'
      bring_all a s' e h g =
          gives (bring_found k s (looked s.wire i) w) (deliver k s m w) a s'
          (ap (λ r. bring_found k s r w) there ∙ (ap (λ b. brought b enough) (sym e) ∙ ap (brought true) (sym h))) g.answer g.after

  -- ## What a message does at its receiver
  module _ (m : Msg) where
    abbrev at-honest : List Msg → Outcome
    at-honest w = stepped s m.to w (step (setting k s) m.to (s.parties m.to) m)

    abbrev at-faulty : List Msg → Outcome
    at-faulty w = record { after = with_wire s w; answer = said 0; posted = []; lost = [] }

    pub reach_faulty : true ≡ s.faulty m.to → Gives (deliver k s m s.wire) (said 0) s
    reach_faulty e =
        gives (deliver k s m s.wire) (at-faulty s.wire) (said 0) s (ap (λ b. cond b (at-faulty s.wire) (at-honest s.wire)) (sym e)) refl refl

    pub reach_honest : (a : Answer) (s' : Ring) → false ≡ s.faulty m.to → Gives (at-honest s.wire) a s' → Gives (deliver k s m s.wire) a s'
    reach_honest a s' e g =
        gives (deliver k s m s.wire) (at-honest s.wire) a s' (ap (λ b. cond b (at-faulty s.wire) (at-honest s.wire)) (sym e)) g.answer g.after

    -- after the message was taken out
    pub reach_after : (w : List Msg) (c : ℕ) (a : Answer) (s' : Ring) → c ≡ s.capacity → Gives (deliver k (rewired s w c) m w) a s' → Gives (deliver k s m w) a s'
    reach_after w c a s' e g = subst (λ d. Gives (deliver k (rewired s w d) m w) a s') e g

  -- ## Timer
  module _ (i : ℕ) where
    abbrev by_honesty : Bool → Bool → Outcome
    by_honesty a b = cond a (cond b (refuse s 3) (timed k s i)) (refuse s 2)

    pub timer_nobody : false ≡ in_ring s i → Gives (obey k s (timer i)) (refused 2) s
    timer_nobody e = gives (obey k s (timer i)) (refuse s 2) (refused 2) s (ap (λ b. by_honesty b (s.faulty i)) (sym e)) refl refl

    pub timer-faulty : true ≡ in_ring s i → true ≡ s.faulty i → Gives (obey k s (timer i)) (refused 3) s
    timer-faulty e h =
        gives (obey k s (timer i)) (refuse s 3) (refused 3) s (ap (λ b. by_honesty b (s.faulty i)) (sym e) ∙ ap (by_honesty true) (sym h)) refl refl

    pub timer-honest : (a : Answer) (s' : Ring) → true ≡ in_ring s i → false ≡ s.faulty i → Gives (timed k s i) a s' → Gives (obey k s (timer i)) a s'
    timer-honest a s' e h g =
        gives (obey k s (timer i)) (timed k s i) a s' (ap (λ b. by_honesty b (s.faulty i)) (sym e) ∙ ap (by_honesty true) (sym h)) g.answer g.after

    abbrev undecided : Bool
    undecided = none (s.parties i).rec.decision

    abbrev early : Bool
    early = ltb (s.parties i).rec.view last_view

    abbrev roomy : Bool
    roomy = leb (step_room s.n) (room s)

    abbrev ticked : Outcome
    ticked = stepped s i s.wire (on_timer (setting k s) i (s.parties i))

    abbrev by_state : Bool → Bool → Bool → Outcome
    by_state a b c = cond a (cond b (cond c ticked (refuse s 10)) (refuse s 13)) (refuse s 12)

    pub timed-decided : false ≡ undecided → Gives (timed k s i) (refused 12) s
    timed-decided e = gives (timed k s i) (refuse s 12) (refused 12) s (ap (λ b. by_state b early roomy) (sym e)) refl refl

    pub timed_late : true ≡ undecided → false ≡ early → Gives (timed k s i) (refused 13) s
    timed_late e h =
        gives (timed k s i) (refuse s 13) (refused 13) s (ap (λ b. by_state b early roomy) (sym e) ∙ ap (λ b. by_state true b roomy) (sym h)) refl refl

    pub timed_crowded : true ≡ undecided → true ≡ early → false ≡ roomy → Gives (timed k s i) (refused 10) s
    timed_crowded e h q =
        gives (timed k s i) (refuse s 10) (refused 10) s
        (ap (λ b. by_state b early roomy) (sym e) ∙ (ap (λ b. by_state true b roomy) (sym h) ∙ ap (by_state true true) (sym q))) refl refl

    pub timed_all : (a : Answer) (s' : Ring) → true ≡ undecided → true ≡ early → true ≡ roomy → Gives ticked a s' → Gives (timed k s i) a s'
    timed_all a s' e h q g =
        gives (timed k s i) ticked a s'
        (ap (λ b. by_state b early roomy) (sym e) ∙ (ap (λ b. by_state true b roomy) (sym h) ∙ ap (by_state true true) (sym q))) g.answer g.after

-- ## Room
taken-length : (w : List Msg) (i : ℕ) → length (taken w i) ≤ length w
taken-length [] i = omega arith
taken-length (m ∷ w) zero = omega arith
taken-length (m ∷ w) (suc i) = let h = taken-length w i in omega (arith, h)

pub no_longer : (keep : Bool) (w : List Msg) (i : ℕ) → length (cond keep w (taken w i)) ≤ length w
no_longer true w i = omega arith
no_longer false w i = taken-length w i

pub room_for_step : (s : Ring) (w : List Msg) (c : ℕ) → true ≡ leb (step_room s.n) (room s) → length w ≤ length s.wire → c ≡ s.capacity → length w + (3 * s.n + 8) ≤ c
room_for_step s w c e h q =
    let r : 3 * s.n + 8 ≤ s.capacity - length s.wire = leb-true (step_room s.n) (room s) (sym e) in
    omega (arith, r, h, q)
