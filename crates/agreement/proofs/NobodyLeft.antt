-- The second count of every shift: once no message between honest parties waits or was lost, and the undecided share a view with an honest primary, none is undecided.
use Rattle.std.proofs.Common.{◌≡◌, ℕ, ◌<◌, ◌≤◌, true, false, ◌⊎◌, List, [], ◌++◌, Some, None, Ok, Option, Result, sym, refl, ap, ◌∙◌, subst, inl, inr, arith}
use Rattle.std.specs.List.{AllByRecursion as All}
use Rattle.std.proofs.ByRecursion.{All-push}
use Rattle.std.proofs.lemmas.Bool.{and_from, both_ways}
use Rattle.std.proofs.lemmas.Bool.Decides.{nat_tests}
use Rattle.messages.specs.Messages.{Msg}
use Rattle.wires.specs.Wire.{looked, taken}
use Rattle.rules.specs.Party.{Party}
use Rattle.rules.specs.Step.{step, on_timer}
use Rattle.agreement.specs.Ring.{Kind, Ring, is_open, setting, honest, shown_party, shown}
use Rattle.agreement.specs.Calls.{said, Plan, set_up, set_up_done}
use Rattle.agreement.specs.Runs.{Call, Shift, begun, shift}
use Rattle.agreement.specs.Counts.{Open, NobodyLeft}
use Rattle.agreement.proofs.History.{Log}
use Rattle.agreement.proofs.Runs.{turned, Kept, run-kept}
use Rattle.agreement.proofs.Begin.{Started, started, honest_parts, in_ring_parts}
use Rattle.agreement.proofs.Fair.{MsgFair}
use Rattle.agreement.proofs.Invariant.{Inv, upd_ind}
use Rattle.agreement.proofs.Sound.{Fair, Laws, world}
use Rattle.agreement.proofs.Start.{first_said, laws_first, first_inv}
use Rattle.agreement.proofs.Mail.{In, in_all, looked_in, taken_in, in_taken}
use Rattle.agreement.proofs.Delivery.{Delivery}
use Rattle.agreement.proofs.DeliveryKept.{step_delivered, timer_delivered, swallow_delivered, lose_delivered, send_delivered}
use Rattle.agreement.proofs.Closure.{Tallied, Waits, prompt}
use Rattle.agreement.proofs.Prompt.{step_tallied, timer_tallied, step_waits, timer_waits}
use Rattle.agreement.proofs.ChoiceKept.{Choice}
use Rattle.agreement.proofs.LiveGather.{facts, step_grown, timer_grown}
use Rattle.agreement.proofs.LiveArrive.{nobody_open}
use Rattle.agreement.proofs.LiveBegin.{posts-begun, tallied_begun, waits_begun, choice_begun, delivery_begun}

pub record Alive (k : Kind) (h : Shift) : Type 0 where
  pub some : 0 < h.ring.n
  pub laws : Laws k h.ring
  pub said : ℕ → Log
  pub inv : Inv (world k h.ring laws) h.ring.parties said
  pub posted : All (Fair (world k h.ring laws) h.ring.parties said) h.posted
  pub choice : Choice (world k h.ring laws) h.ring.parties said
  pub tallied : (i : ℕ) → honest h.ring i ≡ true → Tallied (setting k h.ring) (h.ring.parties i)
  pub waits : (i : ℕ) → honest h.ring i ≡ true → Waits (setting k h.ring) (h.ring.parties i)
  pub delivery : Delivery (setting k h.ring) (honest h.ring) h.ring.parties h.posted h.ring.wire h.lost

-- a timer of party i, as a message that says nothing
tick : ℕ → Msg
tick i = record { kind = 0; from = i; to = i; view = 0; key = 0; value = []; second_key = 0; second_value = []; previous = None }

tick_kind : (i : ℕ) → (tick i).kind ≡ 0
unfolding tick
tick_kind i = refl

tick_from : (i : ℕ) → (tick i).from ≡ i
unfolding tick
tick_from i = refl

tick_fair : (i : ℕ) (log : Log) (o : Option (List ℕ)) → MsgFair log o (tick i)
unfolding tick
tick_fair i log o =
    record { vote = λ lo hi. absurd (omega arith); suggest = λ q. absurd (omega arith); proof = λ q. absurd (omega arith); propose = λ q. absurd (omega arith); told = λ q. absurd (omega arith) }

-- the message taken out, and what is left
module _ (wire w : List Msg) (i : ℕ) (m : Msg) (e : looked wire i ≡ Ok m) where
  out_taken : (y : Msg) → In y wire → (y ≡ m) ⊎ In y (taken wire i)
  out_taken y h = elim (in_taken y wire i h) [ inl q ↦ inl (let z : ◌≡◌ {A = Result Msg ℕ} (Ok y) (Ok m) = sym q ∙ e in cc) | inr q ↦ inr q ]

  out_of : (w ≡ taken wire i) ⊎ (w ≡ wire) → (y : Msg) → In y wire → (y ≡ m) ⊎ In y w
  out_of (inl q) y h = subst (λ v. (y ≡ m) ⊎ In y v) (sym q) (out_taken y h)
  out_of (inr q) y h = inr (subst (In y) (sym q) h)

  inside_of : (w ≡ taken wire i) ⊎ (w ≡ wire) → (y : Msg) → In y w → In y wire
  inside_of (inl q) y h = taken_in y wire i (subst (In y) q h)
  inside_of (inr q) y h = subst (In y) q h

not_honest : (s : Ring) (i : ℕ) → s.faulty i ≡ true → honest s i ≡ false
not_honest s i f = grind (arith, nat_tests)

module _ (k : Kind) where
  alive_brought : (h : Shift) (i : ℕ) (m : Msg) (w : List Msg) → looked h.ring.wire i ≡ Ok m → (w ≡ taken h.ring.wire i) ⊎ (w ≡ h.ring.wire) →
      1 ≤ m.from → m.from ≤ h.ring.n → honest h.ring m.to ≡ true → Alive k h →
      Alive k (record {
        ring = turned h.ring m.to (w ++ (step (setting k h.ring) m.to (h.ring.parties m.to) m).posts) (step (setting k h.ring) m.to (h.ring.parties m.to) m).after;
        posted = h.posted ++ (step (setting k h.ring) m.to (h.ring.parties m.to) m).posts;
        lost = h.lost;
      })
  alive_brought h i m w e q lo hi to a =
      let waiting = looked_in m h.ring.wire i e in
      let f = in_all _ m h.posted a.posted (a.delivery.known m waiting) in
      let n = step_grown (world k h.ring a.laws) a.some m.to m to lo hi h.ring.parties h.posted
      (record { said = a.said; good = record { inv = a.inv; fair = f; all = a.posted }; choice = a.choice }) in
      record {
        some = a.some;
        laws = a.laws;
        said = n.said;
        inv = n.good.inv;
        posted = n.good.all;
        choice = n.choice;
        tallied = upd_ind (λ j p. honest h.ring j ≡ true → Tallied (setting k h.ring) p) h.ring.parties m.to _
            (λ _. step_tallied (setting k h.ring) (honest h.ring) a.laws a.some m.to m lo hi _ (a.tallied m.to to)) a.tallied;
        waits = upd_ind (λ j p. honest h.ring j ≡ true → Waits (setting k h.ring) p) h.ring.parties m.to _
            (λ _. step_waits (setting k h.ring) (honest h.ring) a.laws a.some m.to m lo hi _ (a.tallied m.to to) (a.waits m.to to)) a.waits;
        delivery = step_delivered (setting k h.ring) (honest h.ring) a.laws a.some h.ring.parties h.posted h.ring.wire h.lost a.delivery w m to lo hi waiting
            (out_of h.ring.wire w i m e q) (inside_of h.ring.wire w i m e q) (a.tallied m.to to);
      }

  alive_timer : (h : Shift) (i : ℕ) → honest h.ring i ≡ true → Alive k h →
      Alive k (record {
        ring = turned h.ring i (h.ring.wire ++ (on_timer (setting k h.ring) i (h.ring.parties i)).posts) (on_timer (setting k h.ring) i (h.ring.parties i)).after;
        posted = h.posted ++ (on_timer (setting k h.ring) i (h.ring.parties i)).posts;
        lost = h.lost;
      })
  alive_timer h i hi a =
      let b = honest_parts h.ring i hi in
      let lo : 1 ≤ (tick i).from = subst (λ j. 1 ≤ j) (sym (tick_from i)) b.0 in
      let up : (tick i).from ≤ h.ring.n = subst (λ j. j ≤ h.ring.n) (sym (tick_from i)) b.1 in
      let n = timer_grown (world k h.ring a.laws) a.some i (tick i) hi lo up (tick_kind i) h.ring.parties h.posted
      (record { said = a.said; good = record { inv = a.inv; fair = λ _. tick_fair i _ _; all = a.posted }; choice = a.choice }) in
      record {
        some = a.some;
        laws = a.laws;
        said = n.said;
        inv = n.good.inv;
        posted = n.good.all;
        choice = n.choice;
        tallied = upd_ind (λ j p. honest h.ring j ≡ true → Tallied (setting k h.ring) p) h.ring.parties i _
            (λ _. timer_tallied (setting k h.ring) (honest h.ring) a.laws a.some i (tick i) lo up (tick_kind i) _ (a.tallied i hi)) a.tallied;
        waits = upd_ind (λ j p. honest h.ring j ≡ true → Waits (setting k h.ring) p) h.ring.parties i _
            (λ _. timer_waits (setting k h.ring) (honest h.ring) a.laws a.some i (tick i) lo up (tick_kind i) _ (a.tallied i hi) (a.waits i hi)) a.waits;
        delivery = timer_delivered (setting k h.ring) (honest h.ring) a.laws a.some h.ring.parties h.posted h.ring.wire h.lost a.delivery i (tick i) (tick_kind i) hi lo up (a.tallied i hi);
      }

  pub alive_kept : Kept k (Alive k)
  alive_kept =
      record {
        brought = λ h i m w e q from to a. let b = in_ring_parts h.ring m.from from in alive_brought h i m w e q b.0 b.1 to a;
        swallowed = λ h i m w e q f a. record {
          some = a.some;
          laws = a.laws;
          said = a.said;
          inv = a.inv;
          posted = a.posted;
          choice = a.choice;
          tallied = a.tallied;
          waits = a.waits;
          delivery = swallow_delivered (setting k h.ring) (honest h.ring) a.laws a.some h.ring.parties h.posted h.ring.wire h.lost a.delivery w m (not_honest h.ring m.to f)
              (out_of h.ring.wire w i m e q) (inside_of h.ring.wire w i m e q);
        };
        lose = λ h i m e a. record {
          some = a.some;
          laws = a.laws;
          said = a.said;
          inv = a.inv;
          posted = a.posted;
          choice = a.choice;
          tallied = a.tallied;
          waits = a.waits;
          delivery = lose_delivered (setting k h.ring) (honest h.ring) a.laws a.some h.ring.parties h.posted h.ring.wire h.lost a.delivery (taken h.ring.wire i) m
              (out_taken h.ring.wire [] i m e) (λ y. taken_in y h.ring.wire i);
        };
        send = λ h m f a. record {
          some = a.some;
          laws = a.laws;
          said = a.said;
          inv = a.inv;
          choice = a.choice;
          tallied = a.tallied;
          waits = a.waits;
          posted = All-push _ h.posted m a.posted (λ hm. absurd (both_ways _ (not_honest h.ring m.from f) hm));
          delivery = send_delivered (setting k h.ring) (honest h.ring) a.laws a.some h.ring.parties h.posted h.ring.wire h.lost a.delivery m (not_honest h.ring m.from f);
        };
        timer = λ h i hi _ a. alive_timer h i hi a;
      }

  module _ (p : Plan) (s : Ring) where
    first_alive : Started k p s → Alive k (record { ring = (set_up_done k p s).after; posted = (set_up_done k p s).posted; lost = [] })
    first_alive t =
        record {
          some = t.some;
          laws = laws_first k p s t;
          said = first_said k p s;
          inv = first_inv k p s t;
          posted = posts-begun k p s t;
          choice = choice_begun k p s t;
          tallied = tallied_begun k p s t;
          waits = waits_begun k p s t;
          delivery = delivery_begun k p s t;
        }

    begun_alive : (set_up k p s).answer ≡ said 0 → Alive k (begun k p s)
    begun_alive e =
        let t = started k p s e in
        subst (λ o. Alive k (record { ring = o.after; posted = o.posted; lost = [] })) (sym t.is) (first_alive t)

    pub shift_alive : (cs : List Call) → (set_up k p s).answer ≡ said 0 → Alive k (shift k p s cs)
    shift_alive cs e = run-kept k (Alive k) alive_kept (begun k p s) cs (begun_alive e)

  -- ## What show calls open
  open_none : (q : Party) (o : Option (List ℕ)) → (shown_party k q o).state ≡ is_open → o ≡ None
  open_none q None e = refl
  open_none q (Some x) e = absurd (let z : ◌≡◌ {A = ℕ} 0 1 = cc in omega arith)

  module _ (s : Ring) (i : ℕ) (hi : honest s i ≡ true) where
    shown-is : shown k s i ≡ shown_party k (s.parties i) (s.parties i).rec.decision
    shown-is = let f = (honest_parts s i hi).2 in rw f refl

    undecided : (shown k s i).state ≡ is_open → (s.parties i).rec.decision ≡ None
    undecided e = open_none (s.parties i) (s.parties i).rec.decision (sym (ap (λ z. z.state) shown-is) ∙ e)

    is_open_in : (s.parties i).rec.decision ≡ None → Open k s i (s.parties i).rec.view
    is_open_in e =
        let here = shown-is ∙ ap (shown_party k (s.parties i)) e in
        record { trusty = hi; state = ap (λ z. z.state) here; view = ap (λ z. z.view) here }

  pub alive_nobody_left : (h : Shift) → Alive k h → NobodyLeft k h
  alive_nobody_left h a no-wire no-lost v same hp i w o =
      nobody_open (setting k h.ring) (honest h.ring) (λ j hj. let b = honest_parts h.ring j hj in (b.0, b.1)) a.laws h.ring.parties a.said
      h.posted h.ring.wire h.lost
      (facts (world k h.ring a.laws) h.ring.parties a.said a.inv a.choice (λ j hj. prompt (setting k h.ring) (h.ring.parties j) (a.tallied j hj) (a.waits j hj)))
      a.delivery
      (λ m x hf ht. both_ways _ (elim x [ inl y ↦ in_all _ m h.ring.wire no-wire y | inr y ↦ in_all _ m h.lost no-lost y ]) (and_from _ _ hf ht))
      v (λ j hj e. same j (h.ring.parties j).rec.view (is_open_in h.ring j hj e)) hp i o.trusty (undecided h.ring i o.trusty o.state)

-- of every shift
pub nobody_left : (k : Kind) (p : Plan) (s : Ring) (cs : List Call) → (set_up k p s).answer ≡ said 0 → NobodyLeft k (shift k p s cs)
nobody_left k p s cs e = alive_nobody_left k (shift k p s cs) (shift_alive k p s cs e)
