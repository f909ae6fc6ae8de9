-- A fact of a shift that set-up gives and every call keeps holds of every shift.
use Rattle.std.proofs.Common.{◌≡◌, ℕ, true, ◌&&◌, ltb, leb, ◌⊎◌, List, [], ◌∷◌, ◌++◌, None, Ok, Err, Result, sym, refl, subst, inl, inr, append-nil}
use Rattle.std.proofs.lemmas.Bool.{cond_both, and_parts}
use Rattle.messages.specs.Messages.{Msg, last_view, in_range}
use Rattle.wires.specs.Wire.{looked, taken}
use Rattle.rules.specs.Counting.{upd}
use Rattle.rules.specs.Party.{Party, none}
use Rattle.rules.specs.Step.{step, on_timer}
use Rattle.agreement.specs.Ring.{Kind, Ring, setting, in_ring, honest, room, step_room, tables_fit}
use Rattle.agreement.specs.Calls.{Outcome, refuse, with_wire, bring_found, lose_found, send_message, ring_timer, ring_show}
use Rattle.agreement.proofs.Steps.{none_is}
use Rattle.agreement.specs.Runs.{Call, hand, repeat, lose, send, timer, show, Shift, obey, call, follow, run}

-- a ring in which party i has become p and the wire w
abbrev pub turned : Ring → ℕ → List Msg → Party → Ring
turned s i w p =
    record {
      n = s.n;
      f = s.f;
      faulty = s.faulty;
      parties = upd s.parties i p;
      records = s.records;
      rows = s.rows;
      wire = w;
      capacity = s.capacity;
    }

module _ (k : Kind) (P : Shift → Type 0) where
  -- what a call can do to a shift
  pub record Kept : Type 0 where
    -- an honest party takes in a message that waits; it may stay on the wire
    pub brought : (h : Shift) (i : ℕ) (m : Msg) (w : List Msg) → looked h.ring.wire i ≡ Ok m → (w ≡ taken h.ring.wire i) ⊎ (w ≡ h.ring.wire) →
        in_ring h.ring m.from ≡ true → honest h.ring m.to ≡ true → P h →
        P (record {
          ring = turned h.ring m.to (w ++ (step (setting k h.ring) m.to (h.ring.parties m.to) m).posts)
              (step (setting k h.ring) m.to (h.ring.parties m.to) m).after;
          posted = h.posted ++ (step (setting k h.ring) m.to (h.ring.parties m.to) m).posts;
          lost = h.lost;
        })
    -- a faulty party takes in a message
    pub swallowed : (h : Shift) (i : ℕ) (m : Msg) (w : List Msg) → looked h.ring.wire i ≡ Ok m → (w ≡ taken h.ring.wire i) ⊎ (w ≡ h.ring.wire) →
        h.ring.faulty m.to ≡ true → P h → P (record { ring = with_wire h.ring w; posted = h.posted; lost = h.lost })
    pub lose : (h : Shift) (i : ℕ) (m : Msg) → looked h.ring.wire i ≡ Ok m → P h →
        P (record { ring = with_wire h.ring (taken h.ring.wire i); posted = h.posted; lost = h.lost ++ (m ∷ []) })
    -- a faulty party posts a message
    pub send : (h : Shift) (m : Msg) → h.ring.faulty m.from ≡ true → P h →
        P (record { ring = with_wire h.ring (h.ring.wire ++ (m ∷ [])); posted = h.posted ++ (m ∷ []); lost = h.lost })
    pub timer : (h : Shift) (i : ℕ) → honest h.ring i ≡ true → (h.ring.parties i).rec.decision ≡ None → P h →
        P (record {
          ring = turned h.ring i (h.ring.wire ++ (on_timer (setting k h.ring) i (h.ring.parties i)).posts) (on_timer (setting k h.ring) i (h.ring.parties i)).after;
          posted = h.posted ++ (on_timer (setting k h.ring) i (h.ring.parties i)).posts;
          lost = h.lost;
        })

  module _ (t : Kept) (h : Shift) (p : P h) where
    pub record After (o : Outcome) : Type 0 where
      pub holds : P (follow k h o)

    -- nothing posted or nothing lost
    unlost : (r : Ring) (ms : List Msg) → P (record { ring = r; posted = ms; lost = h.lost }) → P (record { ring = r; posted = ms; lost = h.lost ++ [] })
    unlost r ms q = subst (λ l. P (record { ring = r; posted = ms; lost = l })) (sym (append-nil h.lost)) q

    unposted : (r : Ring) (l : List Msg) → P (record { ring = r; posted = h.posted; lost = l }) → P (record { ring = r; posted = h.posted ++ []; lost = l })
    unposted r l q = subst (λ ms. P (record { ring = r; posted = ms; lost = l })) (sym (append-nil h.posted)) q

    same : (o : Outcome) → o.after ≡ h.ring → o.posted ≡ [] → o.lost ≡ [] → After o
    same o a b c =
        record {
          holds = subst (λ r. P (record { ring = r; posted = h.posted ++ o.posted; lost = h.lost ++ o.lost })) (sym a)
              (subst (λ ms. P (record { ring = h.ring; posted = h.posted ++ ms; lost = h.lost ++ o.lost })) (sym b)
              (subst (λ ms. P (record { ring = h.ring; posted = h.posted ++ []; lost = h.lost ++ ms })) (sym c) (unposted _ _ (unlost _ _ p))));
        }

    after-refuse : (number : ℕ) → After (refuse h.ring number)
    after-refuse number = same _ refl refl refl

    after-bring : (i : ℕ) (r : Result Msg ℕ) (w : List Msg) → looked h.ring.wire i ≡ r → (w ≡ taken h.ring.wire i) ⊎ (w ≡ h.ring.wire) → After (bring_found k h.ring r w)
    after-bring i (Err number) w e q = after-refuse number
    after-bring i (Ok m) w e q =
        cond_both (in_ring h.ring m.from && in_ring h.ring m.to) _ _ After
        (λ a. let b = and_parts (in_ring h.ring m.from) (in_ring h.ring m.to) a in
        cond_both (leb (step_room h.ring.n) (room h.ring)) _ _ After
        (λ _. cond_both (h.ring.faulty m.to) _ _ After
        (λ f. record { holds = unposted _ _ (unlost _ _ (t.swallowed h i m w e q f p)) })
        (λ f. record { holds = unlost _ _ (t.brought h i m w e q b.0 (let b₁ = b.1 in rw (b₁, f) refl) p) }))
        (λ _. after-refuse 10))
        (λ _. after-refuse 2)

    after-lose : (i : ℕ) (r : Result Msg ℕ) → looked h.ring.wire i ≡ r → After (lose_found k h.ring r (taken h.ring.wire i))
    after-lose i (Err number) e = after-refuse number
    after-lose i (Ok m) e = record { holds = unposted _ _ (t.lose h i m e p) }

    after-send : (m : Msg) → After (send_message k h.ring m)
    after-send m =
        cond_both (in_ring h.ring m.from && in_ring h.ring m.to) _ _ After
        (λ _. cond_both (h.ring.faulty m.from) _ _ After
        (λ f. cond_both (in_range k.valid k.width m) _ _ After
        (λ _. cond_both (leb 1 (room h.ring)) _ _ After (λ _. record { holds = unlost _ _ (t.send h m f p) }) (λ _. after-refuse 10))
        (λ _. after-refuse 6))
        (λ _. after-refuse 3))
        (λ _. after-refuse 2)

    after-timer : (i : ℕ) → After (ring_timer k h.ring i)
    after-timer i =
        cond_both (in_ring h.ring i) _ _ After
        (λ a. cond_both (h.ring.faulty i) _ _ After (λ _. after-refuse 3)
        (λ f. cond_both (none (h.ring.parties i).rec.decision) _ _ After
        (λ d. cond_both (ltb (h.ring.parties i).rec.view last_view) _ _ After
        (λ _. cond_both (leb (step_room h.ring.n) (room h.ring)) _ _ After
        (λ _. record { holds = unlost _ _ (t.timer h i (rw (a, f) refl) (none_is _ d) p) }) (λ _. after-refuse 10))
        (λ _. after-refuse 13))
        (λ _. after-refuse 12)))
        (λ _. after-refuse 2)

    after-show : (i : ℕ) → After (ring_show k h.ring i)
    after-show i = cond_both (in_ring h.ring i) _ _ After (λ _. same _ refl refl refl) (λ _. after-refuse 2)

    after-obey : (c : Call) → After (obey k h.ring c)
    after-obey (hand i) = after-bring i _ _ refl (inl refl)
    after-obey (repeat i) = after-bring i _ _ refl (inr refl)
    after-obey (lose i) = after-lose i _ refl
    after-obey (send m) = after-send m
    after-obey (timer i) = after-timer i
    after-obey (show i) = after-show i

    pub call_kept : (c : Call) → P (follow k h (call k h.ring c))
    unfolding call
    call_kept c = (cond_both (tables_fit h.ring) _ _ After (λ _. after-obey c) (λ _. after-refuse 4)).holds

  pub run-kept : Kept → (h : Shift) (cs : List Call) → P h → P (run k h cs)
  run-kept t h [] p = p
  run-kept t h (c ∷ cs) p = run-kept t (follow k h (call k h.ring c)) cs (call_kept t h p c)
