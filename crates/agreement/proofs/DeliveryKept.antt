-- Delivery is kept by every call: a message that waits is handed and taken in, or lost, or waits on.
use Rattle.std.proofs.Common.{◌≡◌, ℕ, ◌<◌, ◌≤◌, Bool, true, false, ◌⊎◌, List, [], ◌∷◌, ◌++◌, sym, refl, subst, inl, inr, arith}
use Rattle.std.proofs.lemmas.Bool.{both_ways}
use Rattle.messages.specs.Messages.{Msg}
use Rattle.rules.specs.Counting.{upd}
use Rattle.rules.specs.Party.{Setting, Party}
use Rattle.rules.specs.Thresholds.{quorum, voucher}
use Rattle.rules.specs.Tests.{heeded}
use Rattle.rules.specs.Step.{step, on_timer}
use Rattle.rules.specs.Quorums.{Quorums}
use Rattle.agreement.proofs.Invariant.{upd_ind}
use Rattle.agreement.proofs.Sound.{upd_here}
use Rattle.agreement.proofs.Mail.{In, in_left, in_right, in_append, in_one, in_only}
use Rattle.agreement.proofs.Walk.{Parts, walk_step, walk_timer}
use Rattle.agreement.proofs.Drawn.{Keeps}
use Rattle.agreement.proofs.Closure.{Tallied}
use Rattle.agreement.proofs.Part.{by_parts}
use Rattle.agreement.proofs.Delivery.{Delivery}
use Rattle.agreement.proofs.DeliverySpent.{spent_kept, spent_now}
use Rattle.agreement.proofs.DeliveryPart.{sent_more, Mailed, step_mailed, timer_mailed}

-- ## What a whole step never takes back
keeps_same : (g : Setting) (p : Party) → Keeps g p p
keeps_same g p =
    record {
      view = omega arith;
      decision = λ h. h;
      request = λ j. omega arith;
      done = λ j h. h;
      suggest = λ j _ h. h;
      proof = λ j _ h. h;
      vote = λ j k _ h. h;
      proposal = λ _ h. h;
    }

keeps_then : (g : Setting) (p q r : Party) → Keeps g p q → Keeps g q r → Keeps g p r
keeps_then g p q r a b =
    let x = a.view in
    let y = b.view in
    let le : p.rec.view ≤ r.rec.view = omega arith in
    record {
      view = le;
      decision = λ h. b.decision (a.decision h);
      request = λ j. let u = a.request j in let v = b.request j in omega arith;
      done = λ j h. b.done j (a.done j h);
      suggest = λ j e h. b.suggest j (omega arith) (a.suggest j (omega arith) h);
      proof = λ j e h. b.proof j (omega arith) (a.proof j (omega arith) h);
      vote = λ j k e h. b.vote j k (omega arith) (a.vote j k (omega arith) h);
      proposal = λ e h. b.proposal (omega arith) (a.proposal (omega arith) h);
    }

module _ (g : Setting) (some : 0 < g.n) (me : ℕ) (m : Msg) (lo : 1 ≤ m.from) (hi : m.from ≤ g.n) where
  keeps_parts : Parts g me m (λ p s. Keeps g p s.after)
  keeps_parts =
      by_parts g me m some lo hi (λ p s. Keeps g p s.after) (keeps_same g) (λ p s x. x.drawn.keeps) (λ p s f a b. keeps_then g p s.after (f s.after).after a b)

  pub step_keeps : (p : Party) → Keeps g p (step g me p m).after
  step_keeps p = walk_step g me m (λ p s. Keeps g p s.after) keeps_parts p

  pub timer_keeps : m.kind ≡ 0 → (p : Party) → Keeps g p (on_timer g me p).after
  timer_keeps k p = walk_timer g me m (λ p s. Keeps g p s.after) keeps_parts p k

module _ (g : Setting) (hon : ℕ → Bool) (laws : Quorums g.n hon (quorum g) (voucher g)) (some : 0 < g.n) where
  mailed_of : (party : ℕ → Party) (posted wire lost : List Msg) → Delivery g hon party posted wire lost → Mailed g hon laws some party posted
  mailed_of party posted wire lost d = record { sent = d.sent; entered = d.entered; asked = d.asked; requests = d.requests }

  -- ## One party has stepped, the wire is w and then its posts
  module _ (party : ℕ → Party) (posted wire lost w posts : List Msg) (me : ℕ) (q : Party) (d : Delivery g hon party posted wire lost) (k : Keeps g (party me) q)
      (mail : Mailed g hon laws some (upd party me q) (posted ++ posts))
      (inside : (y : Msg) → In y w → In y wire)
      (left : (y : Msg) → In y wire → 1 ≤ y.kind → y.kind ≤ 10 → In y w ⊎ (heeded g y.to (upd party me q y.to) y ≡ false)) where
    spent_still : (y : Msg) → In y posted → hon y.from ≡ true → hon y.to ≡ true → 1 ≤ y.kind → y.kind ≤ 10 →
        heeded g y.to (party y.to) y ≡ false → heeded g y.to (upd party me q y.to) y ≡ false
    spent_still y i hf ht lo hi h =
        upd_ind (λ (n : ℕ) (r : Party). y.to ≡ n → heeded g n r y ≡ false) party me q
        (λ e. spent_kept g me (party me) q y k lo hi (λ a b. subst (λ n. y.view ≤ (party n).rec.view) e (d.entered y i hf ht a b))
        (subst (λ n. heeded g n (party n) y ≡ false) e h))
        (λ n e. subst (λ n. heeded g n (party n) y ≡ false) e h) y.to refl

    pub delivered : Delivery g hon (upd party me q) (posted ++ posts) (w ++ posts) lost
    delivered =
        record {
          sent = mail.sent;
          entered = mail.entered;
          asked = mail.asked;
          requests = mail.requests;
          fate = λ y i hf ht lo hi. elim (in_append y posted posts i) [
            | inr n ↦ inl (in_right y w posts n)
            | inl o ↦ elim (d.fate y o hf ht lo hi) [
              | inl x ↦ elim (left y x lo hi) [ inl z ↦ inl (in_left y w posts z) | inr z ↦ inr (inr z) ]
              | inr (inl x) ↦ inr (inl x)
              | inr (inr x) ↦ inr (inr (spent_still y o hf ht lo hi x))
            ]
          ];
          known = λ y i. elim (in_append y w posts i) [ inl o ↦ in_left y posted posts (d.known y (inside y o)) | inr n ↦ in_right y posted posts n ];
        }

  module _ (party : ℕ → Party) (posted wire lost : List Msg) (d : Delivery g hon party posted wire lost) where
    pub step_delivered : (w : List Msg) (m : Msg) → hon m.to ≡ true → 1 ≤ m.from → m.from ≤ g.n → In m wire →
        ((y : Msg) → In y wire → (y ≡ m) ⊎ In y w) → ((y : Msg) → In y w → In y wire) → Tallied g (party m.to) →
        Delivery g hon (upd party m.to (step g m.to (party m.to) m).after) (posted ++ (step g m.to (party m.to) m).posts) (w ++ (step g m.to (party m.to) m).posts) lost
    step_delivered w m hme lo hi i out inside t =
        delivered party posted wire lost w (step g m.to (party m.to) m).posts m.to (step g m.to (party m.to) m).after d
        (step_keeps g some m.to m lo hi (party m.to))
        (step_mailed g hon laws some m.to m hme lo hi party posted (λ _ _. d.known m i) t (mailed_of party posted wire lost d))
        inside
        (λ y j a b. elim (out y j) [
          | inr z ↦ inl z
          | inl e ↦ inr (subst (λ n. heeded g n.to (upd party m.to (step g m.to (party m.to) m).after n.to) n ≡ false) (sym e)
              (subst (λ (r : Party). heeded g m.to r m ≡ false) (sym (upd_here party m.to (step g m.to (party m.to) m).after))
              (spent_now g m.to m (party m.to) (subst (λ (n : Msg). 1 ≤ n.kind) e a) (subst (λ (n : Msg). n.kind ≤ 10) e b))))
        ])

    -- a timer has no message: one without a kind stands for it
    pub timer_delivered : (me : ℕ) (m : Msg) → m.kind ≡ 0 → hon me ≡ true → 1 ≤ m.from → m.from ≤ g.n → Tallied g (party me) →
        Delivery g hon (upd party me (on_timer g me (party me)).after) (posted ++ (on_timer g me (party me)).posts) (wire ++ (on_timer g me (party me)).posts) lost
    timer_delivered me m k hme lo hi t =
        delivered party posted wire lost wire (on_timer g me (party me)).posts me (on_timer g me (party me)).after d (timer_keeps g some me m lo hi k (party me))
        (timer_mailed g hon laws some me m hme lo hi k party posted (λ e. absurd (omega arith)) t (mailed_of party posted wire lost d))
        (λ y i. i) (λ y i _ _. inl i)

    -- a faulty party has taken a message out
    pub swallow_delivered : (w : List Msg) (m : Msg) → hon m.to ≡ false → ((y : Msg) → In y wire → (y ≡ m) ⊎ In y w) → ((y : Msg) → In y w → In y wire) → Delivery g hon party posted w lost
    swallow_delivered w m f out inside =
        record {
          sent = d.sent;
          entered = d.entered;
          asked = d.asked;
          requests = d.requests;
          fate = λ y i hf ht lo hi. elim (d.fate y i hf ht lo hi) [
            | inl x ↦ elim (out y x) [ inl e ↦ absurd (both_ways _ f (subst (λ (n : Msg). hon n.to ≡ true) e ht)) | inr z ↦ inl z ]
            | inr x ↦ inr x
          ];
          known = λ y i. d.known y (inside y i);
        }

    pub lose_delivered : (w : List Msg) (m : Msg) → ((y : Msg) → In y wire → (y ≡ m) ⊎ In y w) → ((y : Msg) → In y w → In y wire) → Delivery g hon party posted w (lost ++ (m ∷ []))
    lose_delivered w m out inside =
        record {
          sent = d.sent;
          entered = d.entered;
          asked = d.asked;
          requests = d.requests;
          fate = λ y i hf ht lo hi. elim (d.fate y i hf ht lo hi) [
            | inl x ↦ elim (out y x) [
              | inl e ↦ inr (inl (in_right y lost (m ∷ []) (subst (λ n. In y (n ∷ [])) e (in_one y))))
              | inr z ↦ inl z
            ]
            | inr (inl x) ↦ inr (inl (in_left y lost (m ∷ []) x))
            | inr (inr x) ↦ inr (inr x)
          ];
          known = λ y i. d.known y (inside y i);
        }

    -- a liar has posted a message
    pub send_delivered : (m : Msg) → hon m.from ≡ false → Delivery g hon party (posted ++ (m ∷ [])) (wire ++ (m ∷ [])) lost
    send_delivered m f =
        record {
          sent = λ j i hj lo hi. sent_more g posted (m ∷ []) j i (party j) (d.sent j i hj lo hi);
          entered = λ y i hf. elim (old y i hf) [ inl o ↦ d.entered y o hf | inr z ↦ absurd z ];
          asked = λ y i hf. elim (old y i hf) [ inl o ↦ d.asked y o hf | inr z ↦ absurd z ];
          requests = d.requests;
          fate = λ y i hf ht lo hi. elim (old y i hf) [
            | inr z ↦ absurd z
            | inl o ↦ elim (d.fate y o hf ht lo hi) [ inl x ↦ inl (in_left y wire (m ∷ []) x) | inr x ↦ inr x ]
          ];
          known = λ y i. elim (in_append y wire (m ∷ []) i) [ inl o ↦ in_left y posted (m ∷ []) (d.known y o) | inr n ↦ in_right y posted (m ∷ []) n ];
        }
      where
        old : (y : Msg) → In y (posted ++ (m ∷ [])) → hon y.from ≡ true → In y posted ⊎ ⊥
        old y i hf = elim (in_append y posted (m ∷ []) i) [ inl o ↦ inl o | inr n ↦ inr (both_ways _ f (subst (λ (n : Msg). hon n.from ≡ true) (in_only y m n) hf)) ]
