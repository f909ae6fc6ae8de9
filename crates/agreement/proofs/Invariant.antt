-- What holds of the honest parties of a ring and of their logs between any two parts of steps.
use Rattle.std.proofs.Common.{◌≡◌, ℕ, ◌<◌, ◌≤◌, Bool, true, false, cond, ◌&&◌, eqb, ◌⊎◌, List, Some, None, Option, sym, refl, ◌∙◌, subst, inl, inr, arith}
use Rattle.std.proofs.lemmas.Bool.{cond_both, and_parts, and_from, eqb-true}
use Rattle.messages.specs.Messages.{Msg}
use Rattle.rules.specs.Counting.{upd}
use Rattle.rules.specs.Party.{Suggest, Proof, Proposal, nothing, waiting, echoed, dropped, Party, none}
use Rattle.rules.specs.Thresholds.{quorum}
use Rattle.rules.specs.Tests.{is, voted}
use Rattle.agreement.proofs.History.{Log, echo_of}
use Rattle.agreement.proofs.Effects.{Effect}
use Rattle.agreement.proofs.World.{World, Cert, is_some, some_is, none_some, find, cert_grows, cert_from}
use Rattle.agreement.proofs.Notes.{LogOk, Grows}
use Rattle.agreement.proofs.Locks.{Other, Asked, Core, Locked, said-key1}
use Rattle.agreement.proofs.Keys.{Told, told_grows}
use Rattle.agreement.proofs.Fair.{RowFair, MsgFair, row_step}

-- the contents of a proof and of a suggest of view v: fixed from what was said in earlier views
pub record Proved (log : Log) (v : ℕ) (pf : Proof) : Type 0 where
  pub told : Told (log.said 6) pf.key1 pf.previous
  pub earlier : pf.key1.at < v

pub record Suggested (w : World) (log : Log) (v : ℕ) (s : Suggest) : Type 0 where
  pub told : Told (log.said 7) s.key2 s.previous
  pub earlier2 : s.key2.at < v
  pub has3 : 0 < s.key3.at → log.said 8 s.key3.at ≡ Some s.key3.value
  pub earlier3 : s.key3.at < v
  pub allowed : w.g.allows s.key3.value ≡ true

-- the value of a proposal that waits or was echoed
abbrev pub asked_of : Proposal → Option (List ℕ)
asked_of nothing = None
asked_of (waiting x) = Some x
asked_of (echoed x) = Some x
asked_of dropped = None

pub echo_asked : (a : Proposal) (x : List ℕ) → echo_of a ≡ Some x → asked_of a ≡ Some x
echo_asked nothing x e = e
echo_asked (waiting y) x e = none_some None x refl e
echo_asked (echoed y) x e = e
echo_asked dropped x e = e

pub record Inv (w : World) (parties : ℕ → Party) (said : ℕ → Log) : Type 0 where
  pub ok : (i : ℕ) → w.honest i ≡ true → LogOk (said i) (parties i).rec
  -- key1 and key2 with the previous one
  pub told : (i k : ℕ) → w.honest i ≡ true → 6 ≤ k → k ≤ 7 → Told ((said i).said k) ((parties i).rec.field k) ((parties i).rec.previous k)
  pub proved : (i v : ℕ) (pf : Proof) → w.honest i ≡ true → (said i).proved v ≡ Some pf → Proved (said i) v pf
  pub suggested : (i v : ℕ) (s : Suggest) → w.honest i ≡ true → (said i).suggested v ≡ Some s → Suggested w (said i) v s
  pub rows : (i j : ℕ) → w.honest i ≡ true → w.honest j ≡ true → RowFair (said j) (parties j).rec.done (parties i).rec.view ((parties i).rows j)
  pub core : Core w said
  pub asked : (i : ℕ) (x : List ℕ) → w.honest i ≡ true → asked_of (parties i).rec.proposal ≡ Some x → Asked w said (parties i).rec.view x
  pub allowed : (i k : ℕ) → w.honest i ≡ true → 6 ≤ k → k ≤ 9 → w.g.allows ((parties i).rec.field k).value ≡ true
  -- a done rests on a quorum of locks, a decision on a quorum of dones
  pub done_why : (i : ℕ) (x : List ℕ) → w.honest i ≡ true → (parties i).rec.done ≡ Some x → Locked w said x
  pub decided_why : (i : ℕ) (x : List ℕ) → w.honest i ≡ true → (parties i).rec.decision ≡ Some x →
      Cert w (λ j. (parties j).rec.done) x × (none (parties i).rec.done ≡ false)

-- ## One party changed
pub upd_ind : {X : Type 0} (P : ℕ → X → Type 0) (s : ℕ → X) (me : ℕ) (x : X) → P me x → ((i : ℕ) → P i (s i)) → (i : ℕ) → P i (upd s me x i)
upd_ind P s me x h k i = cond_both (eqb i me) x (s i) (P i) (λ e. let q : me ≡ i = sym (eqb-true i me e) in subst (λ n. P n x) q h) (λ e. k i)

pub upd_ind₂ : {X Y : Type 0} (P : ℕ → X → Y → Type 0) (s : ℕ → X) (t : ℕ → Y) (me : ℕ) (x : X) (y : Y) → P me x y → ((i : ℕ) → P i (s i) (t i)) →
    (i : ℕ) → P i (upd s me x i) (upd t me y i)
upd_ind₂ P s t me x y h k i = go (eqb i me) refl
  where
    go : (b : Bool) → eqb i me ≡ b → P i (cond b x (s i)) (cond b y (t i))
    go true e = let q : me ≡ i = sym (eqb-true i me e) in subst (λ n. P n x y) q h
    go false e = k i

-- ## Growth
module _ (w : World) (a b : ℕ → Log) (s : (j : ℕ) → Grows (a j) (b j)) where
  pub other_grows : (u v : ℕ) (y : List ℕ) → Other w a u v y → Other w b u v y
  other_grows u v y o =
      record {
        view = o.view;
        party = o.party;
        value = o.value;
        from = o.from;
        before = o.before;
        honest = o.honest;
        differs = o.differs;
        has = elim ((s o.party).said 6 o.view) [ inl z ↦ none_some _ o.value z o.has | inr z ↦ z ∙ o.has ];
      }

  pub asked_grows : (v : ℕ) (x : List ℕ) → Asked w a v x → Asked w b v x
  asked_grows v x h =
      record {
        allowed = h.allowed;
        offered = λ p. let o = h.offered p in (o.0, elim ((s _).offered v) [ inl z ↦ none_some _ _ z o.1 | inr z ↦ z ∙ o.1 ]);
      }

  pub locked_grows : (x : List ℕ) → Locked w a x → Locked w b x
  locked_grows x l = (l.0, cert_grows w _ _ x (λ j _. (s j).said 9 l.0) l.1)

pub proved_grows : (a b : Log) (v : ℕ) (pf : Proof) → Grows a b → Proved a v pf → Proved b v pf
proved_grows a b v pf s h = record { told = told_grows _ _ _ _ (s.said 6) h.told; earlier = h.earlier }

pub suggested_grows : (w : World) (a b : Log) (v : ℕ) (x : Suggest) → Grows a b → Suggested w a v x → Suggested w b v x
suggested_grows w a b v x s h =
    record {
      told = told_grows _ _ _ _ (s.said 7) h.told;
      earlier2 = h.earlier2;
      earlier3 = h.earlier3;
      allowed = h.allowed;
      has3 = λ p. elim (s.said 8 x.key3.at) [ inl z ↦ none_some _ _ z (h.has3 p) | inr z ↦ z ∙ h.has3 p ];
    }

-- ## What the rows of one party show after a part of its step, of what was said before it
module _ (w : World) (me : ℕ) (m : Msg) (parties : ℕ → Party) (said : ℕ → Log) (inv : Inv w parties said) (hme : w.honest me ≡ true)
    (fair : w.honest m.from ≡ true → MsgFair (said m.from) (parties m.from).rec.done m)
    (q : Party) (e : Effect w.g me (parties me) m q) where
  pub rows_now : (j : ℕ) → w.honest j ≡ true → RowFair (said j) (parties j).rec.done q.rec.view (q.rows j)
  rows_now j hj =
      row_step w.g me (parties me) m q e j (said j) (parties j).rec.done (inv.rows me j hme hj)
      (λ z. subst (λ i. MsgFair (said i) (parties i).rec.done m) z (fair (subst (λ i. w.honest i ≡ true) (sym z) hj)))

  shown : {X : Type 0} (o t : Option X) (x : X) → (o ≡ None) ⊎ (o ≡ t) → o ≡ Some x → t ≡ Some x
  shown o t x (inl z) h = none_some o x z h
  shown o t x (inr z) h = sym z ∙ h

  -- a quorum of votes in the rows is a certificate
  pub by_vote : (k : ℕ) (x : List ℕ) → 5 ≤ k → k ≤ 9 → voted w.g q k x ≡ true → Cert w (λ j. (said j).said k q.rec.view) x
  by_vote k x lo hi v = cert_from w (λ j. (q.rows j).vote k) _ x (λ j _ _ hj h. shown _ _ x ((rows_now j hj).vote k lo hi) h) v

  pub by_done : (x : List ℕ) → quorum w.g (λ j. is x (q.rows j).done) ≡ true → Cert w (λ j. (parties j).rec.done) x
  by_done x v = cert_from w (λ j. (q.rows j).done) _ x (λ j _ _ hj h. shown _ _ x (rows_now j hj).told h) v

  pub done_back : (j : ℕ) (x : List ℕ) → w.honest j ≡ true → (q.rows j).done ≡ Some x → (parties j).rec.done ≡ Some x
  done_back j x hj h = shown _ _ x (rows_now j hj).told h

  pub proof_back : (j : ℕ) (pf : Proof) → w.honest j ≡ true → (q.rows j).proof ≡ Some pf → (said j).proved q.rec.view ≡ Some pf
  proof_back j pf hj h = shown _ _ pf (rows_now j hj).proof h

  -- a quorum of echoes has echoes behind it that were made before a lock of the view
  pub by_echo : (x : List ℕ) → voted w.g q 5 x ≡ true → Cert w (λ j. (said j).direct q.rec.view) x
  by_echo x v =
      elim (find (λ j. w.honest j && is x ((said j).said 9 q.rec.view)) w.g.n) [
        | inl h ↦
            let p = and_parts (w.honest h.0) _ h.3 in
            let s = said-key1 w said inv.core h.0 9 q.rec.view x (omega arith) (omega arith) p.0 (is_some x _ p.1) in
            inv.core.first s.0 q.rec.view x s.1 s.2
        | inr h ↦ cert_from w (λ j. (q.rows j).vote 5) _ x
            (λ j lo hi hj r. direct j hj (shown _ _ x ((rows_now j hj).vote 5 (omega arith) (omega arith)) r) (h j lo hi) ((inv.ok j hj).echoes q.rec.view)) v
      ]
    where
      direct : (j : ℕ) → w.honest j ≡ true → (said j).said 5 q.rec.view ≡ Some x → w.honest j && is x ((said j).said 9 q.rec.view) ≡ false →
          ((said j).said 5 q.rec.view ≡ None) ⊎ (((said j).said 5 q.rec.view ≡ (said j).direct q.rec.view) ⊎ ((said j).said 5 q.rec.view ≡ (said j).said 9 q.rec.view)) →
          (said j).direct q.rec.view ≡ Some x
      direct j hj h n (inl z) = none_some _ x z h
      direct j hj h n (inr (inl z)) = sym z ∙ h
      direct j hj h n (inr (inr z)) =
          let t : is x ((said j).said 9 q.rec.view) ≡ true = some_is x _ (sym z ∙ h) in
          absurd (let b = and_from _ _ hj t in let y : ◌≡◌ {A = ℕ} 0 1 = cc in omega arith)
