-- One part of a step of an honest party keeps the invariant.
use Rattle.std.proofs.Common.{◌≡◌, ℕ, ◌≤◌, Bool, true, false, cond, not, ◌&&◌, eqb, leb, ◌⊎◌, List, Some, None, Option, sym, refl, ap, ◌∙◌, subst, subst₂, inl, inr, arith}
use Rattle.std.proofs.lemmas.Bool.{le-leb}
use Rattle.std.proofs.lemmas.Bool.Decides.{nat_tests}
use Rattle.values.specs.Same.{equal}
use Rattle.messages.specs.Messages.{Msg}
use Rattle.rules.specs.Party.{Suggest, Proof, Party, none}
use Rattle.rules.specs.Tests.{is}
use Rattle.rules.specs.Step.{keeps_previous}
use Rattle.agreement.proofs.History.{Log}
use Rattle.agreement.proofs.Effects.{Effect}
use Rattle.agreement.proofs.World.{World, Cert, is_some, cert_has, cert_grows, voucher-has, quorum-voucher}
use Rattle.agreement.proofs.Notes.{LogOk, Grows}
use Rattle.agreement.proofs.Echoes.{log_ok}
use Rattle.agreement.proofs.Locks.{Asked, Locked, said_allowed}
use Rattle.agreement.proofs.Keys.{Told, told_grows, told_moved}
use Rattle.agreement.proofs.Fair.{RowFair, MsgFair, row_grows}
use Rattle.agreement.proofs.Invariant.{Proved, Suggested, asked_of, Inv, upd_ind, upd_ind₂, asked_grows, locked_grows, proved_grows, suggested_grows, rows_now, by_vote, by_done, done_back}
use Rattle.agreement.proofs.Stepped.{log', said', parties', grow_me, grow, asked_now, core_kept}

-- an entry of the log for the record's view, or an older one
noted : {X : Type 0} (a : ℕ → Option X) (view v : ℕ) (o : Option X) (x : X) → cond (eqb v view) o (a v) ≡ Some x → (a v ≡ Some x) ⊎ ((v ≡ view) × (o ≡ Some x))
noted a view v o x h = grind (arith, nat_tests)

some_not_none : {X : Type 0} (o : Option X) (x : X) → o ≡ Some x → none o ≡ false
some_not_none o x e = rw e refl

none_stays : {X : Type 0} (o t : Option X) → (o ≡ None) ⊎ (t ≡ o) → none o ≡ false → none t ≡ false
none_stays o t s h = grind arith

module _ (w : World) (me : ℕ) (m : Msg) (parties : ℕ → Party) (said : ℕ → Log) (inv : Inv w parties said) (hme : w.honest me ≡ true)
    (fair : w.honest m.from ≡ true → MsgFair (said m.from) (parties m.from).rec.done m)
    (q : Party) (e : Effect w.g me (parties me) m q) where
  abbrev L : Log
  L = log' w me m parties said inv hme fair q e

  abbrev S : ℕ → Log
  S = said' w me m parties said inv hme fair q e

  abbrev T : ℕ → Party
  T = parties' w me m parties said inv hme fair q e

  abbrev p : Party
  p = parties me

  growth : (j : ℕ) → Grows (said j) (S j)
  growth = grow w me m parties said inv hme fair q e

  growth_me : Grows (said me) L
  growth_me = grow_me w me m parties said inv hme fair q e

  ok_now : LogOk L q.rec
  ok_now = log_ok w me (said me) p m q (inv.ok me hme) e

  -- ## Keys, proofs and suggests
  told_now : (k : ℕ) → 6 ≤ k → k ≤ 7 → Told (L.said k) (q.rec.field k) (q.rec.previous k)
  told_now k lo hi =
      elim (e.field k) [
        | inl a ↦ subst₂ (Told (L.said k)) (sym a.0) (sym a.1) (told_grows _ _ _ _ (growth_me.said k) (inv.told me k hme lo hi))
        | inr a ↦
            let b = (inv.ok me hme).begun in
            let at : (q.rec.field k).at ≡ p.rec.view = ap (λ z. z.at) a.5 in
            let h : L.said k p.rec.view ≡ Some m.value =
            subst₂ (λ n x. L.said k n ≡ Some x) at (ap (λ z. z.value) a.5) (ok_now.top k lo (omega arith) (omega arith)) in
            subst₂ (Told (L.said k)) (sym a.5) (previous k hi (equal (p.rec.field k).value m.value) ∙ sym a.6)
            (told_moved ((said me).said k) (L.said k) _ _ p.rec.view m.value (growth_me.said k) a.3 h (inv.told me k hme lo hi))
      ]
    where
      previous : (k : ℕ) → k ≤ 7 → (b : Bool) →
          cond (not b) (Some (p.rec.field k).at) (p.rec.previous k) ≡ cond (keeps_previous w.g me k && not b) (Some (p.rec.field k).at) (p.rec.previous k)
      previous k hi b = let z : leb k 7 ≡ true = le-leb _ _ hi in rw z refl

  proved_now : (v : ℕ) (pf : Proof) → L.proved v ≡ Some pf → Proved L v pf
  proved_now v pf h =
      elim (noted (said me).proved q.rec.view v (Some q.rec.proof) pf h) [
        | inl o ↦ proved_grows _ _ _ _ growth_me (inv.proved me v pf hme o)
        | inr o ↦ subst₂ (Proved L) (sym o.0) (let z = o.1 in let y : q.rec.proof ≡ pf = cc in y) here
      ]
    where
      here : Proved L q.rec.view q.rec.proof
      here =
          elim e.proof [
            | inl a ↦ subst₂ (Proved L) (sym a.0) (sym a.1) (proved_grows _ _ _ _ growth_me (inv.proved me _ _ hme (inv.ok me hme).proved_now))
            | inr a ↦ subst (Proved L q.rec.view) (sym a.1)
                (record {
                  told = told_grows _ _ _ _ (growth_me.said 6) (inv.told me 6 hme (omega arith) (omega arith));
                  earlier = let s = (inv.ok me hme).seen 6 (omega arith) (omega arith) in let z = a.0 in omega arith;
                })
          ]

  suggested_now : (v : ℕ) (s : Suggest) → L.suggested v ≡ Some s → Suggested w L v s
  suggested_now v s h =
      elim (noted (said me).suggested q.rec.view v (Some q.rec.suggest) s h) [
        | inl o ↦ suggested_grows w _ _ _ _ growth_me (inv.suggested me v s hme o)
        | inr o ↦ subst₂ (Suggested w L) (sym o.0) (let z = o.1 in let y : q.rec.suggest ≡ s = cc in y) here
      ]
    where
      here : Suggested w L q.rec.view q.rec.suggest
      here =
          elim e.suggest [
            | inl a ↦ subst₂ (Suggested w L) (sym a.0) (sym a.1) (suggested_grows w _ _ _ _ growth_me (inv.suggested me _ _ hme (inv.ok me hme).suggested_now))
            | inr a ↦ subst (Suggested w L q.rec.view) (sym a.1)
                (suggested_grows w _ _ _ _ growth_me
                (record {
                  told = inv.told me 7 hme (omega arith) (omega arith);
                  earlier2 = let s = (inv.ok me hme).seen 7 (omega arith) (omega arith) in let z = a.0 in omega arith;
                  has3 = λ pos. (inv.ok me hme).top 8 (omega arith) (omega arith) pos;
                  earlier3 = let s = (inv.ok me hme).seen 8 (omega arith) (omega arith) in let z = a.0 in omega arith;
                  allowed = inv.allowed me 8 hme (omega arith) (omega arith);
                }))
          ]

  allowed_now : (k : ℕ) → 6 ≤ k → k ≤ 9 → w.g.allows (q.rec.field k).value ≡ true
  allowed_now k lo hi =
      elim (e.field k) [
        | inl a ↦ ap (λ z. w.g.allows z.value) a.0 ∙ inv.allowed me k hme lo hi
        | inr a ↦
            let c = cert_has w _ m.value (by_vote w me m parties said inv hme fair q e m.kind m.value a.1 (let z = a.2 in omega arith) a.7) in
            ap (λ z. w.g.allows z.value) a.5 ∙ said_allowed w said inv.core c.0 m.kind _ m.value a.1 (let z = a.2 in omega arith) c.1 c.2
      ]

  -- ## Done and decision
  done_grows_me : (p.rec.done ≡ None) ⊎ (q.rec.done ≡ p.rec.done)
  done_grows_me = elim e.done [ inl a ↦ inr a | inr a ↦ inl a.0 ]

  pub grow_done : (j : ℕ) → ((parties j).rec.done ≡ None) ⊎ ((T j).rec.done ≡ (parties j).rec.done)
  grow_done = upd_ind (λ j b. ((parties j).rec.done ≡ None) ⊎ (b.rec.done ≡ (parties j).rec.done)) parties me q done_grows_me (λ j. inr refl)

  done_now : (x : List ℕ) → q.rec.done ≡ Some x → Locked w said x
  done_now x h =
      elim e.done [
        | inl a ↦ inv.done_why me x hme (sym a ∙ h)
        | inr a ↦
            let z = a.1 in
            let c : m.value ≡ x = cc in
            subst (Locked w said) c (elim a.2 [
              | inl b ↦ (q.rec.view, by_vote w me m parties said inv hme fair q e 9 m.value (omega arith) (omega arith) b)
              | inr b ↦
                  let s = voucher-has w (λ j. is m.value (q.rows j).done) b in
                  inv.done_why s.0 m.value s.1 (done_back w me m parties said inv hme fair q e s.0 m.value s.1 (is_some m.value _ s.2))
            ])
      ]

  decided_now : (x : List ℕ) → q.rec.decision ≡ Some x → Cert w (λ j. (parties j).rec.done) x × (none q.rec.done ≡ false)
  decided_now x h =
      elim e.decision [
        | inl a ↦ let o = inv.decided_why me x hme (sym a ∙ h) in (o.0, none_stays _ _ done_grows_me o.1)
        | inr a ↦
            let z = a.0 in
            let c : m.value ≡ x = cc in (
              subst (Cert w (λ j. (parties j).rec.done)) c (by_done w me m parties said inv hme fair q e m.value a.1),
              elim a.2 [
                | inl b ↦ b
                | inr b ↦ absurd (let v = quorum-voucher w (λ j. is m.value (q.rows j).done) a.1 in let y : ◌≡◌ {A = ℕ} 0 1 = cc in omega arith)
              ],
            )
      ]

  pub inv_kept : Inv w T S
  inv_kept =
      record {
        ok = upd_ind₂ (λ i a b. w.honest i ≡ true → LogOk a b.rec) said parties me L q (λ _. ok_now) inv.ok;
        told = upd_ind₂ (λ i a b. (k : ℕ) → w.honest i ≡ true → 6 ≤ k → k ≤ 7 → Told (a.said k) (b.rec.field k) (b.rec.previous k)) said parties me L q
            (λ k _. told_now k) inv.told;
        proved = upd_ind (λ i a. (v : ℕ) (pf : Proof) → w.honest i ≡ true → a.proved v ≡ Some pf → Proved a v pf) said me L (λ v pf _. proved_now v pf) inv.proved;
        suggested = upd_ind (λ i a. (v : ℕ) (s : Suggest) → w.honest i ≡ true → a.suggested v ≡ Some s → Suggested w a v s) said me L (λ v s _. suggested_now v s) inv.suggested;
        rows = λ i j hi hj. row_grows (said j) (S j) (parties j).rec.done (T j).rec.done (growth j) (grow_done j) (T i).rec.view ((T i).rows j)
            (upd_ind (λ i l. w.honest i ≡ true → RowFair (said j) (parties j).rec.done l.rec.view (l.rows j)) parties me q
            (λ _. rows_now w me m parties said inv hme fair q e j hj) (λ i hi. inv.rows i j hi hj) i hi);
        core = core_kept w me m parties said inv hme fair q e;
        asked = λ i x hi h. asked_grows w said S growth (T i).rec.view x
            (upd_ind (λ i l. w.honest i ≡ true → asked_of l.rec.proposal ≡ Some x → Asked w said l.rec.view x) parties me q
            (λ _. asked_now w me m parties said inv hme fair q e x) (λ i hi. inv.asked i x hi) i hi h);
        allowed = upd_ind (λ i l. (k : ℕ) → w.honest i ≡ true → 6 ≤ k → k ≤ 9 → w.g.allows (l.rec.field k).value ≡ true) parties me q (λ k _. allowed_now k) inv.allowed;
        done_why = λ i x hi h. locked_grows w said S growth x
            (upd_ind (λ i l. w.honest i ≡ true → l.rec.done ≡ Some x → Locked w said x) parties me q (λ _. done_now x) (λ i hi. inv.done_why i x hi) i hi h);
        decided_why = λ i x hi h.
            let o = upd_ind (λ i l. w.honest i ≡ true → l.rec.decision ≡ Some x → Cert w (λ j. (parties j).rec.done) x × (none l.rec.done ≡ false)) parties me q
            (λ _. decided_now x) (λ i hi. inv.decided_why i x hi) i hi h in
            (cert_grows w _ _ x (λ j _. grow_done j) o.0, o.1);
      }
