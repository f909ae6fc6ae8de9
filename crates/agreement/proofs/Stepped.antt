-- One part of a step of an honest party keeps why everything was said.
use Rattle.std.proofs.Common.{◌≡◌, ℕ, suc, ◌<◌, ◌≤◌, true, false, ◌⊎◌, List, Some, None, Option, sym, refl, ap, ◌∙◌, subst, subst₂, inl, inr, arith}
use Rattle.std.proofs.lemmas.Bool.{cases_lt, cases_Bool, leb-true, ltb-true}
use Rattle.values.specs.Same.{equal}
use Rattle.values.proofs.Same.{same_from_equal, differ_from_equal}
use Rattle.messages.specs.Messages.{Msg}
use Rattle.rules.specs.Counting.{upd}
use Rattle.rules.specs.Party.{Keyed, Proof, Party}
use Rattle.rules.specs.Thresholds.{primary}
use Rattle.rules.specs.Tests.{below, up_to, opens_lock, lock_opened, voted}
use Rattle.agreement.proofs.History.{Log, note}
use Rattle.agreement.proofs.Effects.{Effect}
use Rattle.agreement.proofs.World.{World, Cert, none_some, cert_grows, voucher-has}
use Rattle.agreement.proofs.Notes.{LogOk, Grows, same_log, log_grows, vote_new}
use Rattle.agreement.proofs.Echoes.{Opening, Fresh, opens_parts, echo_new, direct_new, log_ok}
use Rattle.agreement.proofs.Locks.{Other, Asked, Core, said-key1}
use Rattle.agreement.proofs.Keys.{Told}
use Rattle.agreement.proofs.Fair.{MsgFair}
use Rattle.agreement.proofs.Invariant.{asked_of, echo_asked, Inv, upd_ind, other_grows, asked_grows, by_vote, by_echo, proof_back}

-- key ≤ previous, where there is one
up_to_some : (k at : ℕ) (o : Option ℕ) → up_to k o ≡ true → below o at ≡ true → (p : ℕ) × (o ≡ Some p) × (k ≤ p) × (p < at)
up_to_some k at None e b = absurd (let z : ◌≡◌ {A = ℕ} 0 1 = grind arith in omega arith)
up_to_some k at (Some p) e b = (p, refl, leb-true _ _ e, ltb-true _ _ b)

module _ (w : World) (me : ℕ) (m : Msg) (parties : ℕ → Party) (said : ℕ → Log) (inv : Inv w parties said) (hme : w.honest me ≡ true)
    (fair : w.honest m.from ≡ true → MsgFair (said m.from) (parties m.from).rec.done m)
    (q : Party) (e : Effect w.g me (parties me) m q) where
  abbrev pub log' : Log
  log' = note (said me) q.rec

  abbrev pub said' : ℕ → Log
  said' = upd said me log'

  abbrev pub parties' : ℕ → Party
  parties' = upd parties me q

  ok_me : LogOk (said me) (parties me).rec
  ok_me = inv.ok me hme

  pub grow_me : Grows (said me) log'
  grow_me = log_grows w.g me (said me) (parties me) m q ok_me e

  pub grow : (j : ℕ) → Grows (said j) (said' j)
  grow = upd_ind (λ j b. Grows (said j) b) said me log' grow_me (λ j. same_log (said j))

  -- ## Stages
  new_stage : (k v : ℕ) (x : List ℕ) → 5 ≤ k → k ≤ 8 → log'.said (suc k) v ≡ Some x → ((said me).said (suc k) v ≡ Some x) ⊎ ((v ≡ q.rec.view) × (voted w.g q k x ≡ true))
  new_stage k v x lo hi h =
      elim (vote_new w.g me (said me) (parties me) m q ok_me e (suc k) v x (omega arith) (omega arith) h) [
        | inl o ↦ inl o
        | inr o ↦ inr (o.0, subst₂ (λ n y. voted w.g q n y ≡ true) (let z = o.1 in let r : m.kind ≡ k = omega arith in r) (sym o.2) o.3)
      ]

  stage_kept : (i k v : ℕ) (x : List ℕ) → w.honest i ≡ true → 5 ≤ k → k ≤ 8 → (said' i).said (suc k) v ≡ Some x → Cert w (λ j. (said' j).said k v) x
  stage_kept =
      upd_ind (λ i log. (k v : ℕ) (x : List ℕ) → w.honest i ≡ true → 5 ≤ k → k ≤ 8 → log.said (suc k) v ≡ Some x → Cert w (λ j. (said' j).said k v) x) said me log'
      (λ k v x hi lo up h. elim (new_stage k v x lo up h) [
        | inl o ↦ kept me k v x hi lo up o
        | inr o ↦ cert_grows w _ _ x (λ j _. (grow j).said k v)
            (subst (λ u. Cert w (λ j. (said j).said k u) x) (sym o.0) (by_vote w me m parties said inv hme fair q e k x lo (omega arith) o.1))
      ])
      kept
    where
      kept : (i k v : ℕ) (x : List ℕ) → w.honest i ≡ true → 5 ≤ k → k ≤ 8 → (said i).said (suc k) v ≡ Some x → Cert w (λ j. (said' j).said k v) x
      kept i k v x hi lo up h = cert_grows w _ _ x (λ j _. (grow j).said k v) (inv.core.stage i k v x hi lo up h)

  first_kept : (i v : ℕ) (x : List ℕ) → w.honest i ≡ true → (said' i).said 6 v ≡ Some x → Cert w (λ j. (said' j).direct v) x
  first_kept =
      upd_ind (λ i log. (v : ℕ) (x : List ℕ) → w.honest i ≡ true → log.said 6 v ≡ Some x → Cert w (λ j. (said' j).direct v) x) said me log'
      (λ v x hi h. elim (new_stage 5 v x (omega arith) (omega arith) h) [
        | inl o ↦ kept me v x hi o
        | inr o ↦ cert_grows w _ _ x (λ j _. (grow j).direct v)
            (subst (λ u. Cert w (λ j. (said j).direct u) x) (sym o.0) (by_echo w me m parties said inv hme fair q e x o.1))
      ])
      kept
    where
      kept : (i v : ℕ) (x : List ℕ) → w.honest i ≡ true → (said i).said 6 v ≡ Some x → Cert w (λ j. (said' j).direct v) x
      kept i v x hi h = cert_grows w _ _ x (λ j _. (grow j).direct v) (inv.core.first i v x hi h)

  -- ## An echo past a lock
  -- a lock that was passed over for another value shows that value in between
  passed : (v u : ℕ) (y : List ℕ) → ((parties me).rec.field 9).at < v → u < ((parties me).rec.field 9).at →
      (said me).said 9 ((parties me).rec.field 9).at ≡ Some ((parties me).rec.field 9).value → (((parties me).rec.field 9).value ≡ y → ⊥) → Other w said u v y
  passed v u y lt le h ne =
      let c = said-key1 w said inv.core me 9 _ _ (omega arith) (omega arith) hme h in
      record { view = ((parties me).rec.field 9).at; party = c.0; value = ((parties me).rec.field 9).value; from = omega arith; before = lt; honest = c.1; differs = ne; has = c.2 }

  -- a proof that opens the lock shows another value in between
  opened : 0 < (q.rec.field 9).at → lock_opened w.g q ≡ true → Other w said (q.rec.field 9).at q.rec.view (q.rec.field 9).value
  opened pos o =
      let h = voucher-has w (λ j. opens_lock q.rec.view (q.rec.field 9) (q.rows j).proof) o in
      let p = opens_parts q.rec.view (q.rec.field 9) (q.rows h.0).proof h.2 in
      go h.0 h.1 p.0 (inv.proved h.0 q.rec.view p.0 h.1 (proof_back w me m parties said inv hme fair q e h.0 p.0 h.1 p.1)).told p.2 p.3 p.4
    where
      lock : Keyed
      lock = q.rec.field 9

      Shown : Type 0
      Shown = Other w said lock.at q.rec.view lock.value

      -- the key itself
      top : (j : ℕ) → w.honest j ≡ true → (pf : Proof) → Told ((said j).said 6) pf.key1 pf.previous → pf.key1.at < q.rec.view → lock.at ≤ pf.key1.at →
          equal pf.key1.value lock.value ≡ false → Shown
      top j hj pf t lt le ne =
          record {
            view = pf.key1.at;
            party = j;
            value = pf.key1.value;
            from = le;
            before = lt;
            honest = hj;
            differs = differ_from_equal _ _ ne;
            has = t.has (omega arith);
          }

      -- the previous one, or the key
      prev : (j : ℕ) → w.honest j ≡ true → (pf : Proof) → Told ((said j).said 6) pf.key1 pf.previous → pf.key1.at < q.rec.view → lock.at < pf.key1.at →
          (p : ℕ) → pf.previous ≡ Some p → p < pf.key1.at → lock.at ≤ p → (equal pf.key1.value lock.value ≡ true) ⊎ (equal pf.key1.value lock.value ≡ false) → Shown
      prev j hj pf t lt more p e pl le (inr ne) = top j hj pf t lt (omega arith) ne
      prev j hj pf t lt more p e pl le (inl eq) =
          let o = t.other p e (omega arith) in
          let z = same_from_equal _ _ eq in
          record {
            view = p;
            party = j;
            value = o.0;
            from = le;
            before = omega arith;
            honest = hj;
            differs = λ x. o.2 (x ∙ sym z);
            has = o.1;
          }

      go : (j : ℕ) → w.honest j ≡ true → (pf : Proof) → Told ((said j).said 6) pf.key1 pf.previous → below pf.previous pf.key1.at ≡ true → pf.key1.at < q.rec.view →
          ((up_to lock.at pf.previous ≡ true) ⊎ ((lock.at ≤ pf.key1.at) × (equal pf.key1.value lock.value ≡ false))) → Shown
      go j hj pf t b lt (inr c) = top j hj pf t lt c.0 c.1
      go j hj pf t b lt (inl c) =
          let s = up_to_some lock.at pf.key1.at pf.previous c b in
          prev j hj pf t lt (let y = s.2 in let z = s.3 in omega arith) s.0 s.1 s.3 s.2 (cases_Bool _)

  -- an echo made now, before a lock of its view
  echo_me : (v u : ℕ) (x y : List ℕ) → v ≡ (parties me).rec.view → Fresh w (parties me) q x → ((parties me).rec.field 9).at < v → (said me).said 9 u ≡ Some y →
      (y ≡ x) ⊎ Other w said u v y
  echo_me v u x y vv f lt h =
      let le : u ≤ at = (elim (cases_lt at u) [ inl c ↦ none_some _ y (ok_me.bound 9 u (omega arith) (omega arith) c) h | inr c ↦ c ]) in
      let pos : 0 < u = (elim (cases_lt 0 u) [ inl c ↦ c | inr c ↦ none_some _ y (ok_me.zero 9) (subst (λ n. (said me).said 9 n ≡ Some y) (let r : u ≡ 0 = omega arith in r) h) ]) in
      go le pos (ok_me.top 9 (omega arith) (omega arith) (omega arith)) f.opening (cases_Bool (equal val y))
    where
      at : ℕ
      at = ((parties me).rec.field 9).at

      val : List ℕ
      val = ((parties me).rec.field 9).value

      go : u ≤ at → 0 < u → (said me).said 9 at ≡ Some val → Opening w ((parties me).rec.field 9) x q →
          (equal val y ≡ true) ⊎ (equal val y ≡ false) → (y ≡ x) ⊎ Other w said u v y
      go le pos top (inl z) s = absurd (omega arith)
      go le pos top (inr (inl z)) (inl s) = inl (sym (same_from_equal _ _ s) ∙ same_from_equal _ _ z)
      go le pos top (inr (inr z)) (inl s) =
          let b : val ≡ y = same_from_equal _ _ s in
          let c₁ : (q.rec.field 9).at ≡ at = ap (λ n. (n 9).at) f.fields in
          let c₂ : (q.rec.field 9).value ≡ val = ap (λ n. (n 9).value) f.fields in
          let c₃ : q.rec.view ≡ v = f.view ∙ sym vv in
          let o = opened (omega arith) z in
          inr (record {
            view = o.view;
            party = o.party;
            value = o.value;
            from = let r = o.from in omega arith;
            before = let r = o.before in omega arith;
            honest = o.honest;
            differs = λ r. o.differs (r ∙ sym b ∙ sym c₂);
            has = o.has;
          })
      go le pos top (inr z) (inr s) =
          elim (cases_lt u at) [
            | inl c ↦ inr (passed v u y lt c top (differ_from_equal _ _ s))
            | inr c ↦
                let r : u ≡ at = omega arith in
                let t : (said me).said 9 at ≡ Some y = subst (λ n. (said me).said 9 n ≡ Some y) r h in
                absurd (differ_from_equal val y s (let z : val ≡ y = cc in z))
          ]

  passes_kept : (i v u : ℕ) (x y : List ℕ) → w.honest i ≡ true → (said' i).direct v ≡ Some x → u < v → (said' i).said 9 u ≡ Some y → (y ≡ x) ⊎ Other w said' u v y
  passes_kept =
      upd_ind (λ i log. (v u : ℕ) (x y : List ℕ) → w.honest i ≡ true → log.direct v ≡ Some x → u < v → log.said 9 u ≡ Some y → (y ≡ x) ⊎ Other w said' u v y) said me log'
      (λ v u x y hi h lt l. grown v u x y (here v u x y h lt (new_stage 8 u y (omega arith) (omega arith) l)))
      (λ i v u x y hi h lt l. grown v u x y (inv.core.passes i v u x y hi h lt l))
    where
      grown : (v u : ℕ) (x y : List ℕ) → (y ≡ x) ⊎ Other w said u v y → (y ≡ x) ⊎ Other w said' u v y
      grown v u x y (inl z) = inl z
      grown v u x y (inr z) = inr (other_grows w said said' grow u v y z)

      under : (v : ℕ) (x : List ℕ) → log'.direct v ≡ Some x → v ≤ q.rec.view
      under v x h =
          elim (cases_lt q.rec.view v) [
            | inl c ↦ none_some _ x ((log_ok w me (said me) (parties me) m q ok_me e).direct_later v c) h
            | inr c ↦ c
          ]

      here : (v u : ℕ) (x y : List ℕ) → log'.direct v ≡ Some x → u < v →
          ((said me).said 9 u ≡ Some y) ⊎ ((u ≡ q.rec.view) × (voted w.g q 8 y ≡ true)) → (y ≡ x) ⊎ Other w said u v y
      here v u x y h lt (inr z) = absurd (let b = under v x h in let c = z.0 in omega arith)
      here v u x y h lt (inl l) =
          elim (direct_new w me (said me) (parties me) m q ok_me e v x h) [
            | inl o ↦ inv.core.passes me v u x y hme o lt l
            | inr o ↦ echo_me v u x y o.0 o.2 o.1 l
          ]

  -- ## Proposals
  -- what waits or was echoed after the part was proposed
  pub asked_now : (x : List ℕ) → asked_of q.rec.proposal ≡ Some x → Asked w said q.rec.view x
  asked_now x h =
      elim e.proposal [
        | inl a ↦ subst (λ v. Asked w said v x) (sym a.0) (inv.asked me x hme (ap asked_of (sym a.1) ∙ h))
        | inr (inl a) ↦ none_some _ x (ap asked_of a.1) h
        | inr (inr (inl a)) ↦ elim a.6 [
          | inl d ↦ none_some _ x (ap asked_of d) h
          | inr b ↦
              let y : m.value ≡ x = (elim b.1 [ inl c ↦ one (ap asked_of c.0) | inr c ↦ one (ap asked_of c.0) ]) in
              taken y b.0 a.0 a.2 a.3 a.4
        ]
        | inr (inr (inr a)) ↦
            let y : a.0 ≡ x = one₂ a.0 (ap asked_of a.3) in
            subst (λ v. Asked w said v x) (sym a.1) (inv.asked me x hme (ap asked_of a.2 ∙ ap Some y))
      ]
    where
      one₂ : (z : List ℕ) → asked_of q.rec.proposal ≡ Some z → z ≡ x
      one₂ z r = cc

      one : asked_of q.rec.proposal ≡ Some m.value → m.value ≡ x
      one r = cc

      taken : m.value ≡ x → w.g.allows m.value ≡ true → q.rec.view ≡ (parties me).rec.view → m.kind ≡ 4 → m.view ≡ (parties me).rec.view →
          m.from ≡ primary w.g (parties me).rec.view → Asked w said q.rec.view x
      taken y al v k u p =
          let u₁ : m.view ≡ q.rec.view = u ∙ sym v in
          let p₁ : m.from ≡ primary w.g q.rec.view = p ∙ ap (primary w.g) (sym v) in
          record {
            allowed = ap w.g.allows (sym y) ∙ al;
            offered = λ hp. (
              m.key,
              subst (λ j. (said j).offered q.rec.view ≡ Some (record { at = m.key; value = x })) p₁
                  (subst₂ (λ n z. (said m.from).offered n ≡ Some (record { at = m.key; value = z })) u₁ y
                  ((fair (subst (λ j. w.honest j ≡ true) (sym p₁) hp)).propose k)),
            );
          }

  echo-kept : (i v : ℕ) (x : List ℕ) → w.honest i ≡ true → (said' i).said 5 v ≡ Some x → Asked w said' v x
  echo-kept i v x hi h =
      asked_grows w said said' grow v x
      (upd_ind (λ i log. w.honest i ≡ true → log.said 5 v ≡ Some x → Asked w said v x) said me log'
      (λ hi h. elim (echo_new w me (said me) (parties me) m q ok_me e v x h) [
        | inl o ↦ inv.core.echo me v x hme o
        | inr o ↦ subst (λ u. Asked w said u x) (o.1.view ∙ sym o.0) (asked_now x (echo_asked _ x o.1.after))
      ])
      (λ i hi h. inv.core.echo i v x hi h) i hi h)

  pub core_kept : Core w said'
  core_kept = record { stage = stage_kept; first = first_kept; passes = passes_kept; echo = echo-kept }
