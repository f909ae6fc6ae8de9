-- One part of a step of an honest party keeps what keys cover, what stands behind offers, and why proposals were dropped.
use Rattle.std.proofs.Common.{◌≡◌, ℕ, ◌<◌, ◌≤◌, Bool, true, false, cond, not, ◌&&◌, ◌||◌, eqb, ltb, ◌⊎◌, List, Some, None, Option, sym, refl, ◌∙◌, subst, subst₂, inl, inr, arith}
use Rattle.std.proofs.lemmas.Bool.{and_parts, or_cases, cases_eq, cases_lt, le-leb, ltb-true, both_ways, eqb-true, ne_eqb, eq-eqb}
use Rattle.std.proofs.lemmas.Bool.Decides.{nat_tests}
use Rattle.values.specs.Same.{equal}
use Rattle.messages.specs.Messages.{Msg}
use Rattle.rules.specs.Counting.{upd}
use Rattle.rules.specs.Party.{Keyed, Suggest, Proof, dropped, Record, Party}
use Rattle.rules.specs.Thresholds.{quorum, primary}
use Rattle.rules.specs.Tests.{up_to, bears_key, accepts, accepted, borne_out, best}
use Rattle.rules.specs.Step.{keeps_previous}
use Rattle.agreement.proofs.History.{Log, said_now, note}
use Rattle.agreement.proofs.Effects.{Effect, Field}
use Rattle.agreement.proofs.World.{World, none_some}
use Rattle.agreement.proofs.Notes.{Grows, same_log, log_grows}
use Rattle.agreement.proofs.Fair.{MsgFair}
use Rattle.agreement.proofs.Invariant.{Inv, upd_ind, upd_ind₂, rows_now}
use Rattle.agreement.proofs.LiveFacts.{suggests_to, Backed, Unfit}
use Rattle.agreement.proofs.Drawn.{Misfits, Drops}
use Rattle.agreement.proofs.Choice.{Covers, CoversAll, covers_moved, key3_of, Chosen, best_chosen}

-- an offer that party i dropped, and why
abbrev pub Dropped : World → (ℕ → Log) → ℕ → ℕ → Type 0
Dropped w said i v = (k : Keyed) × ((said (primary w.g v)).offered v ≡ Some k) × Unfit w.g w.honest said i v k

pub record Choice (w : World) (parties : ℕ → Party) (said : ℕ → Log) : Type 0 where
  pub keys : (i k : ℕ) → w.honest i ≡ true → 6 ≤ k → k ≤ 7 → CoversAll ((said i).said k) ((parties i).rec.field k) ((parties i).rec.previous k)
  pub proof : (i : ℕ) → w.honest i ≡ true → Covers ((said i).said 6) (parties i).rec.view (parties i).rec.proof.key1 (parties i).rec.proof.previous
  pub suggest : (i : ℕ) → w.honest i ≡ true → Covers ((said i).said 7) (parties i).rec.view (parties i).rec.suggest.key2 (parties i).rec.suggest.previous
  pub latest : (i v : ℕ) (x : List ℕ) → w.honest i ≡ true → v < (parties i).rec.view → (said i).said 8 v ≡ Some x → v ≤ (parties i).rec.suggest.key3.at
  pub backed : (i v : ℕ) (k : Keyed) → w.honest i ≡ true → (said i).offered v ≡ Some k → Backed w.g w.honest said v k
  pub drop : (i : ℕ) → w.honest i ≡ true → w.honest (primary w.g (parties i).rec.view) ≡ true → (parties i).rec.proposal ≡ dropped → Dropped w said i (parties i).rec.view

-- a field that is said now is of the view
now_field : (r : Record) (k : ℕ) (x : List ℕ) → 6 ≤ k → k ≤ 9 → said_now r k ≡ Some x → ((r.field k).at ≡ r.view) × ((r.field k).value ≡ x)
now_field r k x lo hi h = grind (arith, nat_tests)

-- ## Growth
module _ (w : World) (a b : ℕ → Log) (s : (j : ℕ) → Grows (a j) (b j)) where
  stays : {X : Type 0} (o t : Option X) (x : X) → (o ≡ None) ⊎ (t ≡ o) → o ≡ Some x → t ≡ Some x
  stays o t x (inl z) h = none_some o x z h
  stays o t x (inr z) h = z ∙ h

  backed_grows : (v : ℕ) (k : Keyed) → Backed w.g w.honest a v k → Backed w.g w.honest b v k
  backed_grows v k h =
      record {
        allowed = h.allowed;
        before = h.before;
        support = w.laws.more_quorum (λ j. not (w.honest j) || suggests_to k.at ((a j).suggested v)) (λ j. not (w.honest j) || suggests_to k.at ((b j).suggested v))
            (λ j _ _ t. told (w.honest j) ((a j).suggested v) ((b j).suggested v) ((s j).suggested v) t) h.support;
        borne = λ pos. let o = h.borne pos in (o.0, o.1, bears ((a o.0).suggested v) ((b o.0).suggested v) ((s o.0).suggested v) o.2);
      }
    where
      told : (t : Bool) (x y : Option Suggest) → (x ≡ None) ⊎ (y ≡ x) → (not t || suggests_to k.at x) ≡ true → (not t || suggests_to k.at y) ≡ true
      told false x y z e = refl
      told true x y (inl z) e = absurd (both_ways _ refl (subst (λ o. suggests_to k.at o ≡ true) z e))
      told true x y (inr z) e = subst (λ o. suggests_to k.at o ≡ true) (sym z) e

      bears : (x y : Option Suggest) → (x ≡ None) ⊎ (y ≡ x) → bears_key v k x ≡ true → bears_key v k y ≡ true
      bears x y (inl z) e = absurd (both_ways _ refl (subst (λ o. bears_key v k o ≡ true) z e))
      bears x y (inr z) e = subst (λ o. bears_key v k o ≡ true) (sym z) e

  dropped_grows : (i v : ℕ) → Dropped w a i v → Dropped w b i v
  dropped_grows i v (k, o, inl z) = (k, stays _ _ k ((s (primary w.g v)).offered v) o, inl z)
  dropped_grows i v (k, o, inr (u, z, h, ne, why)) = (k, stays _ _ k ((s (primary w.g v)).offered v) o, inr (u, z, stays _ _ z ((s i).said 9 u) h, ne, why))

module _ (w : World) (me : ℕ) (m : Msg) (parties : ℕ → Party) (said : ℕ → Log) (inv : Inv w parties said) (hme : w.honest me ≡ true)
    (fair : w.honest m.from ≡ true → MsgFair (said m.from) (parties m.from).rec.done m)
    (q : Party) (e : Effect w.g me (parties me) m q) (d : Drops w.g (parties me) m q) (c : Choice w parties said) where
  abbrev L : Log
  L = note (said me) q.rec

  abbrev S : ℕ → Log
  S = upd said me L

  grow_me : Grows (said me) L
  grow_me = log_grows w.g me (said me) (parties me) m q (inv.ok me hme) e

  grow : (j : ℕ) → Grows (said j) (S j)
  grow = upd_ind (λ j b. Grows (said j) b) said me L grow_me (λ j. same_log (said j))

  -- ## The log at the view, and elsewhere
  at-view : (k v : ℕ) (x : List ℕ) → v ≡ q.rec.view → L.said k v ≡ Some x → said_now q.rec k ≡ Some x
  at-view k v x z h = let t : eqb v q.rec.view ≡ true = eq-eqb _ _ z in rw t at h

  elsewhere : (k v : ℕ) (x : List ℕ) → (v ≡ q.rec.view → ⊥) → L.said k v ≡ Some x → (said me).said k v ≡ Some x
  elsewhere k v x z h = let t : eqb v q.rec.view ≡ false = ne_eqb _ _ z in rw t at h

  -- ## Keys
  keys_field : (k v : ℕ) (x : List ℕ) → 6 ≤ k → k ≤ 7 → Field w.g me (parties me) m q k → (said me).said k v ≡ Some x →
      (up_to v (q.rec.previous k) ≡ true) ⊎ ((v ≤ (q.rec.field k).at) × ((q.rec.field k).value ≡ x))
  keys_field k v x lo hi (inl a) h =
      subst₂ (λ (o : Option ℕ) (f : Keyed). (up_to v o ≡ true) ⊎ ((v ≤ f.at) × (f.value ≡ x))) (sym a.1) (sym a.0) ((c.keys me k hme lo hi).each v x h)
  keys_field k v x lo hi (inr a) h =
      let kp : keeps_previous w.g me k ≡ true = le-leb _ _ hi in
      let pr : q.rec.previous k ≡ cond (not (equal ((parties me).rec.field k).value m.value)) (Some ((parties me).rec.field k).at) ((parties me).rec.previous k) =
      a.6 ∙ both (keeps_previous w.g me k) _ kp in
      subst₂ (λ (o : Option ℕ) (f : Keyed). (up_to v o ≡ true) ⊎ ((v ≤ f.at) × (f.value ≡ x))) (sym pr) (sym a.5)
      (covers_moved ((said me).said k) ((parties me).rec.field k) ((parties me).rec.previous k) (parties me).rec.view m.value
      (inv.told me k hme lo hi).behind a.3 (c.keys me k hme lo hi) v x h)
    where
      both : (b t : Bool) → b ≡ true → cond (b && t) (Some ((parties me).rec.field k).at) ((parties me).rec.previous k) ≡ cond t (Some ((parties me).rec.field k).at) ((parties me).rec.previous k)
      both true t z = refl
      both false t z = absurd (let y : ◌≡◌ {A = ℕ} 0 1 = grind arith in omega arith)

  keys_me : (k : ℕ) → 6 ≤ k → k ≤ 7 → CoversAll (L.said k) (q.rec.field k) (q.rec.previous k)
  keys_me k lo hi =
      record {
        each = λ v x h. elim (cases_eq v q.rec.view) [
          | inl z ↦ let f = now_field q.rec k x lo (omega arith) (at-view k v x z h) in inr ((let y = f.0 in omega arith), f.1)
          | inr z ↦ keys_field k v x lo hi (e.field k) (elsewhere k v x z h)
        ];
      }

  -- ## Contents
  proof_me : Covers (L.said 6) q.rec.view q.rec.proof.key1 q.rec.proof.previous
  proof_me =
      record {
        each = λ v x l h.
            let o = elsewhere 6 v x (λ z. let y : v < v = subst (λ n. v < n) (sym z) l in omega arith) h in
            elim e.proof [
              | inl a ↦ subst (λ (pf : Proof). (up_to v pf.previous ≡ true) ⊎ ((v ≤ pf.key1.at) × (pf.key1.value ≡ x))) (sym a.1)
                  ((c.proof me hme).each v x (let y = a.0 in omega arith) o)
              | inr a ↦ subst (λ (pf : Proof). (up_to v pf.previous ≡ true) ⊎ ((v ≤ pf.key1.at) × (pf.key1.value ≡ x))) (sym a.1)
                  ((c.keys me 6 hme (omega arith) (omega arith)).each v x o)
            ];
      }

  suggest_me : Covers (L.said 7) q.rec.view q.rec.suggest.key2 q.rec.suggest.previous
  suggest_me =
      record {
        each = λ v x l h.
            let o = elsewhere 7 v x (λ z. let y : v < v = subst (λ n. v < n) (sym z) l in omega arith) h in
            elim e.suggest [
              | inl a ↦ subst (λ (s : Suggest). (up_to v s.previous ≡ true) ⊎ ((v ≤ s.key2.at) × (s.key2.value ≡ x))) (sym a.1)
                  ((c.suggest me hme).each v x (let y = a.0 in omega arith) o)
              | inr a ↦ subst (λ (s : Suggest). (up_to v s.previous ≡ true) ⊎ ((v ≤ s.key2.at) × (s.key2.value ≡ x))) (sym a.1)
                  ((c.keys me 7 hme (omega arith) (omega arith)).each v x o)
            ];
      }

  latest_me : (v : ℕ) (x : List ℕ) → v < q.rec.view → L.said 8 v ≡ Some x → v ≤ q.rec.suggest.key3.at
  latest_me v x l h =
      let o = elsewhere 8 v x (λ z. let y : v < v = subst (λ n. v < n) (sym z) l in omega arith) h in
      elim e.suggest [
        | inl a ↦ subst (λ (s : Suggest). v ≤ s.key3.at) (sym a.1) (c.latest me v x hme (let y = a.0 in omega arith) o)
        | inr a ↦ subst (λ (s : Suggest). v ≤ s.key3.at) (sym a.1)
            (elim (cases_lt ((parties me).rec.field 8).at v) [
              | inl y ↦ none_some _ x ((inv.ok me hme).bound 8 v (omega arith) (omega arith) y) o
              | inr y ↦ y
            ])
      ]

  -- ## A new offer
  module _ (s : Suggest) (b : best w.g q w.g.n ≡ Some s) (acc : quorum w.g (λ j. accepted w.g q j) ≡ true) (pos : 0 < q.rec.view) where
    chosen : Chosen w.g q w.g.n (Some s)
    chosen = subst (Chosen w.g q w.g.n) b (best_chosen w.g q w.g.n)

    parts : (w.g.allows s.key3.value ≡ true) × (eqb s.key3.at 0 || (ltb s.key3.at q.rec.view && borne_out w.g q s.key3) ≡ true)
    parts = and_parts (w.g.allows s.key3.value) _ (chosen.from s refl)

    reach : (s.key3.at ≡ 0) ⊎ ((s.key3.at < q.rec.view) × (borne_out w.g q s.key3 ≡ true))
    reach =
        elim (or_cases (eqb s.key3.at 0) (ltb s.key3.at q.rec.view && borne_out w.g q s.key3) parts.1) [
          | inl z ↦ inl (eqb-true _ _ z)
          | inr z ↦ let y = and_parts (ltb s.key3.at q.rec.view) (borne_out w.g q s.key3) z in inr (ltb-true _ _ y.0, y.1)
        ]

    row_says : (j : ℕ) (t : Suggest) → w.honest j ≡ true → (q.rows j).suggest ≡ Some t → (said j).suggested q.rec.view ≡ Some t
    row_says j t hj h =
        elim (rows_now w me m parties said inv hme fair q e j hj).suggest [ inl z ↦ none_some _ t z h | inr z ↦ sym z ∙ h ]

    supports : (j : ℕ) → 1 ≤ j → j ≤ w.g.n → accepted w.g q j ≡ true → (not (w.honest j) || suggests_to s.key3.at ((said j).suggested q.rec.view)) ≡ true
    supports j lo hi a = go (w.honest j) refl (q.rows j).suggest refl
      where
        go : (h : Bool) → w.honest j ≡ h → (o : Option Suggest) → (q.rows j).suggest ≡ o → (not h || suggests_to s.key3.at ((said j).suggested q.rec.view)) ≡ true
        go false hj o r = refl
        go true hj None r = absurd (both_ways _ refl (subst (λ o. accepts w.g q o ≡ true) r a))
        go true hj (Some t) r =
            let l : t.key3.at ≤ s.key3.at = subst (λ o. key3_of w.g q o ≤ s.key3.at) r (chosen.most j lo hi a) in
            subst (λ o. suggests_to s.key3.at o ≡ true) (sym (row_says j t hj r)) (le-leb _ _ l)

    bears : (j : ℕ) → w.honest j ≡ true → bears_key q.rec.view s.key3 (q.rows j).suggest ≡ true → bears_key q.rec.view s.key3 ((said j).suggested q.rec.view) ≡ true
    bears j hj h = go (q.rows j).suggest refl
      where
        go : (o : Option Suggest) → (q.rows j).suggest ≡ o → bears_key q.rec.view s.key3 ((said j).suggested q.rec.view) ≡ true
        go None r = absurd (both_ways _ refl (subst (λ o. bears_key q.rec.view s.key3 o ≡ true) r h))
        go (Some t) r = subst (λ o. bears_key q.rec.view s.key3 o ≡ true) (r ∙ sym (row_says j t hj r)) h

    backed_new : Backed w.g w.honest said q.rec.view s.key3
    backed_new =
        record {
          allowed = parts.0;
          before = elim reach [ inl z ↦ omega arith | inr z ↦ z.0 ];
          support = w.laws.more_quorum (λ j. accepted w.g q j) (λ j. not (w.honest j) || suggests_to s.key3.at ((said j).suggested q.rec.view)) supports acc;
          borne = λ p. elim reach [
            | inl z ↦ absurd (omega arith)
            | inr z ↦
                let o = w.laws.one_honest (λ j. bears_key q.rec.view s.key3 (q.rows j).suggest) z.1 in
                (o.0, o.4, bears o.0 o.4 o.3)
          ];
        }

  backed_me : (v : ℕ) (k : Keyed) → L.offered v ≡ Some k → Backed w.g w.honest said v k
  backed_me v k h =
      elim (cases_eq v q.rec.view) [
        | inr z ↦ c.backed me v k hme (let t : eqb v q.rec.view ≡ false = ne_eqb _ _ z in rw t at h)
        | inl z ↦
            let o : q.rec.offer ≡ Some k = (let t : eqb v q.rec.view ≡ true = eq-eqb _ _ z in rw t at h) in
            elim e.offer [
              | inl a ↦ c.backed me v k hme (subst (λ u. (said me).offered u ≡ Some k) (sym (z ∙ a.0)) ((inv.ok me hme).offered_now ∙ (sym a.1 ∙ o)))
              | inr (inl a) ↦ none_some _ k a.1 o
              | inr (inr a) ↦
                  let y = a.6 in
                  let r : a.0.key3 ≡ k = cc in
                  let begun = (inv.ok me hme).begun in
                  let same = a.1 in
                  subst₂ (λ u f. Backed w.g w.honest said u f) (sym z) r (backed_new a.0 a.4 a.5 (omega arith))
            ]
      ]

  -- ## A proposal dropped now
  drop_me : w.honest (primary w.g q.rec.view) ≡ true → q.rec.proposal ≡ dropped → Dropped w said me q.rec.view
  drop_me hp h =
      let y = d.why h in
      let hp₁ : w.honest (primary w.g (parties me).rec.view) ≡ true = subst (λ u. w.honest (primary w.g u) ≡ true) y.0 hp in
      subst (Dropped w said me) (sym y.0) (elim y.1 [
        | inl z ↦ c.drop me hme hp₁ z
        | inr z ↦
            let hf : w.honest m.from ≡ true = subst (λ i. w.honest i ≡ true) (sym z.2) hp₁ in
            let o = (fair hf).propose z.0 in
            let o₁ : (said (primary w.g (parties me).rec.view)).offered (parties me).rec.view ≡ Some (record { at = m.key; value = m.value }) =
            subst₂ (λ i u. (said i).offered u ≡ Some (record { at = m.key; value = m.value })) z.2 z.1 o in
            (record { at = m.key; value = m.value }, o₁, why z.4)
      ])
    where
      why : Misfits w.g (parties me) m → Unfit w.g w.honest said me (parties me).rec.view (record { at = m.key; value = m.value })
      why (inl z) = inl z
      why (inr z) = inr (((parties me).rec.field 9).at, ((parties me).rec.field 9).value, (inv.ok me hme).top 9 (omega arith) (omega arith) z.0, z.1, z.2)

  pub choice_kept : Choice w (upd parties me q) (upd said me (note (said me) q.rec))
  choice_kept =
      record {
        keys = upd_ind₂ (λ i a b. (k : ℕ) → w.honest i ≡ true → 6 ≤ k → k ≤ 7 → CoversAll (a.said k) (b.rec.field k) (b.rec.previous k)) said parties me L q (λ k _. keys_me k) c.keys;
        proof = upd_ind₂ (λ i a b. w.honest i ≡ true → Covers (a.said 6) b.rec.view b.rec.proof.key1 b.rec.proof.previous) said parties me L q (λ _. proof_me) c.proof;
        suggest = upd_ind₂ (λ i a b. w.honest i ≡ true → Covers (a.said 7) b.rec.view b.rec.suggest.key2 b.rec.suggest.previous) said parties me L q (λ _. suggest_me) c.suggest;
        latest = upd_ind₂ (λ i a b. (v : ℕ) (x : List ℕ) → w.honest i ≡ true → v < b.rec.view → a.said 8 v ≡ Some x → v ≤ b.rec.suggest.key3.at) said parties me L q
            (λ v x _. latest_me v x) c.latest;
        backed = λ i v k hi h. backed_grows w said S grow v k
            (upd_ind (λ i a. w.honest i ≡ true → a.offered v ≡ Some k → Backed w.g w.honest said v k) said me L (λ _. backed_me v k) (λ i hi. c.backed i v k hi) i hi h);
        drop = λ i hi hp h. dropped_grows w said S grow i (upd parties me q i).rec.view
            (upd_ind (λ i b. w.honest i ≡ true → w.honest (primary w.g b.rec.view) ≡ true → b.rec.proposal ≡ dropped → Dropped w said i b.rec.view) parties me q
            (λ _. drop_me) c.drop i hi hp h);
      }
