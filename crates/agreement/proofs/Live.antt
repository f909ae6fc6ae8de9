-- The second count of one state: if all that the honest parties said has arrived in one view with an honest primary, they have decided.
use Rattle.std.proofs.Common.{◌≡◌, ℕ, suc, ◌<◌, ◌≤◌, Bool, true, false, ◌&&◌, ◌||◌, eqb, ltb, leb, List, Some, None, Option, sym, refl, ap, ◌∙◌, subst, inl, inr, arith}
use Rattle.std.proofs.lemmas.Bool.{and_parts, and_from, or_left, or_right, or_cases, cases_lt, cases_eq, cases_Bool, leb-true, lt-ltb, ltb-true}
use Rattle.std.proofs.lemmas.Bool.Decides.{nat_tests}
use Rattle.values.specs.Same.{equal}
use Rattle.values.proofs.Same.{same_from_equal, differ_from_equal, equal_from_not}
use Rattle.rules.specs.Party.{Setting, Keyed, Proposal, nothing, waiting, echoed, dropped, Party, none}
use Rattle.rules.specs.Thresholds.{quorum, voucher, primary}
use Rattle.rules.specs.Tests.{is, opens, opens_lock, bears_out, bears_key, below, up_to, accepted}
use Rattle.rules.specs.Quorums.{Quorums}
use Rattle.agreement.proofs.History.{Log, said_now}
use Rattle.agreement.proofs.World.{some_is}
use Rattle.agreement.proofs.Voices.{Voice, voice, voice_meets, all_say, vouched_by}
use Rattle.agreement.proofs.LiveFacts.{suggests_to, Contents, Safe, Backed, OfferOf, Unfit, Facts, Arrived, DonesArrived}

some_of : {X : Type 0} (o : Option X) → none o ≡ false → (x : X) × (o ≡ Some x)
some_of None e = absurd (let z : ◌≡◌ {A = ℕ} 0 1 = grind arith in omega arith)
some_of (Some x) e = (x, refl)

some_not_none : {X : Type 0} (o : Option X) (x : X) → o ≡ None → o ≡ Some x → ⊥
some_not_none o x a b = let z : ◌≡◌ {A = ℕ} 0 1 = cc in omega arith

module _ (g : Setting) (hon : ℕ → Bool) (laws : Quorums g.n hon (quorum g) (voucher g)) (party : ℕ → Party) (log : ℕ → Log)
    (f : Facts g hon party log) where
  abbrev S : Safe g hon party log
  S = f.safe

  -- ## Dones: once every honest party has sent one and they have arrived, whoever is honest is decided
  module _ (arrived : DonesArrived g hon party log) where
    all_done_decide : ((i : ℕ) → hon i ≡ true → none (party i).rec.done ≡ false) → (i : ℕ) → hon i ≡ true → (party i).rec.decision ≡ None → ⊥
    all_done_decide all i hi idle =
        let d = some_of (party i).rec.done (all i hi) in
        let q = all_say g hon laws (λ j. ((party i).rows j).done) d.0
        (λ j hj.
        let e = some_of (party j).rec.done (all j hj) in
        let same = S.one_done j i e.0 d.0 hj hi e.1 d.1 in
        arrived i j d.0 hi hj idle (e.1 ∙ ap Some same)) in
        let z = (f.prompt i hi).decide d.0 q in
        grind arith

    -- a decided party has done set, and the dones behind its decision are a voucher at whoever is open
    pub one_decided : (m : ℕ) (x : List ℕ) → hon m ≡ true → (party m).rec.decision ≡ Some x → (i : ℕ) → hon i ≡ true → (party i).rec.decision ≡ None → ⊥
    one_decided m x hm e =
        all_done_decide (λ i hi. elim (cases_Bool (none (party i).rec.decision)) [
          | inr t ↦ (f.prompt i hi).ended t
          | inl t ↦ (f.prompt i hi).join x
              (vouched_by g hon laws (λ j. (party j).rec.done) x (λ j. is x ((party i).rows j).done) (S.decided m x hm e)
              (λ j hj d. some_is x _ (arrived i j x hi hj (undecided (party i).rec.decision t) d)))
        ])
      where
        undecided : (o : Option (List ℕ)) → none o ≡ true → o ≡ None
        undecided None t = refl
        undecided (Some y) t = let z : ◌≡◌ {A = ℕ} 0 1 = grind arith in absurd (omega arith)

  -- ## Nobody is decided, and all that was said in the view v has arrived
  module _ (v : ℕ) (a : Arrived g hon party log v) (hp : hon (primary g v) ≡ true) where
    -- a stage that one honest party reached, an honest party reached the stage before
    back : (kind i u : ℕ) (x : List ℕ) → 5 ≤ kind → kind ≤ 8 → hon i ≡ true → (log i).said (suc kind) u ≡ Some x → Voice g hon (λ j. (log j).said kind u) x
    back kind i u x l m hi e = voice g hon laws (λ j. (log j).said kind u) x (S.why kind i u x l m hi e)

    -- a lock leads back to an echo of its view, and so does a key3
    key3-echo : (i u : ℕ) (x : List ℕ) → hon i ≡ true → (log i).said 8 u ≡ Some x → Voice g hon (λ j. (log j).said 5 u) x
    key3-echo i u x hi e =
        let b = back 7 i u x (omega arith) (omega arith) hi e in
        let c = back 6 b.0 u x (omega arith) (omega arith) b.1 b.2 in
        back 5 c.0 u x (omega arith) (omega arith) c.1 c.2

    -- ## The primary has offered
    key3_fine : (j : ℕ) → hon j ≡ true → (0 < (party j).rec.suggest.key3.at) → voucher g (λ i. bears_key v (party j).rec.suggest.key3 ((party (primary g v)).rows i).suggest) ≡ true
    key3_fine j hj l =
        let c = f.contents j hj in
        let k = (party j).rec.suggest.key3 in
        let e = c.key3 l in
        vouched_by g hon laws (λ i. (log i).said 7 k.at) k.value (λ i. bears_key v k ((party (primary g v)).rows i).suggest) (S.why 7 j k.at k.value (omega arith) (omega arith) hj e)
        (λ i hi q.
        let at-v : (party i).rec.view ≡ v = a.view i hi in
        let at_j : (party j).rec.view ≡ v = a.view j hj in
        let b = c.before in
        let w : k.at < (party i).rec.view = omega arith in
        let z = (f.contents i hi).bears k.at k.value w q in
        let z₁ : bears_out v k (party i).rec.suggest ≡ true = rw at-v at z in
        rw (a.suggests i hi) z₁)

    value_allowed : (j : ℕ) → hon j ≡ true → g.allows (party j).rec.suggest.key3.value ≡ true
    value_allowed j hj =
        elim (cases_eq (party j).rec.suggest.key3.at 0) [
          | inl z ↦ (f.contents j hj).allowed z
          | inr z ↦
              let e = (f.contents j hj).key3 (omega arith) in
              let b = key3-echo j _ _ hj e in
              S.allowed b.0 _ _ b.1 b.2
        ]

    accepts-honest : (j : ℕ) → hon j ≡ true → accepted g (party (primary g v)) j ≡ true
    accepts-honest j hj =
        let vp : (party (primary g v)).rec.view ≡ v = a.view (primary g v) hp in
        let vj : (party j).rec.view ≡ v = a.view j hj in
        let b = (f.contents j hj).before in
        let s = a.suggests j hj in
        let al = value_allowed j hj in
        let t : ltb (party j).rec.suggest.key3.at (party (primary g v)).rec.view ≡ true = lt-ltb _ _ (omega arith) in
        rw s (and_from _ _ al (elim (cases_eq (party j).rec.suggest.key3.at 0) [
          | inl z ↦ or_left (eqb (party j).rec.suggest.key3.at 0) _ (grind (arith, nat_tests))
          | inr z ↦ or_right (eqb (party j).rec.suggest.key3.at 0) _ (and_from _ _ t (rw vp (key3_fine j hj (omega arith))))
        ]))

    offered : (k : Keyed) × ((party (primary g v)).rec.offer ≡ Some k)
    offered =
        some_of _ ((f.prompt (primary g v) hp).offer
        (laws.more_quorum hon (λ j. accepted g (party (primary g v)) j) (λ j _ _ hj. accepts-honest j hj) laws.honest_quorum))

    -- ## The offer is followed: it is neither dropped nor left waiting
    module _ (k : Keyed) (ok : (party (primary g v)).rec.offer ≡ Some k) where
      said-offer : (log (primary g v)).offered v ≡ Some k
      said-offer = let e = S.offered (primary g v) hp in let w = a.view (primary g v) hp in (subst (λ u. (log (primary g v)).offered u ≡ (party (primary g v)).rec.offer) w e) ∙ ok

      backed : Backed g hon log v k
      backed = f.offers.backed (primary g v) v k hp said-offer

      same_offer : (x : List ℕ) → OfferOf g hon log v x → k.value ≡ x
      same_offer x o = let e = o.1 in let q = o.2 in let s = said-offer in cc

      -- a lock of this view is on the offered value
      lock_now : (i : ℕ) (z : List ℕ) → hon i ≡ true → (log i).said 9 v ≡ Some z → k.value ≡ z
      lock_now i z hi e =
          let b = back 8 i v z (omega arith) (omega arith) hi e in
          let c = key3-echo b.0 v z b.1 b.2 in
          same_offer z (f.offers.echo c.0 v z c.1 hp c.2)

      -- an earlier one is no later than the offer's key
      lock-before : (i u : ℕ) (z : List ℕ) → hon i ≡ true → (log i).said 9 u ≡ Some z → u < v → u ≤ k.at
      lock-before i u z hi e l =
          let m = voice_meets g hon laws (λ j. (log j).said 8 u) z (λ j. suggests_to k.at ((log j).suggested v)) (S.why 8 i u z (omega arith) (omega arith) hi e) backed.support in
          let j = m.0 in
          let w : (party j).rec.view ≡ v = a.view j m.1 in
          let s : (log j).suggested v ≡ Some (party j).rec.suggest = subst (λ u. (log j).suggested u ≡ Some (party j).rec.suggest) w (S.suggested j m.1) in
          let t : leb (party j).rec.suggest.key3.at k.at ≡ true = rw s at m.3 in
          let q = (f.contents j m.1).latest u z (omega arith) m.2 in
          let r = leb-true _ _ t in
          omega arith

      lock-reached : (i u : ℕ) (z : List ℕ) → hon i ≡ true → (log i).said 9 u ≡ Some z → equal z k.value ≡ false → u ≤ k.at
      lock-reached i u z hi e ne =
          elim (cases_lt u v) [
            | inl l ↦ lock-before i u z hi e l
            | inr l ↦ elim (cases_eq u v) [
              | inl q ↦ absurd (let s = lock_now i z hi (subst (λ u. (log i).said 9 u ≡ Some z) q e) in differ_from_equal z k.value ne (sym s))
              | inr q ↦ absurd (let w = a.view i hi in some_not_none _ z (S.later i 9 u hi (omega arith)) e)
            ]
          ]

      not_dropped : (i : ℕ) → hon i ≡ true → (party i).rec.proposal ≡ dropped → ⊥
      not_dropped i hi e =
          let w : (party i).rec.view ≡ v = a.view i hi in
          let d = f.offers.drop i hi (rw w hp) e in
          let q : (log (primary g v)).offered v ≡ Some d.0 = subst (λ u. (log (primary g u)).offered u ≡ Some d.0) w d.1 in
          let s = said-offer in
          let eq : d.0 ≡ k = cc in
          unfit (subst (λ u. Unfit g hon log i u k) w (subst (λ x. Unfit g hon log i (party i).rec.view x) eq d.2))
        where
          unfit : Unfit g hon log i v k → ⊥
          unfit (inl z) = let al = backed.allowed in let y : ◌≡◌ {A = ℕ} 0 1 = grind arith in omega arith
          unfit (inr (u, z, s, ne, why)) = let r = lock-reached i u z hi s ne in let b = backed.before in elim why [ inl q ↦ omega arith | inr q ↦ omega arith ]

      -- of a suggest that bears out the offer, a key2 as late as the lock and on another value
      other_key2 : (j u : ℕ) (z : List ℕ) → hon j ≡ true → 0 < u → u ≤ k.at → equal z k.value ≡ false → bears_out v k (party j).rec.suggest ≡ true →
          (w : ℕ) × (y : List ℕ) × (u ≤ w) × (w < v) × ((log j).said 7 w ≡ Some y) × (equal y z ≡ false)
      other_key2 j u z hj l m ne b = go (party j).rec.suggest.previous refl
        where
          c : Contents g (log j) (party j).rec
          c = f.contents j hj

          go : (o : Option ℕ) → (party j).rec.suggest.previous ≡ o → (w : ℕ) × (y : List ℕ) × (u ≤ w) × (w < v) × ((log j).said 7 w ≡ Some y) × (equal y z ≡ false)
          go o e =
              let b₁ : ((below o (party j).rec.suggest.key2.at && ltb (party j).rec.suggest.key2.at v) &&
              (up_to k.at o || (leb k.at (party j).rec.suggest.key2.at && equal (party j).rec.suggest.key2.value k.value))) ≡ true = rw e at b in
              let p = and_parts _ _ b₁ in
              let p₁ = and_parts _ _ p.0 in
              let lt = ltb-true _ _ p₁.1 in
              elim (or_cases _ _ p.1) [
                | inr q ↦
                    let q₁ = and_parts (leb k.at (party j).rec.suggest.key2.at) (equal (party j).rec.suggest.key2.value k.value) q in
                    let le = leb-true k.at (party j).rec.suggest.key2.at q₁.0 in
                    let same = same_from_equal (party j).rec.suggest.key2.value k.value q₁.1 in
                    ((party j).rec.suggest.key2.at, (party j).rec.suggest.key2.value, omega arith, lt, c.key2 (omega arith), equal_from_not _ _ (λ r. differ_from_equal z k.value ne (sym r ∙ same)))
                | inl q ↦ early o e p₁.0 lt q
              ]
            where
              early : (o : Option ℕ) → (party j).rec.suggest.previous ≡ o → below o (party j).rec.suggest.key2.at ≡ true → (party j).rec.suggest.key2.at < v → up_to k.at o ≡ true →
                  (w : ℕ) × (y : List ℕ) × (u ≤ w) × (w < v) × ((log j).said 7 w ≡ Some y) × (equal y z ≡ false)
              early None e bl lt q = absurd (let z : ◌≡◌ {A = ℕ} 0 1 = grind arith in omega arith)
              early (Some r) e bl lt q =
                  let le = leb-true _ _ q in
                  let lb = ltb-true _ _ bl in
                  let o = c.previous r e (omega arith) in
                  elim (cases_Bool (equal o.0 z)) [
                    | inr t ↦ (r, o.0, omega arith, omega arith, o.1, t)
                    | inl t ↦ (
                      (party j).rec.suggest.key2.at,
                      (party j).rec.suggest.key2.value,
                      omega arith,
                      lt,
                      c.key2 (omega arith),
                      equal_from_not _ _ (λ s. differ_from_equal o.0 _ o.2 (same_from_equal _ _ t ∙ sym s)),
                    )
                  ]

      not_waiting : (i : ℕ) (x : List ℕ) → hon i ≡ true → (party i).rec.proposal ≡ waiting x → ⊥
      not_waiting i x hi e =
          let w : (party i).rec.view ≡ v = a.view i hi in
          let t = (f.prompt i hi).wait x e in
          let o = f.offers.wait i x hi (rw w hp) e in
          let same : k.value ≡ x = same_offer x (subst (λ u. OfferOf g hon log u x) w o) in
          let u = ((party i).rec.field 9).at in
          let z = ((party i).rec.field 9).value in
          let ne : equal z k.value ≡ false = rw same t.1 in
          let le : u ≤ k.at = lock-reached i u z hi (S.locked i hi t.0) ne in
          let b = backed.borne (omega (arith, t.0)) in
          let j = b.0 in
          let wj : (party j).rec.view ≡ v = a.view j b.1 in
          let s : (log j).suggested v ≡ Some (party j).rec.suggest = subst (λ u. (log j).suggested u ≡ Some (party j).rec.suggest) wj (S.suggested j b.1) in
          let r = other_key2 j u z b.1 t.0 le ne (rw s at b.2) in
          let open-lock = vouched_by g hon laws (λ m. (log m).said 6 r.0) r.1 (λ m. opens_lock (party i).rec.view ((party i).rec.field 9) ((party i).rows m).proof)
          (S.why 6 j r.0 r.1 (omega arith) (omega arith) b.1 r.4)
          (λ m hm q.
          let wm : (party m).rec.view ≡ v = a.view m hm in
          let z₁ = (f.contents m hm).opening r.0 r.1 ((party i).rec.field 9) (omega (arith, r.3)) q r.2 r.5 in
          let back-view : (party m).rec.view ≡ (party i).rec.view = wm ∙ sym w in
          rw (a.proofs i m hi hm) (subst (λ u. opens u ((party i).rec.field 9) (party m).rec.proof ≡ true) back-view z₁)) in
          let no = t.2 in
          let y : ◌≡◌ {A = ℕ} 0 1 = grind arith in
          omega arith

      -- ## So all echo it, and stage follows stage
      all_echo : (i : ℕ) → hon i ≡ true → said_now (party i).rec 5 ≡ Some k.value
      all_echo i hi = go (party i).rec.proposal refl
        where
          go : (p : Proposal) → (party i).rec.proposal ≡ p → said_now (party i).rec 5 ≡ Some k.value
          go nothing e = absurd (a.proposal i k hi ok e)
          go (waiting x) e = absurd (not_waiting i x hi e)
          go dropped e = absurd (not_dropped i hi e)
          go (echoed x) e =
              let w : (party i).rec.view ≡ v = a.view i hi in
              let s : (log i).said 5 v ≡ said_now (party i).rec 5 = subst (λ u. (log i).said 5 u ≡ said_now (party i).rec 5) w (S.now i 5 hi (omega arith) (omega arith)) in
              let here : said_now (party i).rec 5 ≡ Some x = rw e in
              let o = same_offer x (f.offers.echo i v x hi hp (s ∙ here)) in
              here ∙ ap Some (sym o)

      said_at : (i kind : ℕ) → hon i ≡ true → 5 ≤ kind → kind ≤ 9 → (log i).said kind v ≡ said_now (party i).rec kind
      said_at i kind hi l m = subst (λ u. (log i).said kind u ≡ said_now (party i).rec kind) (a.view i hi) (S.now i kind hi l m)

      all_next : (kind : ℕ) → 5 ≤ kind → kind ≤ 8 → ((i : ℕ) → hon i ≡ true → said_now (party i).rec kind ≡ Some k.value) →
          (i : ℕ) → hon i ≡ true → said_now (party i).rec (suc kind) ≡ Some k.value
      all_next kind l m all i hi =
          let q = all_say g hon laws (λ j. ((party i).rows j).vote kind) k.value (λ j hj. a.votes i j kind hi hj l (omega arith) ∙ all j hj) in
          let up = (f.prompt i hi).vote kind k.value l m q in
          let le = S.field_at i (suc kind) hi (omega arith) (omega arith) in
          let e : ((party i).rec.field (suc kind)).at ≡ (party i).rec.view = omega arith in
          let n : said_now (party i).rec (suc kind) ≡ Some ((party i).rec.field (suc kind)).value = grind (arith, nat_tests) in
          let c = back kind i v ((party i).rec.field (suc kind)).value l m hi (said_at i (suc kind) hi (omega arith) (omega arith) ∙ n) in
          let b = c.2 in
          let d = said_at c.0 kind c.1 l (omega arith) in
          let o = all c.0 c.1 in
          let s : ((party i).rec.field (suc kind)).value ≡ k.value = cc in
          n ∙ ap Some s

      all_lock : (i : ℕ) → hon i ≡ true → said_now (party i).rec 9 ≡ Some k.value
      all_lock = all_next 8 (omega arith) (omega arith) (all_next 7 (omega arith) (omega arith) (all_next 6 (omega arith) (omega arith) (all_next 5 (omega arith) (omega arith) all_echo)))

      all_done : (i : ℕ) → hon i ≡ true → none (party i).rec.done ≡ false
      all_done i hi = (f.prompt i hi).lock k.value (all_say g hon laws (λ j. ((party i).rows j).vote 9) k.value (λ j hj. a.votes i j 9 hi hj (omega arith) (omega arith) ∙ all_lock j hj))

    pub none_open : DonesArrived g hon party log → (i : ℕ) → hon i ≡ true → (party i).rec.decision ≡ None → ⊥
    none_open d = let o = offered in all_done_decide d (all_done o.0 o.1)
