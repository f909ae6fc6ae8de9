-- Every rule that begins with "once" is followed at once: kept by each part of a step.
use Rattle.std.proofs.Common.{◌≡◌, ℕ, zero, suc, ◌<◌, ◌≤◌, Bool, true, false, ◌&&◌, ◌||◌, eqb, ltb, ◌⊎◌, List, Some, None, Option, sym, refl, ◌∙◌, subst, inl, inr, arith}
use Rattle.std.proofs.lemmas.Bool.{and_parts, and_from, or_cases, or_left, or_right, or_parts, cases_eq, cases_lt, cases_Bool, eqb-true, eqb-false, eq-eqb, both_ways}
use Rattle.std.proofs.lemmas.Bool.Decides.{nat_tests}
use Rattle.values.specs.Same.{equal}
use Rattle.messages.specs.Messages.{Msg}
use Rattle.rules.specs.Party.{Setting, Keyed, Suggest, Proposal, nothing, waiting, echoed, dropped, Party, none}
use Rattle.rules.specs.Thresholds.{quorum, voucher}
use Rattle.rules.specs.Tests.{is, bears_key, opens_lock, lock_opened, accepts, accepted, borne_out, voted, done_vouched, done_agreed, higher, best}
use Rattle.rules.specs.Quorums.{Quorums}
use Rattle.rules.proofs.Quorums.{quorums_meet}
use Rattle.agreement.proofs.Effects.{Effect}
use Rattle.values.proofs.Same.{same_from_equal}
use Rattle.agreement.proofs.World.{is_some}
use Rattle.agreement.proofs.LiveFacts.{Prompt}
use Rattle.agreement.proofs.Drawn.{Keeps, Draws}

-- ## What holds between the parts of a step
pub record Tallied (g : Setting) (p : Party) : Type 0 where
  pub begun : 0 < p.rec.view
  pub seen : (k : ℕ) → 6 ≤ k → k ≤ 9 → (p.rec.field k).at ≤ p.rec.view
  pub vote : (kind : ℕ) (x : List ℕ) → 5 ≤ kind → kind ≤ 8 → voted g p kind x ≡ true → p.rec.view ≤ (p.rec.field (suc kind)).at
  pub lock : (x : List ℕ) → voted g p 9 x ≡ true → none p.rec.done ≡ false
  pub join : (x : List ℕ) → done_vouched g p x ≡ true → none p.rec.done ≡ false
  pub decide : (x : List ℕ) → done_agreed g p x ≡ true → none p.rec.decision ≡ false
  pub offer : quorum g (λ j. accepted g p j) ≡ true → none p.rec.offer ≡ false
  pub ended : none p.rec.decision ≡ false → none p.rec.done ≡ false
  pub held : (x : List ℕ) → p.rec.proposal ≡ waiting x → 0 < (p.rec.field 9).at

-- a waiting proposal has a reason to wait
pub record Waits (g : Setting) (p : Party) : Type 0 where
  pub why : (x : List ℕ) → p.rec.proposal ≡ waiting x → (equal (p.rec.field 9).value x ≡ false) × (lock_opened g p ≡ false)

pub prompt : (g : Setting) (p : Party) → Tallied g p → Waits g p → Prompt g p
prompt g p t w =
    record {
      vote = t.vote;
      lock = t.lock;
      join = t.join;
      decide = t.decide;
      offer = t.offer;
      ended = t.ended;
      wait = λ x e. let h = w.why x e in (t.held x e, h.0, h.1);
    }

-- ## Entries before and after a part
none_or_same : {X : Type 0} (a b : Option X) → (b ≡ a) ⊎ (none b ≡ false) → none a ≡ false → none b ≡ false
none_or_same a b (inl s) h = rw s h
none_or_same a b (inr s) h = s

some_full : {X : Type 0} (o : Option X) (x : X) → o ≡ Some x → none o ≡ false
some_full o x e = rw e refl

-- an entry of the view that stands for x
entry_was : (a b : Option (List ℕ)) (same from kind view : Type 0) (x y : List ℕ) →
    (b ≡ None) ⊎ ((same × (b ≡ a)) ⊎ (same × from × kind × view × (a ≡ None) × (b ≡ Some y))) → is x b ≡ true →
    same × ((is x a ≡ true) ⊎ (kind × (is x (Some y) ≡ true)))
entry_was a b same from kind view x y (inl z) h = absurd (let h₁ : is x None ≡ true = rw z at h in let w : ◌≡◌ {A = ℕ} 0 1 = grind arith in omega arith)
entry_was a b same from kind view x y (inr (inl z)) h = (z.0, inl (rw z.1 at h))
entry_was a b same from kind view x y (inr (inr z)) h = (z.0, inr (z.2, rw z.5 at h))

-- ## An accepted suggest makes the best one
module _ (g : Setting) (p : Party) where
  accepted_some : (o : Option Suggest) → accepts g p o ≡ true → (s : Suggest) × (o ≡ Some s)
  accepted_some None e = absurd (let z : ◌≡◌ {A = ℕ} 0 1 = grind arith in omega arith)
  accepted_some (Some s) e = (s, refl)

  higher_some : (a b : Option Suggest) (s : Suggest) → b ≡ Some s → higher g a b ≡ None → ⊥
  higher_some None b s e h = let z : ◌≡◌ {A = ℕ} 0 1 = cc in omega arith
  higher_some (Some a) None s e h = let z : ◌≡◌ {A = ℕ} 0 1 = cc in omega arith
  higher_some (Some a) (Some b) s e h = let z : ◌≡◌ {A = ℕ} 0 1 = grind (arith, nat_tests) in omega arith

  higher_left : (a b : Option Suggest) → (a ≡ None → ⊥) → higher g a b ≡ None → ⊥
  higher_left None b n h = n refl
  higher_left (Some a) None n h = n h
  higher_left (Some a) (Some b) n h = let z : ◌≡◌ {A = ℕ} 0 1 = grind (arith, nat_tests) in omega arith

  pub best_some : (n j : ℕ) → 1 ≤ j → j ≤ n → accepted g p j ≡ true → best g p n ≡ None → ⊥
  best_some zero j lo hi a h = omega arith
  best_some (suc n) j lo hi a h =
      elim (cases_lt n j) [
        | inl l ↦
            let q : j ≡ suc n = omega arith in
            let a₁ : accepted g p (suc n) ≡ true = subst (λ i. accepted g p i ≡ true) q a in
            let s = accepted_some (p.rows (suc n)).suggest a₁ in
            let h₁ : higher g (best g p n) (p.rows (suc n)).suggest ≡ None = rw a₁ at h in
            higher_some (best g p n) (p.rows (suc n)).suggest s.0 s.1 h₁
        | inr l ↦ elim (cases_Bool (accepted g p (suc n))) [
          | inl b ↦ higher_left (best g p n) (p.rows (suc n)).suggest (best_some n j lo l a) (rw b at h)
          | inr b ↦ best_some n j lo l a (rw b at h)
        ]
      ]

module _ (g : Setting) (hon : ℕ → Bool) (laws : Quorums g.n hon (quorum g) (voucher g)) where
  pub member : (t : ℕ → Bool) → quorum g t ≡ true → (j : ℕ) × (1 ≤ j) × (j ≤ g.n) × (t j ≡ true)
  member t h = let s = quorums_meet g.n hon (quorum g) (voucher g) laws t t h h in (s.0, s.1, s.2, s.4)

  pub quorum_vouches : (t : ℕ → Bool) → quorum g t ≡ true → voucher g t ≡ true
  quorum_vouches t h = laws.more_voucher (λ j. t j && hon j) t (λ j _ _ e. (and_parts (t j) (hon j) e).0) (laws.honest_part t h)

  module _ (me : ℕ) (p q : Party) (m : Msg) (e : Effect g me p m q) (k : Keeps g p q) (d : Draws g p m q) (t : Tallied g p) where
    done_stays : none p.rec.done ≡ false → none q.rec.done ≡ false
    done_stays h = none_or_same _ _ (elim e.done [ inl s ↦ inl s | inr s ↦ inr (some_full _ _ s.1) ]) h

    -- ## Votes
    vote-entry : (kind j : ℕ) (x : List ℕ) → is x ((q.rows j).vote kind) ≡ true →
        (q.rec.view ≡ p.rec.view) × ((is x ((p.rows j).vote kind) ≡ true) ⊎ ((m.kind ≡ kind) × (is x (Some m.value) ≡ true)))
    vote-entry kind j x h = entry_was ((p.rows j).vote kind) ((q.rows j).vote kind) _ _ _ _ x m.value (e.row_vote j kind) h

    -- another tally than the message's was as full before
    votes_before : (kind : ℕ) (x : List ℕ) → ((m.kind ≡ kind) → (is x (Some m.value) ≡ true) → ⊥) → voted g q kind x ≡ true → voted g p kind x ≡ true
    votes_before kind x n h =
        laws.more_quorum (λ j. is x ((q.rows j).vote kind)) (λ j. is x ((p.rows j).vote kind))
        (λ j _ _ z. elim (vote-entry kind j x z).1 [ inl a ↦ a | inr a ↦ absurd (n a.0 a.1) ]) h

    same_view : (kind : ℕ) (x : List ℕ) → voted g q kind x ≡ true → q.rec.view ≡ p.rec.view
    same_view kind x h = let j = member (λ j. is x ((q.rows j).vote kind)) h in (vote-entry kind j.0 x j.3).0

    field_stays : (kind : ℕ) → q.rec.view ≡ p.rec.view → p.rec.view ≤ (p.rec.field kind).at → q.rec.view ≤ (q.rec.field kind).at
    field_stays kind v h = let f = e.field kind in grind arith

    vote-kept : (kind : ℕ) (x : List ℕ) → 5 ≤ kind → kind ≤ 8 → voted g q kind x ≡ true → q.rec.view ≤ (q.rec.field (suc kind)).at
    vote-kept kind x lo hi h =
        elim (cases_Bool (is x (Some m.value) && eqb m.kind kind)) [
          | inl b ↦
              let b₁ = and_parts (is x (Some m.value)) (eqb m.kind kind) b in
              let z = is_some x (Some m.value) b₁.0 in
              let y : m.value ≡ x = cc in
              let a : m.kind ≡ kind = eqb-true _ _ b₁.1 in
              elim (subst (λ n. voted g q n m.value ≡ true → (q.rec.view ≤ (q.rec.field (suc n)).at) ⊎ (voted g p n m.value ≡ true)) a
              (d.vote (omega arith) (omega arith)) (subst (λ w. voted g q kind w ≡ true) (sym y) h)) [
                | inl r ↦ r
                | inr r ↦ field_stays (suc kind) (same_view kind x h) (t.vote kind m.value lo hi r)
              ]
          | inr b ↦ field_stays (suc kind) (same_view kind x h) (t.vote kind x lo hi (votes_before kind x (λ a y. both_ways _ b (and_from _ _ y (eq-eqb _ _ a))) h))
        ]

    lock-kept : (x : List ℕ) → voted g q 9 x ≡ true → none q.rec.done ≡ false
    lock-kept x h =
        elim (cases_Bool (is x (Some m.value) && eqb m.kind 9)) [
          | inl b ↦
              let b₁ = and_parts (is x (Some m.value)) (eqb m.kind 9) b in
              let z = is_some x (Some m.value) b₁.0 in
              let y : m.value ≡ x = cc in
              elim (d.lock (eqb-true _ _ b₁.1) (subst (λ w. voted g q 9 w ≡ true) (sym y) h)) [
                | inl r ↦ r
                | inr r ↦ done_stays (t.lock m.value r)
              ]
          | inr b ↦ done_stays (t.lock x (votes_before 9 x (λ a y. both_ways _ b (and_from _ _ y (eq-eqb _ _ a))) h))
        ]

    -- ## Dones
    done-entry : (j : ℕ) (x : List ℕ) → is x (q.rows j).done ≡ true → (is x (p.rows j).done ≡ true) ⊎ ((m.kind ≡ 10) × (is x (Some m.value) ≡ true))
    done-entry j x h = elim (e.row_done j) [ inl s ↦ inl (subst (λ o. is x o ≡ true) s h) | inr s ↦ inr (s.1, subst (λ o. is x o ≡ true) s.3 h) ]

    new_done : (x : List ℕ) → ((m.kind ≡ 10) × (m.value ≡ x)) ⊎ ((m.kind ≡ 10) → (is x (Some m.value) ≡ true) → ⊥)
    new_done x =
        elim (cases_eq m.kind 10) [
          | inl a ↦ elim (cases_Bool (equal m.value x)) [ inl s ↦ inl (a, same_from_equal _ _ s) | inr s ↦ inr (λ _ y. both_ways _ s y) ]
          | inr a ↦ inr (λ b _. a b)
        ]

    join_kept : (x : List ℕ) → done_vouched g q x ≡ true → none q.rec.done ≡ false
    join_kept x h =
        elim (new_done x) [
          | inl a ↦ d.join a.0 (subst (λ w. done_vouched g q w ≡ true) (sym a.1) h)
          | inr a ↦ done_stays (t.join x (laws.more_voucher (λ j. is x (q.rows j).done) (λ j. is x (p.rows j).done)
              (λ j _ _ z. elim (done-entry j x z) [ inl b ↦ b | inr b ↦ absurd (a b.0 b.1) ]) h))
        ]

    decide-kept : (x : List ℕ) → done_agreed g q x ≡ true → none q.rec.decision ≡ false
    decide-kept x h =
        elim (new_done x) [
          | inl a ↦ d.decide a.0 (subst (λ w. done_agreed g q w ≡ true) (sym a.1) h)
          | inr a ↦ k.decision (t.decide x (laws.more_quorum (λ j. is x (q.rows j).done) (λ j. is x (p.rows j).done)
              (λ j _ _ z. elim (done-entry j x z) [ inl b ↦ b | inr b ↦ absurd (a b.0 b.1) ]) h))
        ]

    ended_kept : none q.rec.decision ≡ false → none q.rec.done ≡ false
    ended_kept h =
        elim e.decision [
          | inl s ↦ done_stays (t.ended (subst (λ o. none o ≡ false) s h))
          | inr s ↦ elim s.2 [
            | inl z ↦ z
            | inr z ↦ absurd (let v = quorum_vouches (λ j. is m.value (q.rows j).done) s.1 in let y : ◌≡◌ {A = ℕ} 0 1 = grind arith in omega arith)
          ]
        ]

    -- ## Offers
    module _ (other : m.kind ≡ 2 → ⊥) where
      suggest-entry : (j : ℕ) → ((q.rows j).suggest ≡ None) ⊎ ((q.rec.view ≡ p.rec.view) × ((q.rows j).suggest ≡ (p.rows j).suggest))
      suggest-entry j = elim (e.row_suggest j) [ inl z ↦ inl z | inr (inl z) ↦ inr z | inr (inr z) ↦ absurd (other z.2) ]

      bears_before : (key : Keyed) (j : ℕ) → bears_key q.rec.view key (q.rows j).suggest ≡ true → bears_key p.rec.view key (p.rows j).suggest ≡ true
      bears_before key j h =
          elim (suggest-entry j) [
            | inl z ↦ absurd (let h₁ : bears_key q.rec.view key None ≡ true = subst (λ o. bears_key q.rec.view key o ≡ true) z h in never _ h₁ refl)
            | inr z ↦ subst (λ v. bears_key v key (p.rows j).suggest ≡ true) z.0 (subst (λ o. bears_key q.rec.view key o ≡ true) z.1 h)
          ]
        where
          never : (b : Bool) → b ≡ true → b ≡ false → ⊥
          never b x y = both_ways b y x

      accepts-before : (o : Option Suggest) → q.rec.view ≡ p.rec.view → accepts g q o ≡ true → accepts g p o ≡ true
      accepts-before None v h = h
      accepts-before (Some s) v h =
          let a = and_parts (g.allows s.key3.value) (eqb s.key3.at 0 || (ltb s.key3.at q.rec.view && borne_out g q s.key3)) h in
          and_from (g.allows s.key3.value) _ a.0 (elim (or_cases (eqb s.key3.at 0) (ltb s.key3.at q.rec.view && borne_out g q s.key3) a.1) [
            | inl z ↦ or_left _ _ z
            | inr z ↦
                let b = and_parts (ltb s.key3.at q.rec.view) (borne_out g q s.key3) z in
                or_right (eqb s.key3.at 0) _ (and_from _ _ (subst (λ u. ltb s.key3.at u ≡ true) v b.0)
                (laws.more_voucher (λ j. bears_key q.rec.view s.key3 (q.rows j).suggest) (λ j. bears_key p.rec.view s.key3 (p.rows j).suggest)
                (λ j _ _ w. bears_before s.key3 j w) b.1))
          ])

      accepted-before : (j : ℕ) → accepted g q j ≡ true → (q.rec.view ≡ p.rec.view) × (accepted g p j ≡ true)
      accepted-before j h =
          elim (suggest-entry j) [
            | inl z ↦ absurd (both_ways _ refl (subst (λ o. accepts g q o ≡ true) z h))
            | inr z ↦ (z.0, accepts-before _ z.0 (subst (λ o. accepts g q o ≡ true) z.1 h))
          ]

    offer-kept : quorum g (λ j. accepted g q j) ≡ true → none q.rec.offer ≡ false
    offer-kept h =
        let j = member (λ j. accepted g q j) h in
        elim (cases_eq m.kind 2) [
          | inl a ↦ elim (d.offer a h) [ inl z ↦ z | inr z ↦ absurd (best_some g q g.n j.0 j.1 j.2 j.3 z.1) ]
          | inr a ↦
              let v = (accepted-before a j.0 j.3).0 in
              let o = t.offer (laws.more_quorum (λ j. accepted g q j) (λ j. accepted g p j) (λ j _ _ z. (accepted-before a j z).1) h) in
              elim e.offer [
                | inl z ↦ subst (λ o. none o ≡ false) (sym z.1) o
                | inr (inl z) ↦ absurd (let l = z.0 in omega arith)
                | inr (inr z) ↦ some_full _ _ z.6
              ]
        ]

    -- ## The bounds of the fields, and the lock of a waiting proposal
    begun_kept : 0 < q.rec.view
    begun_kept = let a = t.begun in let b = k.view in omega arith

    seen_kept : (n : ℕ) → 6 ≤ n → n ≤ 9 → (q.rec.field n).at ≤ q.rec.view
    seen_kept n lo hi =
        let s = t.seen n lo hi in
        let v = k.view in
        elim (e.field n) [
          | inl z ↦ subst (λ (f : Keyed). f.at ≤ q.rec.view) (sym z.0) (omega arith)
          | inr z ↦ subst (λ (f : Keyed). f.at ≤ q.rec.view) (sym z.5) (omega arith)
        ]

    lock_grows : 0 < (p.rec.field 9).at → 0 < (q.rec.field 9).at
    lock_grows l =
        elim (e.field 9) [
          | inl z ↦ subst (λ (f : Keyed). 0 < f.at) (sym z.0) l
          | inr z ↦ subst (λ (f : Keyed). 0 < f.at) (sym z.5) t.begun
        ]

    held_kept : (x : List ℕ) → q.rec.proposal ≡ waiting x → 0 < (q.rec.field 9).at
    held_kept x h =
        elim e.proposal [
          | inl z ↦ lock_grows (t.held x (sym z.1 ∙ h))
          | inr (inl z) ↦ absurd (nothing_waits (sym z.1 ∙ h))
          | inr (inr (inl z)) ↦ elim z.6 [
            | inl y ↦ absurd (dropped_waits (sym y ∙ h))
            | inr y ↦ elim y.1 [
              | inl w ↦ subst (λ (f : ℕ → Keyed). 0 < (f 9).at) (sym z.5) (not_zero _ _ w.1)
              | inr w ↦ absurd (echoed_waits _ (sym w.0 ∙ h))
            ]
          ]
          | inr (inr (inr z)) ↦ absurd (echoed_waits _ (sym z.3 ∙ h))
        ]
      where
        nothing_waits : ◌≡◌ {A = Proposal} nothing (waiting x) → ⊥
        nothing_waits z = let y : ◌≡◌ {A = ℕ} 0 1 = cc in omega arith

        dropped_waits : ◌≡◌ {A = Proposal} dropped (waiting x) → ⊥
        dropped_waits z = let y : ◌≡◌ {A = ℕ} 0 1 = cc in omega arith

        echoed_waits : (w : List ℕ) → ◌≡◌ {A = Proposal} (echoed w) (waiting x) → ⊥
        echoed_waits w z = let y : ◌≡◌ {A = ℕ} 0 1 = cc in omega arith

        not_zero : (n : ℕ) (b : Bool) → (eqb n 0 || b) ≡ false → 0 < n
        not_zero n b z = let y = or_parts (eqb n 0) b z in let w = eqb-false n 0 y.0 in omega arith

    pub tallied_kept : Tallied g q
    tallied_kept =
        record {
          begun = begun_kept;
          seen = seen_kept;
          vote = vote-kept;
          lock = lock-kept;
          join = join_kept;
          decide = decide-kept;
          offer = offer-kept;
          ended = ended_kept;
          held = held_kept;
        }

    -- ## A waiting proposal, by a message after which it is not tested
    module _ (no₃ : m.kind ≡ 3 → ⊥) (no₄ : m.kind ≡ 4 → ⊥) (no₈ : m.kind ≡ 8 → ⊥) (w : Waits g p) where
      opens_before : (lock : Keyed) (j : ℕ) → opens_lock q.rec.view lock (q.rows j).proof ≡ true →
          opens_lock p.rec.view lock (p.rows j).proof ≡ true
      opens_before lock j h =
          elim (e.row_proof j) [
            | inl z ↦ absurd (both_ways _ refl (subst (λ o. opens_lock q.rec.view lock o ≡ true) z h))
            | inr (inl z) ↦ subst (λ v. opens_lock v lock (p.rows j).proof ≡ true) z.0 (subst (λ o. opens_lock q.rec.view lock o ≡ true) z.1 h)
            | inr (inr z) ↦ absurd (no₃ z.2)
          ]

      was_waiting : (x : List ℕ) → q.rec.proposal ≡ waiting x → p.rec.proposal ≡ waiting x
      was_waiting x h =
          elim e.proposal [
            | inl z ↦ sym z.1 ∙ h
            | inr (inl z) ↦ absurd (let a = z.1 in let y : ◌≡◌ {A = ℕ} 0 1 = cc in omega arith)
            | inr (inr (inl z)) ↦ absurd (no₄ z.2)
            | inr (inr (inr z)) ↦ absurd (let a = z.3 in let y : ◌≡◌ {A = ℕ} 0 1 = cc in omega arith)
          ]

      lock_same : q.rec.field 9 ≡ p.rec.field 9
      lock_same = elim (e.field 9) [ inl z ↦ z.0 | inr z ↦ absurd (no₈ (let a = z.0 in omega arith)) ]

      pub waits_kept : Waits g q
      waits_kept =
          record {
            why = λ x h.
                let o = w.why x (was_waiting x h) in (
                  subst (λ (f : Keyed). equal f.value x ≡ false) (sym lock_same) o.0,
                  elim (cases_Bool (lock_opened g q)) [
                    | inr b ↦ b
                    | inl b ↦ absurd (both_ways _ o.1
                        (laws.more_voucher (λ j. opens_lock q.rec.view (p.rec.field 9) (q.rows j).proof) (λ j. opens_lock p.rec.view (p.rec.field 9) (p.rows j).proof)
                        (λ j _ _ z. opens_before (p.rec.field 9) j z)
                        (subst (λ (f : Keyed). voucher g (λ j. opens_lock q.rec.view f (q.rows j).proof) ≡ true) lock_same b)))
                  ],
                );
          }
