-- Echoes in the log: what lets a party echo, and which of its echoes were made before a lock of their view.
use Rattle.std.proofs.Common.{◌≡◌, ℕ, ◌<◌, ◌≤◌, true, false, eqb, ◌⊎◌, List, Some, None, Option, sym, refl, ap, ◌∙◌, subst, inl, inr, arith}
use Rattle.std.proofs.lemmas.Bool.{eqb-true, cases_lt, cases_eq, or_cases}
use Rattle.std.proofs.lemmas.Bool.Decides.{nat_tests}
use Rattle.values.specs.Same.{equal}
use Rattle.values.proofs.Same.{same_from_equal}
use Rattle.messages.specs.Messages.{Msg}
use Rattle.rules.specs.Party.{Keyed, Proof, Record, Party}
use Rattle.rules.specs.Tests.{below, up_to, opens_lock, lock_opened}
use Rattle.agreement.proofs.History.{Log, echo_of, said_now, note}
use Rattle.agreement.proofs.Effects.{Effect}
use Rattle.agreement.proofs.World.{World, voucher-has, none_some}
use Rattle.agreement.proofs.Notes.{LogOk, Grows, log_grows, field_seen, field_top, field_bound}

-- a stored proof that opens a lock
pub opens_parts : (v : ℕ) (lock : Keyed) (o : Option Proof) → opens_lock v lock o ≡ true →
    (pf : Proof) × (o ≡ Some pf) × (below pf.previous pf.key1.at ≡ true) × (pf.key1.at < v) ×
    ((up_to lock.at pf.previous ≡ true) ⊎ ((lock.at ≤ pf.key1.at) × (equal pf.key1.value lock.value ≡ false)))
opens_parts v lock None e = absurd (let z : ◌≡◌ {A = ℕ} 0 1 = grind arith in omega arith)
opens_parts v lock (Some pf) e = (pf, refl, grind (arith, nat_tests), grind (arith, nat_tests), grind (arith, nat_tests))

-- key ≤ previous < at
pub up_to_below : (k at : ℕ) (o : Option ℕ) → up_to k o ≡ true → below o at ≡ true → k < at
up_to_below k at None a b = absurd (let z : ◌≡◌ {A = ℕ} 0 1 = grind arith in omega arith)
up_to_below k at (Some p) a b = grind (arith, nat_tests)

-- in the present view the log shows the record's echo, elsewhere what it showed
module _ (log : Log) (r : Record) where
  echo-at : (v : ℕ) → (v ≡ r.view) ⊎ ((note log r).said 5 v ≡ log.said 5 v)
  echo-at v = grind (arith, nat_tests)

  echo_here : (note log r).said 5 r.view ≡ echo_of r.proposal
  echo_here = grind (arith, nat_tests)

  direct_at : (v : ℕ) → ((note log r).direct v ≡ log.direct v) ⊎ ((v ≡ r.view) × (log.direct v ≡ None) × ((r.field 9).at < v) × ((note log r).direct v ≡ echo_of r.proposal))
  direct_at v = grind (arith, nat_tests)

  note_now : (k : ℕ) → (note log r).said k r.view ≡ said_now r k
  note_now k = grind (arith, nat_tests)

  note_else : (k v : ℕ) → (v ≡ r.view → ⊥) → (note log r).said k v ≡ log.said k v
  note_else k v h = grind (arith, nat_tests)

  direct_here : (log.direct r.view ≡ None) ⊎ (log.direct r.view ≡ echo_of r.proposal) → ((note log r).direct r.view ≡ None) ⊎ ((note log r).direct r.view ≡ echo_of r.proposal)
  direct_here h = grind (arith, nat_tests)

  direct_first : log.direct r.view ≡ None → (r.field 9).at < r.view → (note log r).direct r.view ≡ echo_of r.proposal
  direct_first h lt = grind (arith, nat_tests)

  -- the parts of a log that show a record's view alone
  shows_now : ((note log r).offered r.view ≡ r.offer) × ((note log r).suggested r.view ≡ Some r.suggest) × ((note log r).proved r.view ≡ Some r.proof)
  shows_now = (grind (arith, nat_tests), grind (arith, nat_tests), grind (arith, nat_tests))

  shows_else : (v : ℕ) → r.view < v →
      ((note log r).offered v ≡ log.offered v) × ((note log r).suggested v ≡ log.suggested v) × ((note log r).proved v ≡ log.proved v) × ((note log r).direct v ≡ log.direct v)
  shows_else v h = (grind (arith, nat_tests), grind (arith, nat_tests), grind (arith, nat_tests), grind (arith, nat_tests))

-- an echo is direct, or on the value of the lock of its view
abbrev ToldEcho : Log → ℕ → Type 0
ToldEcho l v = (l.said 5 v ≡ None) ⊎ ((l.said 5 v ≡ l.direct v) ⊎ (l.said 5 v ≡ l.said 9 v))

told_else : (log : Log) (r : Record) (v : ℕ) → (v ≡ r.view → ⊥) → ToldEcho log v → ToldEcho (note log r) v
told_else log r v n h = grind (arith, nat_tests)

told-kept : {X : Type 0} (a b c a' b' c' : Option X) → a' ≡ a → (b ≡ None) ⊎ (b' ≡ b) → (c ≡ None) ⊎ (c' ≡ c) → (a ≡ None) ⊎ ((a ≡ b) ⊎ (a ≡ c)) → (a' ≡ None) ⊎ ((a' ≡ b') ⊎ (a' ≡ c'))
told-kept a b c a' b' c' e s t h = grind arith

module _ (w : World) where
  -- a lock that is opened is of an earlier view
  pub opened_below : (p : Party) → lock_opened w.g p ≡ true → (p.rec.field 9).at < p.rec.view
  opened_below p e =
      let s = voucher-has w (λ j. opens_lock p.rec.view (p.rec.field 9) (p.rows j).proof) e in
      let t = opens_parts p.rec.view (p.rec.field 9) (p.rows s.0).proof s.2 in
      go t.0 t.2 t.3 t.4
    where
      go : (pf : Proof) → below pf.previous pf.key1.at ≡ true → pf.key1.at < p.rec.view →
          (up_to (p.rec.field 9).at pf.previous ≡ true) ⊎ (((p.rec.field 9).at ≤ pf.key1.at) × (equal pf.key1.value (p.rec.field 9).value ≡ false)) →
          (p.rec.field 9).at < p.rec.view
      go pf b lt (inl u) = let z = up_to_below (p.rec.field 9).at pf.key1.at pf.previous u b in omega arith
      go pf b lt (inr u) = let z = u.0 in omega arith

  -- what lets a party with this lock echo x
  abbrev pub Opening : Keyed → List ℕ → Party → Type 0
  Opening lock x q = (lock.at ≡ 0) ⊎ ((equal lock.value x ≡ true) ⊎ (lock_opened w.g q ≡ true))

  -- an echo that was not there before
  pub record Fresh (p q : Party) (x : List ℕ) : Type 0 where
    pub view : q.rec.view ≡ p.rec.view
    pub fields : q.rec.field ≡ p.rec.field
    pub before : echo_of p.rec.proposal ≡ None
    pub after : echo_of q.rec.proposal ≡ Some x
    pub opening : Opening (p.rec.field 9) x q

  module _ (me : ℕ) (log : Log) (p : Party) (m : Msg) (q : Party) (ok : LogOk log p.rec) (e : Effect w.g me p m q) where
    echo_change : ((q.rec.view ≡ p.rec.view) × (echo_of q.rec.proposal ≡ echo_of p.rec.proposal)) ⊎
        (((p.rec.view < q.rec.view) × (echo_of q.rec.proposal ≡ None)) ⊎ ((x : List ℕ) × Fresh p q x))
    echo_change =
        elim e.proposal [
          | inl a ↦ inl (a.0, ap echo_of a.1)
          | inr (inl a) ↦ inr (inl (a.0, ap echo_of a.1))
          | inr (inr (inl a)) ↦ let n = a.1 in elim a.6 [
            | inl d ↦ inl (a.0, cc)
            | inr b ↦ elim b.1 [
              | inl c ↦ inl (a.0, let c₀ = c.0 in cc)
              | inr c ↦ let c₀ = c.0 in let c₁ = c.1 in
                  inr (inr (m.value, record { view = a.0; fields = a.5; before = ap echo_of n; after = ap echo_of c₀; opening = elim (or_cases (eqb (p.rec.field 9).at 0) _ c₁) [ inl z ↦ inl (eqb-true _ _ z) | inr z ↦ inr (inl z) ] }))
            ]
          ]
          | inr (inr (inr a)) ↦
              inr (inr (
                a.0,
                record {
                  view = a.1;
                  fields = a.4;
                  before = ap echo_of a.2;
                  after = ap echo_of a.3;
                  opening = elim a.5 [ inl z ↦ inr (inl z) | inr z ↦ inr (inr z) ];
                },
              ))
        ]

    lock_rises : (p.rec.field 9).at ≤ (q.rec.field 9).at
    lock_rises = elim (e.field 9) [ inl a ↦ (let b = ap (λ k. k.at) a.0 in omega arith) | inr a ↦ (let b = ap (λ k. k.at) a.5 in let c = a.3 in omega arith) ]

    -- an echo said now is fresh
    pub echo_new : (v : ℕ) (y : List ℕ) → (note log q.rec).said 5 v ≡ Some y → (log.said 5 v ≡ Some y) ⊎ ((v ≡ p.rec.view) × Fresh p q y)
    echo_new v y h = elim (echo-at log q.rec v) [ inr b ↦ inl (sym b ∙ h) | inl b ↦ here b (sym (echo_here log q.rec) ∙ subst (λ u. (note log q.rec).said 5 u ≡ Some y) b h) echo_change ]
      where
        here : v ≡ q.rec.view → echo_of q.rec.proposal ≡ Some y → ((q.rec.view ≡ p.rec.view) × (echo_of q.rec.proposal ≡ echo_of p.rec.proposal)) ⊎
            (((p.rec.view < q.rec.view) × (echo_of q.rec.proposal ≡ None)) ⊎ ((x : List ℕ) × Fresh p q x)) →
            (log.said 5 v ≡ Some y) ⊎ ((v ≡ p.rec.view) × Fresh p q y)
        here b h₁ (inl a) = inl (subst (λ u. log.said 5 u ≡ Some y) (sym (b ∙ a.0)) (ok.now 5 ∙ sym a.1 ∙ h₁))
        here b h₁ (inr (inl a)) = none_some _ y a.1 h₁
        here b h₁ (inr (inr a)) =
            let f = a.1.after in
            let c : a.0 ≡ y = cc in
            inr (b ∙ a.1.view, subst (Fresh p q) c a.1)

    pub direct_new : (v : ℕ) (y : List ℕ) → (note log q.rec).direct v ≡ Some y → (log.direct v ≡ Some y) ⊎ ((v ≡ p.rec.view) × ((p.rec.field 9).at < v) × Fresh p q y)
    direct_new v y h = elim (direct_at log q.rec v) [ inl b ↦ inl (sym b ∙ h) | inr b ↦ here b.0 b.1 b.2 (sym b.3 ∙ h) echo_change ]
      where
        here : v ≡ q.rec.view → log.direct v ≡ None → (q.rec.field 9).at < v → echo_of q.rec.proposal ≡ Some y →
            ((q.rec.view ≡ p.rec.view) × (echo_of q.rec.proposal ≡ echo_of p.rec.proposal)) ⊎
            (((p.rec.view < q.rec.view) × (echo_of q.rec.proposal ≡ None)) ⊎ ((x : List ℕ) × Fresh p q x)) →
            (log.direct v ≡ Some y) ⊎ ((v ≡ p.rec.view) × ((p.rec.field 9).at < v) × Fresh p q y)
        here b n lt h (inl a) =
            let u : v ≡ p.rec.view = b ∙ a.0 in
            let said : log.said 5 v ≡ Some y = subst (λ u. log.said 5 u ≡ Some y) (sym u) (ok.now 5 ∙ sym a.1 ∙ h) in
            elim (ok.echoes v) [
              | inl z ↦ none_some _ y z said
              | inr (inl z) ↦ none_some _ y n (sym z ∙ said)
              | inr (inr z) ↦ elim (cases_lt (p.rec.field 9).at v) [
                | inl c ↦ none_some _ y (ok.bound 9 v (omega arith) (omega arith) c) (sym z ∙ said)
                | inr c ↦ absurd (let d = lock_rises in omega arith)
              ]
            ]
        here b n lt h (inr (inl a)) = let a₁ = a.1 in absurd (let z : ◌≡◌ {A = ℕ} 0 1 = cc in omega arith)
        here b n lt h (inr (inr a)) =
            let f = a.1.after in
            let c : a.0 ≡ y = cc in
            let d : (q.rec.field 9).at ≡ (p.rec.field 9).at = ap (λ z. (z 9).at) a.1.fields in
            inr (b ∙ a.1.view, omega arith, subst (Fresh p q) c a.1)

    grown : Grows log (note log q.rec)
    grown = log_grows w.g me log p m q ok e

    up : p.rec.view ≤ q.rec.view
    up = elim e.view [ inl a ↦ omega arith | inr a ↦ omega arith ]

    -- an echo made in the view of the lock is on the lock's value
    late_echo : (x : List ℕ) → Fresh p q x → p.rec.view ≤ (p.rec.field 9).at → (note log q.rec).said 9 q.rec.view ≡ Some x
    late_echo x f le =
        let v = f.view in
        let c : (q.rec.field 9).at ≡ (p.rec.field 9).at = ap (λ z. (z 9).at) f.fields in
        let d : (q.rec.field 9).value ≡ (p.rec.field 9).value = ap (λ z. (z 9).value) f.fields in
        let s = ok.seen 9 (omega arith) (omega arith) in
        let b = ok.begun in
        let at : (q.rec.field 9).at ≡ q.rec.view = omega arith in
        elim f.opening [
          | inl z ↦ absurd (omega arith)
          | inr (inl z) ↦
              subst (λ u. (note log q.rec).said 9 u ≡ Some x) at
              (field_top w.g me log p m q ok e 9 (omega arith) (omega arith) (omega arith) ∙ ap Some (d ∙ same_from_equal _ _ z))
          | inr (inr z) ↦ absurd (let y = opened_below q z in omega arith)
        ]

    direct_now : ((note log q.rec).direct q.rec.view ≡ None) ⊎ ((note log q.rec).direct q.rec.view ≡ echo_of q.rec.proposal)
    direct_now = direct_here log q.rec (before echo_change)
      where
        before : ((q.rec.view ≡ p.rec.view) × (echo_of q.rec.proposal ≡ echo_of p.rec.proposal)) ⊎
            (((p.rec.view < q.rec.view) × (echo_of q.rec.proposal ≡ None)) ⊎ ((x : List ℕ) × Fresh p q x)) →
            (log.direct q.rec.view ≡ None) ⊎ (log.direct q.rec.view ≡ echo_of q.rec.proposal)
        before (inl a) = subst (λ u. (log.direct u ≡ None) ⊎ (log.direct u ≡ echo_of q.rec.proposal)) (sym a.0) (elim ok.direct_now [ inl z ↦ inl z | inr z ↦ inr (z ∙ sym a.1) ])
        before (inr (inl a)) = inl (ok.direct_later _ a.0)
        before (inr (inr a)) = inl (subst (λ u. log.direct u ≡ None) (sym a.1.view) (elim ok.direct_now [ inl z ↦ z | inr z ↦ z ∙ a.1.before ]))

    echoes : (v : ℕ) → ToldEcho (note log q.rec) v
    echoes v = elim (cases_eq v q.rec.view) [ inl b ↦ subst (ToldEcho (note log q.rec)) (sym b) (here echo_change) | inr b ↦ told_else log q.rec v b (ok.echoes v) ]
      where
        here : ((q.rec.view ≡ p.rec.view) × (echo_of q.rec.proposal ≡ echo_of p.rec.proposal)) ⊎
            (((p.rec.view < q.rec.view) × (echo_of q.rec.proposal ≡ None)) ⊎ ((x : List ℕ) × Fresh p q x)) → ToldEcho (note log q.rec) q.rec.view
        here (inl a) =
            let n : (note log q.rec).said 5 q.rec.view ≡ log.said 5 q.rec.view = echo_here log q.rec ∙ a.1 ∙ sym (ok.now 5) ∙ ap (log.said 5) (sym a.0) in
            told-kept _ _ _ _ _ _ n (grown.direct q.rec.view) (grown.said 9 q.rec.view) (ok.echoes q.rec.view)
        here (inr (inl a)) = inl (echo_here log q.rec ∙ a.1)
        here (inr (inr a)) =
            let f = a.1 in
            elim (cases_lt (p.rec.field 9).at p.rec.view) [
              | inl lt ↦
                  let c : (q.rec.field 9).at ≡ (p.rec.field 9).at = ap (λ z. (z 9).at) f.fields in
                  let v : q.rec.view ≡ p.rec.view = f.view in
                  let n : log.direct q.rec.view ≡ None = subst (λ u. log.direct u ≡ None) (sym v) (elim ok.direct_now [ inl z ↦ z | inr z ↦ z ∙ f.before ]) in
                  inr (inl (echo_here log q.rec ∙ sym (direct_first log q.rec n (omega arith))))
              | inr le ↦ inr (inr (echo_here log q.rec ∙ f.after ∙ sym (late_echo a.0 f le)))
            ]

    pub log_ok : LogOk (note log q.rec) q.rec
    log_ok =
        let n = shows_now log q.rec in
        record {
          begun = let a = ok.begun in let b = up in omega arith;
          now = note_now log q.rec;
          later = λ k v h. note_else log q.rec k v (λ z. omega arith) ∙ ok.later k v (let b = up in omega arith);
          zero = λ k. note_else log q.rec k 0 (λ z. let a = ok.begun in let b = up in omega arith) ∙ ok.zero k;
          seen = field_seen w.g me log p m q ok e;
          top = field_top w.g me log p m q ok e;
          bound = field_bound w.g me log p m q ok e;
          offered_now = n.0;
          suggested_now = n.1;
          proved_now = n.2;
          offered_later = λ v h. (shows_else log q.rec v h).0 ∙ ok.offered_later v (let b = up in omega arith);
          suggested_later = λ v h. (shows_else log q.rec v h).1 ∙ ok.suggested_later v (let b = up in omega arith);
          proved_later = λ v h. (shows_else log q.rec v h).2 ∙ ok.proved_later v (let b = up in omega arith);
          direct_later = λ v h. (shows_else log q.rec v h).3 ∙ ok.direct_later v (let b = up in omega arith);
          direct_now = direct_now;
          echoes = echoes;
        }
