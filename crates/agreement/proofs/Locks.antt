-- Locks hold: what a quorum has locked stays the only value of key1, so all that honest parties say of done is one value.
use Rattle.std.proofs.Common.{◌≡◌, ℕ, zero, suc, ◌<◌, ◌≤◌, true, ◌⊎◌, List, Some, sym, subst, inl, inr, arith}
use Rattle.std.proofs.lemmas.Bool.{cases_lt}
use Rattle.rules.specs.Thresholds.{primary}
use Rattle.agreement.proofs.History.{Log}
use Rattle.agreement.proofs.World.{World, Cert, certs_share, cert_has}

-- some honest party has said key1 in a view from u up to, not including, v, for another value than y
pub record Other (w : World) (said : ℕ → Log) (u v : ℕ) (y : List ℕ) : Type 0 where
  pub view : ℕ
  pub party : ℕ
  pub value : List ℕ
  pub from : u ≤ view
  pub before : view < v
  pub honest : w.honest party ≡ true
  pub differs : value ≡ y → ⊥
  pub has : (said party).said 6 view ≡ Some value

-- a value that may be echoed in view v: it is allowed, and an honest primary of v has proposed it
pub record Asked (w : World) (said : ℕ → Log) (v : ℕ) (x : List ℕ) : Type 0 where
  pub allowed : w.g.allows x ≡ true
  pub offered : w.honest (primary w.g v) ≡ true → (key : ℕ) × ((said (primary w.g v)).offered v ≡ Some (record { at = key; value = x }))

-- why the honest parties have said what they have said
pub record Core (w : World) (said : ℕ → Log) : Type 0 where
  -- kinds 5 to 8 make kinds 6 to 9: a quorum said the one before, in the same view for the same value
  pub stage : (i k v : ℕ) (x : List ℕ) → w.honest i ≡ true → 5 ≤ k → k ≤ 8 → (said i).said (suc k) v ≡ Some x → Cert w (λ j. (said j).said k v) x
  -- behind a key1 stand echoes that were made before a lock of their view
  pub first : (i v : ℕ) (x : List ℕ) → w.honest i ≡ true → (said i).said 6 v ≡ Some x → Cert w (λ j. (said j).direct v) x
  -- such an echo passes over a lock on another value only where key1 was said for yet another since
  pub passes : (i v u : ℕ) (x y : List ℕ) → w.honest i ≡ true → (said i).direct v ≡ Some x → u < v → (said i).said 9 u ≡ Some y → (y ≡ x) ⊎ Other w said u v y
  pub echo : (i v : ℕ) (x : List ℕ) → w.honest i ≡ true → (said i).said 5 v ≡ Some x → Asked w said v x

-- a value that a quorum has locked
abbrev pub Locked : World → (ℕ → Log) → List ℕ → Type 0
Locked w said x = (v : ℕ) × Cert w (λ j. (said j).said 9 v) x

module _ (w : World) (said : ℕ → Log) (c : Core w said) where
  -- from a certificate of a stage to one of the stage before
  pub back : (k v : ℕ) (x : List ℕ) → 5 ≤ k → k ≤ 8 → Cert w (λ j. (said j).said (suc k) v) x → Cert w (λ j. (said j).said k v) x
  back k v x lo hi a = let s = cert_has w _ x a in c.stage s.0 k v x s.1 lo hi s.2

  -- from any stage down to key1, and to the echoes
  pub to-key1 : (k v : ℕ) (x : List ℕ) → 6 ≤ k → k ≤ 9 → Cert w (λ j. (said j).said k v) x → Cert w (λ j. (said j).said 6 v) x
  to-key1 zero v x lo hi a = absurd (omega arith)
  to-key1 (suc k) v x lo hi a =
      elim (cases_lt k 6) [
        | inl l ↦ subst (λ n. Cert w (λ j. (said j).said n v) x) (let q : suc k ≡ 6 = omega arith in q) a
        | inr l ↦ to-key1 k v x l (omega arith) (back k v x (omega arith) (omega arith) a)
      ]

  pub said-key1 : (i k v : ℕ) (x : List ℕ) → 6 ≤ k → k ≤ 9 → w.honest i ≡ true → (said i).said k v ≡ Some x → (j : ℕ) × (w.honest j ≡ true) × ((said j).said 6 v ≡ Some x)
  said-key1 i zero v x lo hi h e = absurd (omega arith)
  said-key1 i (suc k) v x lo hi h e =
      elim (cases_lt k 6) [
        | inl l ↦ (i, h, subst (λ n. (said i).said n v ≡ Some x) (let q : suc k ≡ 6 = omega arith in q) e)
        | inr l ↦ cert_has w _ x (to-key1 k v x l (omega arith) (c.stage i k v x h (omega arith) (omega arith) e))
      ]

  pub said-echo : (i k v : ℕ) (x : List ℕ) → 6 ≤ k → k ≤ 9 → w.honest i ≡ true → (said i).said k v ≡ Some x → (j : ℕ) × (w.honest j ≡ true) × ((said j).said 5 v ≡ Some x)
  said-echo i k v x lo hi h e = let s = said-key1 i k v x lo hi h e in cert_has w _ x (c.stage s.0 5 v x s.1 (omega arith) (omega arith) s.2)

  -- ## One view, one value
  pub one_key1 : (i j v : ℕ) (x y : List ℕ) → w.honest i ≡ true → w.honest j ≡ true → (said i).said 6 v ≡ Some x → (said j).said 6 v ≡ Some y → x ≡ y
  one_key1 i j v x y hi hj a b =
      let s = certs_share w _ _ x y (c.first i v x hi a) (c.first j v y hj b) in
      let p = s.2 in
      let q = s.3 in
      cc

  -- of any two stages from key1 on
  pub one_view : (i j k l v : ℕ) (x y : List ℕ) → 6 ≤ k → k ≤ 9 → 6 ≤ l → l ≤ 9 → w.honest i ≡ true → w.honest j ≡ true →
      (said i).said k v ≡ Some x → (said j).said l v ≡ Some y → x ≡ y
  one_view i j k l v x y klo khi llo lhi hi hj a b =
      let s = said-key1 i k v x klo khi hi a in
      let t = said-key1 j l v y llo lhi hj b in
      one_key1 s.0 t.0 v x y s.1 t.1 s.2 t.2

  -- ## Locks hold
  -- by the number of views up to v
  pub locked : (b u v j : ℕ) (x y : List ℕ) → v < b → u ≤ v → Cert w (λ i. (said i).said 9 u) x → w.honest j ≡ true → (said j).said 6 v ≡ Some y → x ≡ y
  locked zero u v j x y lt le a hj e = absurd (omega arith)
  locked (suc b) u v j x y lt le a hj e = go (cases_lt u v) (c.first j v y hj e) (locked b)
    where
      go : (u < v) ⊎ (v ≤ u) → Cert w (λ j. (said j).direct v) y →
          ((u v j : ℕ) (x y : List ℕ) → v < b → u ≤ v → Cert w (λ i. (said i).said 9 u) x → w.honest j ≡ true → (said j).said 6 v ≡ Some y → x ≡ y) → x ≡ y
      go (inr same) m ih =
          let q : u ≡ v = omega arith in
          let s = cert_has w _ x (to-key1 9 u x (omega arith) (omega arith) a) in
          one_key1 s.0 j v x y s.1 hj (subst (λ n. (said s.0).said 6 n ≡ Some x) q s.2) e
      go (inl more) m ih =
          let s = certs_share w _ _ y x m a in
          elim (c.passes s.0 v u y x s.1 s.2 more s.3) [
            | inl q ↦ q
            | inr o ↦ absurd (o.differs (sym (ih u o.view o.party x o.value (let h = o.before in omega arith) o.from a o.honest o.has)))
          ]

  pub one_locked : (x y : List ℕ) → Locked w said x → Locked w said y → x ≡ y
  one_locked x y a b =
      let p = cert_has w _ x (to-key1 9 a.0 x (omega arith) (omega arith) a.1) in
      let q = cert_has w _ y (to-key1 9 b.0 y (omega arith) (omega arith) b.1) in
      elim (cases_lt a.0 b.0) [
        | inl l ↦ locked (suc b.0) a.0 b.0 q.0 x y (omega arith) (omega arith) a.1 q.1 q.2
        | inr l ↦ sym (locked (suc a.0) b.0 a.0 p.0 y x (omega arith) l b.1 p.1 p.2)
      ]

  -- what was said by any stage is allowed
  pub stage_allowed : (i k v : ℕ) (x : List ℕ) → 6 ≤ k → k ≤ 9 → w.honest i ≡ true → (said i).said k v ≡ Some x → w.g.allows x ≡ true
  stage_allowed i k v x lo hi h e = let s = said-echo i k v x lo hi h e in (c.echo s.0 v x s.1 s.2).allowed

  pub locked_allowed : (x : List ℕ) → Locked w said x → w.g.allows x ≡ true
  locked_allowed x a = let s = cert_has w _ x a.1 in stage_allowed s.0 9 a.0 x (omega arith) (omega arith) s.1 s.2

  pub said_allowed : (i k v : ℕ) (x : List ℕ) → 5 ≤ k → k ≤ 9 → w.honest i ≡ true → (said i).said k v ≡ Some x → w.g.allows x ≡ true
  said_allowed i k v x lo hi h e =
      elim (cases_lt k 6) [
        | inl l ↦ (c.echo i v x h (subst (λ n. (said i).said n v ≡ Some x) (let q : k ≡ 5 = omega arith in q) e)).allowed
        | inr l ↦ stage_allowed i k v x l hi h e
      ]
