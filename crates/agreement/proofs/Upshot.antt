-- What follows from the invariant at one state, collected for the other counts.
use Rattle.std.proofs.Common.{◌≡◌, ℕ, suc, ◌<◌, ◌≤◌, true, false, List, Some, None, Option, refl, ap, subst, inl, inr, arith}
use Rattle.std.proofs.lemmas.Bool.{cases_lt}
use Rattle.rules.specs.Party.{Suggest, Proof, Party, none}
use Rattle.agreement.proofs.History.{Log}
use Rattle.agreement.proofs.World.{World, Cert, none_some, cert_has}
use Rattle.agreement.proofs.Locks.{Asked, Locked, one_view, locked, one_locked, said_allowed}
use Rattle.agreement.proofs.Keys.{Told}
use Rattle.agreement.proofs.Fair.{RowFair}
use Rattle.agreement.proofs.Invariant.{Proved, Suggested, Inv}

pub record Upshot (w : World) (parties : ℕ → Party) (said : ℕ → Log) : Type 0 where
  -- a field is the last view in which its stage was said, with the value said there
  pub last : (i k v : ℕ) (x : List ℕ) → w.honest i ≡ true → 6 ≤ k → k ≤ 9 → (said i).said k v ≡ Some x → v ≤ ((parties i).rec.field k).at
  pub field : (i k : ℕ) → w.honest i ≡ true → 6 ≤ k → k ≤ 9 → 0 < ((parties i).rec.field k).at →
      (said i).said k ((parties i).rec.field k).at ≡ Some ((parties i).rec.field k).value
  pub begun : (i k v : ℕ) (x : List ℕ) → w.honest i ≡ true → (said i).said k v ≡ Some x → 0 < v
  -- a stage rests on a quorum that said the one before
  pub stage : (i k v : ℕ) (x : List ℕ) → w.honest i ≡ true → 5 ≤ k → k ≤ 8 → (said i).said (suc k) v ≡ Some x → Cert w (λ j. (said j).said k v) x
  -- one view, one value, from key1 on; a value echoed in a view was proposed in it
  pub one_view : (i j k l v : ℕ) (x y : List ℕ) → 6 ≤ k → k ≤ 9 → 6 ≤ l → l ≤ 9 → w.honest i ≡ true → w.honest j ≡ true →
      (said i).said k v ≡ Some x → (said j).said l v ≡ Some y → x ≡ y
  pub echo : (i v : ℕ) (x : List ℕ) → w.honest i ≡ true → (said i).said 5 v ≡ Some x → Asked w said v x
  pub allowed : (i k v : ℕ) (x : List ℕ) → w.honest i ≡ true → 5 ≤ k → k ≤ 9 → (said i).said k v ≡ Some x → w.g.allows x ≡ true
  -- what a quorum has locked is the only value of key1 from that view on
  pub locks_hold : (j u v : ℕ) (x y : List ℕ) → u ≤ v → Cert w (λ i. (said i).said 9 u) x → w.honest j ≡ true → (said j).said 6 v ≡ Some y → x ≡ y
  -- a done rests on a quorum of locks, and all dones are for one value
  pub done : (i : ℕ) (x : List ℕ) → w.honest i ≡ true → (parties i).rec.done ≡ Some x → Locked w said x
  pub one_done : (i j : ℕ) (x y : List ℕ) → w.honest i ≡ true → w.honest j ≡ true → (parties i).rec.done ≡ Some x → (parties j).rec.done ≡ Some y → x ≡ y
  -- a decided party has said done, and so has a quorum
  pub decided : (i : ℕ) (x : List ℕ) → w.honest i ≡ true → (parties i).rec.decision ≡ Some x → ((parties i).rec.done ≡ Some x) × Cert w (λ j. (parties j).rec.done) x
  -- previous keys
  pub key : (i k : ℕ) → w.honest i ≡ true → 6 ≤ k → k ≤ 7 → Told ((said i).said k) ((parties i).rec.field k) ((parties i).rec.previous k)
  pub proved : (i v : ℕ) (pf : Proof) → w.honest i ≡ true → (said i).proved v ≡ Some pf → Proved (said i) v pf
  pub suggested : (i v : ℕ) (s : Suggest) → w.honest i ≡ true → (said i).suggested v ≡ Some s → Suggested w (said i) v s
  -- rows hold of an honest sender what its log says
  pub rows : (i j : ℕ) → w.honest i ≡ true → w.honest j ≡ true → RowFair (said j) (parties j).rec.done (parties i).rec.view ((parties i).rows j)

module _ (w : World) (parties : ℕ → Party) (said : ℕ → Log) (inv : Inv w parties said) where
  pub one_done : (i j : ℕ) (x y : List ℕ) → w.honest i ≡ true → w.honest j ≡ true → (parties i).rec.done ≡ Some x → (parties j).rec.done ≡ Some y → x ≡ y
  one_done i j x y hi hj a b = one_locked w said inv.core x y (inv.done_why i x hi a) (inv.done_why j y hj b)

  -- a done that is there, and one of another party
  done-like : (i j : ℕ) (o : Option (List ℕ)) (x : List ℕ) → w.honest i ≡ true → w.honest j ≡ true → (parties i).rec.done ≡ o → none o ≡ false → (parties j).rec.done ≡ Some x → o ≡ Some x
  done-like i j None x hi hj e n d = absurd (let z : ◌≡◌ {A = ℕ} 0 1 = grind arith in omega arith)
  done-like i j (Some y) x hi hj e n d = ap Some (one_done i j y x hi hj e d)

  pub decided-done : (i : ℕ) (x : List ℕ) → w.honest i ≡ true → (parties i).rec.decision ≡ Some x → ((parties i).rec.done ≡ Some x) × Cert w (λ j. (parties j).rec.done) x
  decided-done i x hi d =
      let o = inv.decided_why i x hi d in
      let c = cert_has w _ x o.0 in
      (done-like i c.0 (parties i).rec.done x hi c.1 refl o.1 c.2, o.0)

  pub upshot : Upshot w parties said
  upshot =
      record {
        last = λ i k v x hi lo up h. elim (cases_lt ((parties i).rec.field k).at v) [ inl c ↦ none_some _ x ((inv.ok i hi).bound k v lo up c) h | inr c ↦ c ];
        field = λ i k hi lo up pos. (inv.ok i hi).top k lo up pos;
        begun = λ i k v x hi h. elim (cases_lt 0 v) [
          | inl c ↦ c
          | inr c ↦ none_some _ x ((inv.ok i hi).zero k) (subst (λ n. (said i).said k n ≡ Some x) (let q : v ≡ 0 = omega arith in q) h)
        ];
        stage = inv.core.stage;
        one_view = one_view w said inv.core;
        echo = inv.core.echo;
        allowed = λ i k v x hi lo up h. said_allowed w said inv.core i k v x lo up hi h;
        locks_hold = λ j u v x y le c hj h. locked w said inv.core (suc v) u v j x y (omega arith) le c hj h;
        done = inv.done_why;
        one_done = one_done;
        decided = decided-done;
        key = inv.told;
        proved = inv.proved;
        suggested = inv.suggested;
        rows = inv.rows;
      }
