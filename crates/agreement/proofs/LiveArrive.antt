-- Once no message between honest parties waits or was lost, all that they have said has arrived; so nobody is left open.
use Rattle.std.proofs.Common.{◌≡◌, ℕ, zero, suc, ◌≤◌, Bool, true, false, ◌⊎◌, List, Some, None, Option, sym, refl, ap, ◌∙◌, subst, inl, inr, arith}
use Rattle.std.proofs.lemmas.Bool.{cases_lt}
use Rattle.std.proofs.lemmas.Bool.Decides.{nat_tests}
use Rattle.messages.specs.Messages.{Msg}
use Rattle.rules.specs.Party.{Setting, Keyed, Suggest, Proof, nothing, Party, none}
use Rattle.rules.specs.Thresholds.{quorum, voucher, primary}
use Rattle.rules.specs.Posts.{view_msg, suggest_msg, proof_msg, propose_msg, vote_msg}
use Rattle.rules.specs.Tests.{heeded, is_nothing}
use Rattle.rules.specs.Quorums.{Quorums}
use Rattle.agreement.proofs.History.{Log, said_now}
use Rattle.agreement.proofs.Mail.{In}
use Rattle.agreement.proofs.LiveFacts.{Facts, Arrived, DonesArrived}
use Rattle.agreement.proofs.Delivery.{Delivery}
use Rattle.agreement.proofs.Live.{one_decided, none_open}

-- a message of each kind that an open party in its view does not heed is stored already
module _ (g : Setting) (i j : ℕ) (p : Party) (idle : p.rec.decision ≡ None) where
  vote_stored : (kind : ℕ) (x : List ℕ) → 5 ≤ kind → kind ≤ 9 → heeded g i p (vote_msg g j kind p.rec.view x i) ≡ false → none ((p.rows j).vote kind) ≡ false
  vote_stored kind x l m h = (grind (arith, nat_tests))

  proof_stored : (x : Proof) → heeded g i p (proof_msg g j p.rec.view x i) ≡ false → none (p.rows j).proof ≡ false
  proof_stored x h = (grind (arith, nat_tests))

  suggest_stored : (x : Suggest) → i ≡ primary g p.rec.view → heeded g i p (suggest_msg g j p.rec.view x i) ≡ false → none (p.rows j).suggest ≡ false
  suggest_stored x q h = (grind (arith, nat_tests))

  propose_stored : (k : Keyed) → j ≡ primary g p.rec.view → heeded g i p (propose_msg g j p.rec.view k i) ≡ false → is_nothing g p.rec.proposal ≡ false
  propose_stored k q h = (grind (arith, nat_tests))

  done_stored : (x : List ℕ) → heeded g i p (vote_msg g j 10 0 x i) ≡ false → none (p.rows j).done ≡ false
  done_stored x h = (grind (arith, nat_tests))

  request_stored : (v : ℕ) → heeded g i p (view_msg g j 1 v i) ≡ false → v ≤ (p.rows j).request
  request_stored v h = (grind (arith, nat_tests))

kept_some : {X : Type 0} (o t : Option X) (x : X) → none o ≡ false → (o ≡ None) ⊎ (o ≡ t) → t ≡ Some x → o ≡ Some x
kept_some o t x n (inl e) q = absurd (let z : ◌≡◌ {A = ℕ} 0 1 = grind arith in omega arith)
kept_some o t x n (inr e) q = e ∙ q

-- nothing is under way between honest parties
module _ (g : Setting) (hon : ℕ → Bool) (ring : (j : ℕ) → hon j ≡ true → (1 ≤ j) × (j ≤ g.n)) (laws : Quorums g.n hon (quorum g) (voucher g))
    (party : ℕ → Party) (log : ℕ → Log) (posted wire lost : List Msg) (f : Facts g hon party log) (d : Delivery g hon party posted wire lost)
    (quiet : (m : Msg) → In m wire ⊎ In m lost → hon m.from ≡ true → hon m.to ≡ true → ⊥) where
  spent : (m : Msg) → In m posted → hon m.from ≡ true → hon m.to ≡ true → 1 ≤ m.kind → m.kind ≤ 10 → heeded g m.to (party m.to) m ≡ false
  spent m h a b l u =
      elim (d.fate m h a b l u) [
        | inl w ↦ absurd (quiet m (inl w) a b)
        | inr (inl w) ↦ absurd (quiet m (inr w) a b)
        | inr (inr s) ↦ s
      ]

  dones_arrived : DonesArrived g hon party log
  dones_arrived i j x hi hj idle e =
      let r = ring i hi in
      let s = (d.sent j i hj r.0 r.1).done x e in
      let n = done_stored g i j (party i) idle x (spent (vote_msg g j 10 0 x i) s hj hi (omega arith) (omega arith)) in
      kept_some ((party i).rows j).done (party j).rec.done x n (f.rows i j hi hj).done e

  -- nobody is decided, and all are in view v
  module _ (v : ℕ) (all-open : (i : ℕ) → hon i ≡ true → (party i).rec.decision ≡ None) (here : (i : ℕ) → hon i ≡ true → (party i).rec.view ≡ v) (hp : hon (primary g v) ≡ true) where
    same_view : (i j : ℕ) → hon i ≡ true → hon j ≡ true → (party j).rec.view ≡ (party i).rec.view
    same_view i j hi hj = here j hj ∙ sym (here i hi)

    asked_all : (i j : ℕ) → hon i ≡ true → hon j ≡ true → ((party j).rows i).request ≡ (party j).rec.view
    asked_all i j hi hj =
        let r = ring j hj in
        let s = (d.sent i j hi r.0 r.1).request in
        let le = request_stored g j i (party j) (all-open j hj) (party i).rec.view (spent (view_msg g i 1 (party i).rec.view j) s hi hj (omega arith) (omega arith)) in
        let up = d.requests j i hj hi in
        let e = same_view j i hj hi in
        omega arith

    said_in : (i j kind : ℕ) → hon i ≡ true → hon j ≡ true → 5 ≤ kind → kind ≤ 9 → (log j).said kind (party i).rec.view ≡ said_now (party j).rec kind
    said_in i j kind hi hj l m = subst (λ u. (log j).said kind u ≡ said_now (party j).rec kind) (same_view i j hi hj) (f.safe.now j kind hj l m)

    votes_arrived : (i j kind : ℕ) → hon i ≡ true → hon j ≡ true → 5 ≤ kind → kind ≤ 9 → ((party i).rows j).vote kind ≡ said_now (party j).rec kind
    votes_arrived i j kind hi hj l m = go (said_now (party j).rec kind) refl
      where
        go : (o : Option (List ℕ)) → said_now (party j).rec kind ≡ o → ((party i).rows j).vote kind ≡ o
        go None e = elim ((f.rows i j hi hj).vote kind l m) [ inl z ↦ z | inr z ↦ z ∙ (said_in i j kind hi hj l m ∙ e) ]
        go (Some x) e =
            let r = ring i hi in
            let s = (d.sent j i hj r.0 r.1).vote kind x l m (asked_all i j hi hj) e in
            let s₁ = spent (vote_msg g j kind (party j).rec.view x i) s hj hi (omega arith) (omega arith) in
            let s₂ : heeded g i (party i) (vote_msg g j kind (party i).rec.view x i) ≡ false = subst (λ u. heeded g i (party i) (vote_msg g j kind u x i) ≡ false) (same_view i j hi hj) s₁ in
            let n = vote_stored g i j (party i) (all-open i hi) kind x l m s₂ in
            kept_some _ _ x n ((f.rows i j hi hj).vote kind l m) (said_in i j kind hi hj l m ∙ e)

    proofs_arrived : (i j : ℕ) → hon i ≡ true → hon j ≡ true → ((party i).rows j).proof ≡ Some (party j).rec.proof
    proofs_arrived i j hi hj =
        let r = ring i hi in
        let q = same_view i j hi hj in
        let s = (d.sent j i hj r.0 r.1).proof (asked_all i j hi hj) in
        let s₁ = spent (proof_msg g j (party j).rec.view (party j).rec.proof i) s hj hi (omega arith) (omega arith) in
        let s₂ : heeded g i (party i) (proof_msg g j (party i).rec.view (party j).rec.proof i) ≡ false =
        subst (λ u. heeded g i (party i) (proof_msg g j u (party j).rec.proof i) ≡ false) q s₁ in
        let n = proof_stored g i j (party i) (all-open i hi) (party j).rec.proof s₂ in
        kept_some _ _ _ n (f.rows i j hi hj).proof (subst (λ u. (log j).proved u ≡ Some (party j).rec.proof) q (f.safe.proved j hj))

    suggests_arrived : (j : ℕ) → hon j ≡ true → ((party (primary g v)).rows j).suggest ≡ Some (party j).rec.suggest
    suggests_arrived j hj =
        let i = primary g v in
        let r = ring (primary g v) hp in
        let q = same_view (primary g v) j hp hj in
        let at_j : primary g v ≡ primary g (party j).rec.view = ap (primary g) (sym (here j hj)) in
        let at_i : primary g v ≡ primary g (party (primary g v)).rec.view = ap (primary g) (sym (here (primary g v) hp)) in
        let s = (d.sent j (primary g v) hj r.0 r.1).suggest (asked_all (primary g v) j hp hj) at_j in
        let s₁ = spent (suggest_msg g j (party j).rec.view (party j).rec.suggest (primary g v)) s hj hp (omega arith) (omega arith) in
        let s₂ : heeded g (primary g v) (party (primary g v)) (suggest_msg g j (party (primary g v)).rec.view (party j).rec.suggest (primary g v)) ≡ false =
        subst (λ u. heeded g (primary g v) (party (primary g v)) (suggest_msg g j u (party j).rec.suggest (primary g v)) ≡ false) q s₁ in
        let n = suggest_stored g (primary g v) j (party (primary g v)) (all-open (primary g v) hp) (party j).rec.suggest at_i s₂ in
        kept_some _ _ _ n (f.rows (primary g v) j hp hj).suggest (subst (λ u. (log j).suggested u ≡ Some (party j).rec.suggest) q (f.safe.suggested j hj))

    propose_arrived : (i : ℕ) (k : Keyed) → hon i ≡ true → (party (primary g v)).rec.offer ≡ Some k → ((party i).rec.proposal ≡ nothing → ⊥)
    propose_arrived i k hi e untold =
        let r = ring i hi in
        let q = same_view i (primary g v) hi hp in
        let at_i : primary g v ≡ primary g (party i).rec.view = ap (primary g) (sym (here i hi)) in
        let s = (d.sent (primary g v) i hp r.0 r.1).propose k (asked_all i (primary g v) hi hp) e in
        let s₁ = spent (propose_msg g (primary g v) (party (primary g v)).rec.view k i) s hp hi (omega arith) (omega arith) in
        let s₂ : heeded g i (party i) (propose_msg g (primary g v) (party i).rec.view k i) ≡ false =
        subst (λ u. heeded g i (party i) (propose_msg g (primary g v) u k i) ≡ false) q s₁ in
        let n = propose_stored g i (primary g v) (party i) (all-open i hi) k at_i s₂ in
        let n₁ : is_nothing g nothing ≡ false = rw untold at n in
        let z : ◌≡◌ {A = ℕ} 0 1 = grind arith in
        omega arith

    arrived : Arrived g hon party log v
    arrived = record { view = here; votes = votes_arrived; proofs = proofs_arrived; suggests = suggests_arrived; proposal = propose_arrived }

  -- all that are open share view v, whose primary is honest: nobody is open
  pub nobody_open : (v : ℕ) → ((i : ℕ) → hon i ≡ true → (party i).rec.decision ≡ None → (party i).rec.view ≡ v) → hon (primary g v) ≡ true →
      (i : ℕ) → hon i ≡ true → (party i).rec.decision ≡ None → ⊥
  nobody_open v same hp i hi idle =
      elim (some_or_none g.n) [
        | inl (m, x, hm, e) ↦ one_decided g hon laws party log f dones_arrived m x hm e i hi idle
        | inr h ↦
            let all-open = λ (j : ℕ) (hj : hon j ≡ true). h j (ring j hj).0 (ring j hj).1 hj in
            none_open g hon laws party log f v (arrived v all-open (λ j hj. same j hj (all-open j hj)) hp) hp dones_arrived i hi idle
      ]
    where
      one : (j : ℕ) (o : Option (List ℕ)) → (party j).rec.decision ≡ o → (b : Bool) → hon j ≡ b →
          ((m : ℕ) × (x : List ℕ) × (hon m ≡ true) × ((party m).rec.decision ≡ Some x)) ⊎ (hon j ≡ true → (party j).rec.decision ≡ None)
      one j None e b q = inr (λ _. e)
      one j (Some x) e true q = inl (j, x, q, e)
      one j (Some x) e false q = inr (λ h. absurd (let z : ◌≡◌ {A = ℕ} 0 1 = grind arith in omega arith))

      some_or_none : (n : ℕ) → ((m : ℕ) × (x : List ℕ) × (hon m ≡ true) × ((party m).rec.decision ≡ Some x)) ⊎
          ((j : ℕ) → 1 ≤ j → j ≤ n → hon j ≡ true → (party j).rec.decision ≡ None)
      some_or_none zero = inr (λ j a b. absurd (omega arith))
      some_or_none (suc n) =
          elim (some_or_none n) [
            | inl h ↦ inl h
            | inr h ↦ elim (one (suc n) (party (suc n)).rec.decision refl (hon (suc n)) refl) [
              | inl t ↦ inl t
              | inr t ↦ inr (λ j a b. elim (cases_lt n j) [
                | inl l ↦ let q : suc n ≡ j = omega arith in subst (λ j. hon j ≡ true → (party j).rec.decision ≡ None) q t
                | inr l ↦ h j a l
              ])
            ]
          ]
