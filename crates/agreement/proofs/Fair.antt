-- What rows and messages hold of an honest sender is what its log says.
use Rattle.std.proofs.Common.{◌≡◌, ℕ, ◌≤◌, ◌⊎◌, List, Some, None, Option, sym, ap, ◌∙◌, subst, inl, inr, arith}
use Rattle.messages.specs.Messages.{Msg}
use Rattle.rules.specs.Party.{Setting, Row, Party}
use Rattle.agreement.proofs.History.{Log}
use Rattle.agreement.proofs.Effects.{Effect, Entry, suggest_in, proof_in}
use Rattle.agreement.proofs.Posts.{Post}
use Rattle.agreement.proofs.Notes.{LogOk, Grows}

-- an entry that is empty or what the log shows
abbrev pub Shows : {X : Type 0} → Option X → Option X → Type 0
Shows o said = (o ≡ None) ⊎ (o ≡ said)

-- a row that a party in this view keeps of an honest sender
pub record RowFair (log : Log) (end : Option (List ℕ)) (view : ℕ) (row : Row) : Type 0 where
  pub vote : (k : ℕ) → 5 ≤ k → k ≤ 9 → Shows (row.vote k) (log.said k view)
  pub suggest : Shows row.suggest (log.suggested view)
  pub proof : Shows row.proof (log.proved view)
  pub told : Shows row.done end

-- a message of an honest sender
pub record MsgFair (log : Log) (end : Option (List ℕ)) (m : Msg) : Type 0 where
  pub vote : 5 ≤ m.kind → m.kind ≤ 9 → log.said m.kind m.view ≡ Some m.value
  pub suggest : m.kind ≡ 2 → log.suggested m.view ≡ Some (suggest_in m)
  pub proof : m.kind ≡ 3 → log.proved m.view ≡ Some (proof_in m)
  pub propose : m.kind ≡ 4 → log.offered m.view ≡ Some (record { at = m.key; value = m.value })
  pub told : m.kind ≡ 10 → end ≡ Some m.value

shows_grows : {X : Type 0} (o a b : Option X) → (a ≡ None) ⊎ (b ≡ a) → Shows o a → Shows o b
shows_grows o a b s h = grind arith

some_grows : {X : Type 0} (x : X) (a b : Option X) → (a ≡ None) ⊎ (b ≡ a) → a ≡ Some x → b ≡ Some x
some_grows x a b s h = grind arith

module _ (a b : Log) (c d : Option (List ℕ)) (s : Grows a b) (t : (c ≡ None) ⊎ (d ≡ c)) where
  pub row_grows : (v : ℕ) (r : Row) → RowFair a c v r → RowFair b d v r
  row_grows v r h =
      record {
        vote = λ k lo hi. shows_grows _ _ _ (s.said k v) (h.vote k lo hi);
        suggest = shows_grows _ _ _ (s.suggested v) h.suggest;
        proof = shows_grows _ _ _ (s.proved v) h.proof;
        told = shows_grows _ _ _ t h.told;
      }

  pub msg_grows : (m : Msg) → MsgFair a c m → MsgFair b d m
  msg_grows m h =
      record {
        vote = λ lo hi. some_grows _ _ _ (s.said m.kind m.view) (h.vote lo hi);
        suggest = λ k. some_grows _ _ _ (s.suggested m.view) (h.suggest k);
        proof = λ k. some_grows _ _ _ (s.proved m.view) (h.proof k);
        propose = λ k. some_grows _ _ _ (s.offered m.view) (h.propose k);
        told = λ k. some_grows _ _ _ t (h.told k);
      }

-- an entry after a part of a step, from the entry before and the message
module _ (g : Setting) (me : ℕ) (p : Party) (m : Msg) (q : Party) where
  entry-step : {X : Type 0} (e : Row → Option X) (kind : ℕ) (x : X) (j : ℕ) (said : ℕ → Option X) → Entry g me p m q e kind x j → Shows (e (p.rows j)) (said p.rec.view) →
      (m.from ≡ j → m.kind ≡ kind → said m.view ≡ Some x) → Shows (e (q.rows j)) (said q.rec.view)
  entry-step e kind x j said (inl a) h f = inl a
  entry-step e kind x j said (inr (inl a)) h f =
      let v = a.0 in
      elim h [ inl z ↦ inl (a.1 ∙ z) | inr z ↦ inr (a.1 ∙ z ∙ ap said (sym v)) ]
  entry-step e kind x j said (inr (inr a)) h f =
      let v = a.0 in
      let u = a.3 in
      inr (a.5 ∙ sym (f a.1 a.2) ∙ ap said (u ∙ sym v))

  pub row_step : Effect g me p m q → (j : ℕ) (log : Log) (end : Option (List ℕ)) → RowFair log end p.rec.view (p.rows j) → (m.from ≡ j → MsgFair log end m) →
      RowFair log end q.rec.view (q.rows j)
  row_step e j log end h f =
      record {
        vote = λ k lo hi. entry-step (λ r. r.vote k) k m.value j (log.said k) (e.row_vote j k) (h.vote k lo hi)
            (λ i q. subst (λ n. log.said n m.view ≡ Some m.value) q ((f i).vote (omega arith) (omega arith)));
        suggest = entry-step (λ r. r.suggest) 2 (suggest_in m) j log.suggested (e.row_suggest j) h.suggest (λ i q. (f i).suggest q);
        proof = entry-step (λ r. r.proof) 3 (proof_in m) j log.proved (e.row_proof j) h.proof (λ i q. (f i).proof q);
        told = elim (e.row_done j) [
          | inl z ↦ elim h.told [ inl y ↦ inl (z ∙ y) | inr y ↦ inr (z ∙ y) ]
          | inr z ↦ inr (z.3 ∙ sym ((f z.0).told z.1))
        ];
      }

-- a post is fair by what its sender holds
pub post_fair : (g : Setting) (me : ℕ) (p q : Party) (m : Msg) (log : Log) → LogOk log q.rec → Post g me p q m → MsgFair log q.rec.done m
post_fair g me p q m log ok h =
    record {
      vote = λ lo hi. let z = h.vote lo hi in ap (log.said m.kind) z.0 ∙ ok.now m.kind ∙ z.1;
      suggest = λ k. let z = h.suggest k in ap log.suggested z.0 ∙ ok.suggested_now ∙ ap Some (sym z.1);
      proof = λ k. let z = h.proof k in ap log.proved z.0 ∙ ok.proved_now ∙ ap Some (sym z.1);
      propose = λ k. let z = h.propose k in ap log.offered z.0 ∙ ok.offered_now ∙ z.1;
      told = λ k. (h.done k).2;
    }
