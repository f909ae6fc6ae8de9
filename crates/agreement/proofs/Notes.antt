-- The log of a party against its record: kept by every part of a step, never unsaid, and what is new in it.
use Rattle.std.proofs.Common.{◌≡◌, ℕ, suc, ◌<◌, ◌≤◌, true, ◌⊎◌, List, Some, None, Option, refl, inr, arith}
use Rattle.std.proofs.lemmas.Bool.Decides.{nat_tests}
use Rattle.messages.specs.Messages.{Msg}
use Rattle.rules.specs.Party.{Setting, Record, Party}
use Rattle.rules.specs.Tests.{voted}
use Rattle.agreement.proofs.History.{Log, echo_of, said_now, note}
use Rattle.agreement.proofs.Effects.{Effect}

-- a log that agrees with a record
pub record LogOk (log : Log) (r : Record) : Type 0 where
  pub begun : 0 < r.view
  -- in the present view the record says it all, later ones are empty
  pub now : (k : ℕ) → log.said k r.view ≡ said_now r k
  pub later : (k v : ℕ) → r.view < v → log.said k v ≡ None
  pub zero : (k : ℕ) → log.said k 0 ≡ None
  -- a field is the last view in which its stage was said
  pub seen : (k : ℕ) → 6 ≤ k → k ≤ 9 → (r.field k).at ≤ r.view
  pub top : (k : ℕ) → 6 ≤ k → k ≤ 9 → 0 < (r.field k).at → log.said k (r.field k).at ≡ Some (r.field k).value
  pub bound : (k v : ℕ) → 6 ≤ k → k ≤ 9 → (r.field k).at < v → log.said k v ≡ None
  pub offered_now : log.offered r.view ≡ r.offer
  pub offered_later : (v : ℕ) → r.view < v → log.offered v ≡ None
  pub suggested_now : log.suggested r.view ≡ Some r.suggest
  pub suggested_later : (v : ℕ) → r.view < v → log.suggested v ≡ None
  pub proved_now : log.proved r.view ≡ Some r.proof
  pub proved_later : (v : ℕ) → r.view < v → log.proved v ≡ None
  -- an echo was made before a lock of its view, or on the value of that lock
  pub direct_later : (v : ℕ) → r.view < v → log.direct v ≡ None
  pub direct_now : (log.direct r.view ≡ None) ⊎ (log.direct r.view ≡ echo_of r.proposal)
  pub echoes : (v : ℕ) → (log.said 5 v ≡ None) ⊎ ((log.said 5 v ≡ log.direct v) ⊎ (log.said 5 v ≡ log.said 9 v))

-- nothing that was said is unsaid
abbrev pub Still : {X : Type 0} → (ℕ → Option X) → (ℕ → Option X) → Type 0
Still a b = (v : ℕ) → (a v ≡ None) ⊎ (b v ≡ a v)

pub record Grows (a b : Log) : Type 0 where
  pub said : (k : ℕ) → Still (a.said k) (b.said k)
  pub offered : Still a.offered b.offered
  pub suggested : Still a.suggested b.suggested
  pub proved : Still a.proved b.proved
  pub direct : Still a.direct b.direct

pub same_log : (a : Log) → Grows a a
same_log a = record { said = λ k v. inr refl; offered = λ v. inr refl; suggested = λ v. inr refl; proved = λ v. inr refl; direct = λ v. inr refl }

module _ (g : Setting) (me : ℕ) (log : Log) (p : Party) (m : Msg) (q : Party) (ok : LogOk log p.rec) (e : Effect g me p m q) where
  -- within a view a record says more, never less
  pub now_grows : (k : ℕ) → q.rec.view ≡ p.rec.view → (said_now p.rec k ≡ None) ⊎ (said_now q.rec k ≡ said_now p.rec k)
  now_grows k v = let f = e.field k in let x = e.proposal in grind (arith, nat_tests)

  -- what a new view starts with
  now_empty : (k : ℕ) → p.rec.view < q.rec.view → said_now q.rec k ≡ None
  now_empty k v = let f = e.field k in let x = e.proposal in let s = ok.seen k in grind (arith, nat_tests)

  said_grows : (k : ℕ) → Still (log.said k) ((note log q.rec).said k)
  said_grows k v =
      let a = e.view in
      let b = ok.later k v in
      let c = ok.now k in
      let d = now_grows k in
      grind (arith, nat_tests)

  direct_grows : Still log.direct (note log q.rec).direct
  direct_grows v = grind (arith, nat_tests)

  pub log_grows : Grows log (note log q.rec)
  log_grows =
      record {
        said = said_grows;
        offered = λ v. let a = e.view in let b = ok.offered_later v in let c = ok.offered_now in let d = e.offer in grind (arith, nat_tests);
        suggested = λ v. let a = e.view in let b = ok.suggested_later v in let c = ok.suggested_now in let d = e.suggest in grind (arith, nat_tests);
        proved = λ v. let a = e.view in let b = ok.proved_later v in let c = ok.proved_now in let d = e.proof in grind (arith, nat_tests);
        direct = direct_grows;
      }

  -- a field that stays, or moves up to the view
  pub field_seen : (k : ℕ) → 6 ≤ k → k ≤ 9 → (q.rec.field k).at ≤ q.rec.view
  field_seen k lo hi = let f = e.field k in let s = ok.seen k in let a = e.view in grind (arith, nat_tests)

  pub field_top : (k : ℕ) → 6 ≤ k → k ≤ 9 → 0 < (q.rec.field k).at → (note log q.rec).said k (q.rec.field k).at ≡ Some (q.rec.field k).value
  field_top k lo hi pos = let f = e.field k in let s = ok.seen k in let t = ok.top k in let a = e.view in grind (arith, nat_tests)

  pub field_bound : (k v : ℕ) → 6 ≤ k → k ≤ 9 → (q.rec.field k).at < v → (note log q.rec).said k v ≡ None
  field_bound k v lo hi lt = let f = e.field k in let s = ok.seen k in let t = ok.bound k v in let a = e.view in grind (arith, nat_tests)

  -- a stage said now was not said before: its quorum stands in the rows
  pub vote_new : (k v : ℕ) (y : List ℕ) → 6 ≤ k → k ≤ 9 → (note log q.rec).said k v ≡ Some y →
      (log.said k v ≡ Some y) ⊎ ((v ≡ q.rec.view) × (k ≡ suc m.kind) × (y ≡ m.value) × (voted g q m.kind m.value ≡ true))
  vote_new k v y lo hi h =
      let f = e.field k in
      let s = ok.seen k in
      let n = ok.now k in
      let a = e.view in
      grind (arith, nat_tests)
