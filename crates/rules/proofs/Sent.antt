-- Laws of the lists of posts: how long they are, and what holds of every message in them.
use Rattle.std.proofs.Common.{◌≡◌, ℕ, zero, suc, ◌+◌, ◌≤◌, Bool, true, false, cond, eqb, List, [], ◌∷◌, ◌++◌, length, Some, None, Option, refl, ◌∙◌, arith}
use Rattle.std.specs.List.{ContainsAt as Has, AllByRecursion as All}
use Rattle.std.proofs.ByRecursion.{All-append, all-has}
use Rattle.std.proofs.lemmas.List.{length-append}
use Rattle.std.proofs.lemmas.Bool.{eqb-true}
use Rattle.std.proofs.lemmas.Bool.Decides.{nat_tests}
use Rattle.messages.specs.Messages.{Msg}
use Rattle.rules.specs.Counting.{count}
use Rattle.rules.specs.Party.{Setting, Keyed, Proposal, nothing, waiting, echoed, dropped, Record}
use Rattle.rules.specs.Thresholds.{primary}
use Rattle.rules.specs.Posts.{to_each, made, made_offer, made_echo, made_vote, suggest_to, proof_msg, propose_msg, vote_msg, suggest_msg}
use Rattle.rules.proofs.Counts.{count_le}

one_at_most : {X : Type 0} (b : Bool) (x : X) → length (cond b (x ∷ []) []) ≡ cond b 1 0
one_at_most true x = refl
one_at_most false x = refl

pub if_few : {X : Type 0} (b : Bool) (x : X) → length (cond b (x ∷ []) []) ≤ 1
if_few true x = omega arith
if_few false x = omega arith

pub append_few : {X : Type 0} (a b : ℕ) (xs ys : List X) → length xs ≤ a → length ys ≤ b → length (xs ++ ys) ≤ a + b
append_few a b xs ys h k = omega (arith, length-append xs ys)

pub to_each-count : (who : ℕ → Bool) (what : ℕ → Msg) (k : ℕ) → length (to_each who what k) ≡ count who k
unfolding to_each
to_each-count who what zero = refl
to_each-count who what (suc k) =
    let ih = to_each-count who what k in
    let e = one_at_most (who (suc k)) (what (suc k)) in
    length-append (to_each who what k) _ ∙ (grind (arith, nat_tests))

pub to_each_short : (who : ℕ → Bool) (what : ℕ → Msg) (k : ℕ) → length (to_each who what k) ≤ k
to_each_short who what k = omega (arith, to_each-count who what k, count_le who k)

module _ (P : Msg → Type 0) where
  pub all_one : (b : Bool) (m : Msg) → (b ≡ true → P m) → All P (cond b (m ∷ []) [])
  all_one true m h = (h refl, tt)
  all_one false m h = tt

  -- what holds of the message to each party that passes holds of all
  pub all_each : (who : ℕ → Bool) (what : ℕ → Msg) (k : ℕ) → ((j : ℕ) → 1 ≤ j → j ≤ k → who j ≡ true → P (what j)) → All P (to_each who what k)
  unfolding to_each
  all_each who what zero h = tt
  all_each who what (suc k) h =
      All-append P (to_each who what k) _ (all_each who what k (λ j i l. h j i (omega arith)))
      (all_one (who (suc k)) (what (suc k)) (h (suc k) (omega arith) (omega arith)))

-- every message in the list is the one to some party that passes
pub in_each : (who : ℕ → Bool) (what : ℕ → Msg) (k : ℕ) (m : Msg) → Has (to_each who what k) m →
    (j : ℕ) × (1 ≤ j) × (j ≤ k) × (who j ≡ true) × (what j ≡ m)
in_each who what k m h =
    all-has (λ m. (j : ℕ) × (1 ≤ j) × (j ≤ k) × (who j ≡ true) × (what j ≡ m)) (to_each who what k) m
    (all_each _ who what k (λ j i l e. (j, i, l, e, refl))) h

module _ (g : Setting) (me : ℕ) where
  offer-few : (v : ℕ) (o : Option Keyed) (to : ℕ) → length (made_offer g me v o to) ≤ 1
  offer-few v None to = omega arith
  offer-few v (Some k) to = omega arith

  echo-few : (v : ℕ) (o : Proposal) (to : ℕ) → length (made_echo g me v o to) ≤ 1
  echo-few v nothing to = omega arith
  echo-few v (waiting x) to = omega arith
  echo-few v (echoed x) to = omega arith
  echo-few v dropped to = omega arith

  vote-few : (kind : ℕ) (r : Record) (to : ℕ) → length (made_vote g me kind r to) ≤ 1
  vote-few kind r to = if_few (eqb (r.field kind).at r.view) (vote_msg g me kind r.view (r.field kind).value to)

  -- seven messages may be made in a view: proof, propose, echo, key1, key2, key3 and lock
  pub made-few : (r : Record) (to : ℕ) → length (made g me r to) ≤ 7
  unfolding made
  made-few r to =
      let e = append_few 1 5 _ _ (offer-few r.view r.offer to) (append_few 1 4 _ _ (echo-few r.view r.proposal to)
      (append_few 1 3 _ _ (vote-few 6 r to) (append_few 1 2 _ _ (vote-few 7 r to) (append_few 1 1 _ _ (vote-few 8 r to) (vote-few 9 r to))))) in
      omega arith

  pub suggest-few : (r : Record) (to : ℕ) → length (suggest_to g me r to) ≤ 1
  suggest-few r to = if_few (eqb to (primary g r.view)) (suggest_msg g me r.view r.suggest to)

  module _ (P : Msg → Type 0) where
    all_offer : (v : ℕ) (o : Option Keyed) (to : ℕ) → ((k : Keyed) → o ≡ Some k → P (propose_msg g me v k to)) → All P (made_offer g me v o to)
    all_offer v None to h = tt
    all_offer v (Some k) to h = (h k refl, tt)

    all_echo : (v : ℕ) (o : Proposal) (to : ℕ) → ((x : List ℕ) → o ≡ echoed x → P (vote_msg g me 5 v x to)) → All P (made_echo g me v o to)
    all_echo v nothing to h = tt
    all_echo v (waiting x) to h = tt
    all_echo v (echoed x) to h = (h x refl, tt)
    all_echo v dropped to h = tt

    all_vote : (kind : ℕ) (r : Record) (to : ℕ) → ((r.field kind).at ≡ r.view → P (vote_msg g me kind r.view (r.field kind).value to)) → All P (made_vote g me kind r to)
    all_vote kind r to h = all_one P (eqb (r.field kind).at r.view) _ (λ e. h (eqb-true _ _ e))

    -- what holds of each message that was made holds of all that a late party gets
    pub all_made : (r : Record) (to : ℕ) → P (proof_msg g me r.view r.proof to) →
        ((k : Keyed) → r.offer ≡ Some k → P (propose_msg g me r.view k to)) →
        ((x : List ℕ) → r.proposal ≡ echoed x → P (vote_msg g me 5 r.view x to)) →
        ((kind : ℕ) → 6 ≤ kind → kind ≤ 9 → (r.field kind).at ≡ r.view → P (vote_msg g me kind r.view (r.field kind).value to)) →
        All P (made g me r to)
    unfolding made
    all_made r to a b c d = (
      a,
      All-append P _ _ (all_offer r.view r.offer to b) (All-append P _ _ (all_echo r.view r.proposal to c)
          (All-append P _ _ (all_vote 6 r to (d 6 (omega arith) (omega arith))) (All-append P _ _ (all_vote 7 r to (d 7 (omega arith) (omega arith)))
          (All-append P _ _ (all_vote 8 r to (d 8 (omega arith) (omega arith))) (all_vote 9 r to (d 9 (omega arith) (omega arith))))))),
    )
