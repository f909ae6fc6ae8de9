-- Each post of a part of a step is its sender's own, and says what the sender's record then holds.
use Rattle.std.proofs.Common.{◌≡◌, ℕ, zero, suc, ◌<◌, ◌≤◌, Bool, true, false, cond, ◌&&◌, ◌||◌, eqb, ltb, leb, List, [], ◌∷◌, ◌++◌, Some, None, Option, refl, arith}
use Rattle.std.specs.List.{AllByRecursion as All}
use Rattle.std.proofs.ByRecursion.{All-append}
use Rattle.std.proofs.lemmas.Bool.{cond_both, and_parts, eqb-true, leb-true}
use Rattle.std.proofs.lemmas.Bool.Decides.{nat_tests}
use Rattle.std.proofs.lemmas.Nat.{mod_below}
use Rattle.values.specs.Same.{equal}
use Rattle.messages.specs.Messages.{Msg}
use Rattle.rules.specs.Party.{Setting, Keyed, Suggest, Proposal, nothing, waiting, echoed, dropped, Party, Step, with_row, with_request, still, and_then, none}
use Rattle.rules.specs.Thresholds.{primary, vouched, reached}
use Rattle.rules.specs.Posts.{to_each, proof_msg, made_offer, made_echo, made_vote, made, suggest_to}
use Rattle.rules.specs.Tests.{lock_opened, voted, done_vouched, done_agreed}
use Rattle.rules.specs.Step.{enter, on_request, told_suggest, propose, propose_due, on_suggest, echo, wake_proposal, told_vote, announce_due, on_vote, on_lock, say_done, told_done, decide, on_done, aborts, say_abort, join_abort, leave}
use Rattle.agreement.proofs.History.{said_now}
use Rattle.agreement.proofs.Effects.{suggest_in, proof_in}

-- one post of party `me`, which was p and is now q
pub record Post (g : Setting) (me : ℕ) (p q : Party) (m : Msg) : Type 0 where
  pub from : m.from ≡ me
  pub to_low : 1 ≤ m.to
  pub to_high : m.to ≤ g.n
  pub vote : 5 ≤ m.kind → m.kind ≤ 9 → (m.view ≡ q.rec.view) × (said_now q.rec m.kind ≡ Some m.value)
  pub suggest : m.kind ≡ 2 → (m.view ≡ q.rec.view) × (suggest_in m ≡ q.rec.suggest) × (m.to ≡ primary g q.rec.view)
  pub proof : m.kind ≡ 3 → (m.view ≡ q.rec.view) × (proof_in m ≡ q.rec.proof)
  pub propose : m.kind ≡ 4 → (m.view ≡ q.rec.view) × (q.rec.offer ≡ Some (record { at = m.key; value = m.value }))
  pub done : m.kind ≡ 10 → (m.view ≡ 0) × (p.rec.done ≡ None) × (q.rec.done ≡ Some m.value)
  pub request : m.kind ≡ 1 → (p.rec.view < q.rec.view) × (m.view ≡ q.rec.view)
  pub abort : m.kind ≡ 11 → ((p.rows me).abort < m.view) × ((q.rows me).abort ≡ m.view)
  -- a message of a view goes only to a party that has asked for this view
  pub joined : 2 ≤ m.kind → m.kind ≤ 9 → (q.rows m.to).request ≡ q.rec.view
  pub known : (1 ≤ m.kind) × (m.kind ≤ 11)

pub record Posts (g : Setting) (me : ℕ) (p : Party) (s : Step) : Type 0 where
  pub each : All (Post g me p s.after) s.posts

module _ (P : Msg → Type 0) where
  pub all_if : (b : Bool) (m : Msg) → (b ≡ true → P m) → All P (cond b (m ∷ []) [])
  all_if true m h = (h refl, tt)
  all_if false m h = tt

  pub all_each : (who : ℕ → Bool) (what : ℕ → Msg) (n : ℕ) → ((j : ℕ) → 1 ≤ j → j ≤ n → who j ≡ true → P (what j)) → All P (to_each who what n)
  unfolding to_each
  all_each who what zero h = tt
  all_each who what (suc n) h =
      All-append P (to_each who what n) _ (all_each who what n (λ j a b. h j a (omega arith))) (all_if (who (suc n)) _ (h (suc n) (omega arith) (omega arith)))

module _ (g : Setting) (me : ℕ) (p : Party) (m : Msg) where
  abbrev S : Step → Type 0
  S = Posts g me p

  pub still-posts : (q : Party) → S (still q)
  still-posts q = record { each = tt }

  pub enter-posts : (v : ℕ) → p.rec.view < v → 0 < g.n → S (enter g me p v)
  unfolding enter
  enter-posts v h n =
      record {
        each = All-append _ _ _ (all_each _ _ _ _ (λ j a b c. grind (arith, nat_tests)))
            (All-append _ _ _ (all_if _ _ _ (λ c. let b = mod_below v g.n n in grind (arith, nat_tests))) (all_each _ _ _ _ (λ j a b c. grind (arith, nat_tests))));
      }

  pub echo-posts : (x : List ℕ) → S (echo g me p x)
  echo-posts x = record { each = all_each _ _ _ _ (λ j a b c. grind (arith, nat_tests)) }

  pub wake-posts : (x : Proposal) → S (wake_proposal g me x p)
  wake-posts nothing = still-posts _
  wake-posts (waiting x) = cond_both (equal (p.rec.field 9).value x || lock_opened g p) _ _ S (λ a. echo-posts x) (λ a. still-posts _)
  wake-posts (echoed x) = still-posts _
  wake-posts dropped = still-posts _

  propose-posts : (o : Option Suggest) → S (propose g me (told_suggest g me p m) o)
  propose-posts None = still-posts _
  propose-posts (Some s) = record { each = all_each _ _ _ _ (λ j a b c. grind (arith, nat_tests)) }

  pub suggest-posts : S (on_suggest g me p m)
  unfolding on_suggest
  suggest-posts = cond_both (propose_due g me (told_suggest g me p m)) _ _ S (λ d. propose-posts _) (λ d. still-posts _)

  pub vote-posts : 5 ≤ m.kind → m.kind ≤ 8 → S (on_vote g me p m)
  unfolding on_vote
  vote-posts lo hi =
      cond_both (announce_due g me (told_vote g me p m) m.kind m.value) _ _ S
      (λ d. record { each = all_each _ _ _ _ (λ j a b c. grind (arith, nat_tests)) }) (λ d. still-posts _)

  pub lock-posts : S (on_lock g me p m)
  unfolding on_lock
  lock-posts =
      cond_both (none p.rec.done && voted g (told_vote g me p m) 9 m.value) _ _ S
      (λ d. let a = and_parts (none p.rec.done) _ d in let a₀ = a.0 in record { each = all_each _ _ _ _ (λ j a b c. grind (arith, nat_tests)) }) (λ d. still-posts _)

  pub raise_posts : (u : ℕ) → (p.rows me).abort < u → S (say_abort g me p u)
  raise_posts u h = record { each = all_each _ _ _ _ (λ j a b c. grind (arith, nat_tests)) }

  pub join_posts : S (join_abort g me p)
  unfolding join_abort
  join_posts =
      cond_both (ltb (aborts g me p me) (vouched g (aborts g me p))) _ _ S (λ a. raise_posts _ (grind (arith, nat_tests))) (λ a. still-posts _)

  pub leave-posts : 0 < g.n → S (leave g me p)
  unfolding leave
  leave-posts n =
      cond_both (leb p.rec.view (reached g (aborts g me p))) _ _ S
      (λ a. enter-posts _ (let h = leb-true _ _ a in omega arith) n) (λ a. still-posts _)

  -- the end of a step on a done: what join_done posts, with the decision or without
  pub done-posts : S (on_done g me p m)
  unfolding on_done
  done-posts =
      cond_both (none p.rec.done && done_vouched g (told_done g me p m) m.value) _ _ (λ (s : Step). S (and_then s (decide g me m.value)))
      (λ d. let a = and_parts (none p.rec.done) _ d in let a₀ = a.0 in
      cond_both (done_agreed g (told_done g me p m) m.value) _ _ (λ (t : Step). S (and_then (say_done g me (told_done g me p m) m.value) (λ _. t)))
      (λ b. record { each = All-append _ _ [] (all_each _ _ _ _ (λ j a b c. grind (arith, nat_tests))) tt }) (λ b. record { each = All-append _ _ [] (all_each _ _ _ _ (λ j a b c. grind (arith, nat_tests))) tt }))
      (λ d. cond_both (done_agreed g (told_done g me p m) m.value) _ _ S (λ a. still-posts _) (λ a. still-posts _))

  -- ## A request is answered with what was made
  module _ (lo : 1 ≤ m.from) (hi : m.from ≤ g.n) (v : m.view ≡ p.rec.view) where
    abbrev Told : Msg → Type 0
    Told = Post g me p (with_row p m.from (with_request (p.rows m.from) m.view))

    offer-told : (o : Option Keyed) → p.rec.offer ≡ o → All Told (made_offer g me p.rec.view o m.from)
    offer-told None e = tt
    offer-told (Some k) e = (grind (arith, nat_tests), tt)

    echo-told : (x : Proposal) → p.rec.proposal ≡ x → All Told (made_echo g me p.rec.view x m.from)
    echo-told nothing e = tt
    echo-told (waiting x) e = tt
    echo-told (echoed x) e = (grind (arith, nat_tests), tt)
    echo-told dropped e = tt

    vote-told : (k : ℕ) → 6 ≤ k → k ≤ 9 → All Told (made_vote g me k p.rec m.from)
    vote-told k a b = all_if _ _ _ (λ c. grind (arith, nat_tests))

    proof-told : Told (proof_msg g me p.rec.view p.rec.proof m.from)
    proof-told = grind (arith, nat_tests)

    suggest-told : All Told (suggest_to g me p.rec m.from)
    suggest-told = all_if _ _ _ (λ c. grind (arith, nat_tests))

    made_told : All Told (suggest_to g me p.rec m.from ++ made g me p.rec m.from)
    unfolding made
    made_told =
        All-append _ _ _ suggest-told (
          proof-told,
          All-append _ _ _ (offer-told _ refl) (All-append _ _ _ (echo-told _ refl)
              (All-append _ _ _ (vote-told 6 (omega arith) (omega arith)) (All-append _ _ _ (vote-told 7 (omega arith) (omega arith))
              (All-append _ _ _ (vote-told 8 (omega arith) (omega arith)) (vote-told 9 (omega arith) (omega arith)))))),
        )

  pub request-posts : 1 ≤ m.from → m.from ≤ g.n → S (on_request g me p m)
  unfolding on_request
  request-posts lo hi =
      record { each = answers (eqb m.view p.rec.view) _ _ (λ e. made_told lo hi (eqb-true _ _ e)) }
    where
      answers : (b : Bool) (P : Msg → Type 0) (ms : List Msg) → (b ≡ true → All P ms) → All P (cond b ms [])
      answers true P ms h = h refl
      answers false P ms h = tt
