-- How many messages a step posts.
use Rattle.std.proofs.Common.{ℕ, ◌+◌, ◌*◌, ◌≤◌, not, ◌&&◌, ◌||◌, eqb, ltb, leb, List, length, Some, None, Option, arith}
use Rattle.std.proofs.lemmas.Bool.{cond_both}
use Rattle.values.specs.Same.{equal}
use Rattle.messages.specs.Messages.{Msg}
use Rattle.rules.specs.Party.{Setting, Suggest, Proposal, nothing, waiting, echoed, dropped, Party, Step, still, and_then, none}
use Rattle.rules.specs.Thresholds.{primary, vouched, reached}
use Rattle.rules.specs.Tests.{heeded, lock_opened, voted, done_vouched, done_agreed, best}
use Rattle.rules.specs.Step.{step, react, on_timer, enter, on_request, on_suggest, told_suggest, propose, propose_due, wake, wake_proposal, on_propose, lock_fits, may_wait, on_proof, on_vote, told_vote, announce_due, on_lock, on_done, told_done, join_done, decide, aborts, join_abort, leave, on_abort}
use Rattle.rules.specs.Facts.{PostsFew}
use Rattle.rules.proofs.Sent.{if_few, append_few, to_each_short, made-few, suggest-few}

pub record Few (b : ℕ) (s : Step) : Type 0 where
  pub few : length s.posts ≤ b

few-still : (b : ℕ) (p : Party) → Few b (still p)
few-still b p = record { few = omega arith }

few_more : (a b : ℕ) (s : Step) → a ≤ b → Few a s → Few b s
few_more a b s l h = record { few = omega (arith, h.few) }

few-then : (a b : ℕ) (s : Step) (next : Party → Step) → Few a s → ((q : Party) → Few b (next q)) → Few (a + b) (and_then s next)
few-then a b s next h k = record { few = append_few a b s.posts (next s.after).posts h.few (k s.after).few }

module _ (g : Setting) (me : ℕ) where
  abbrev n : ℕ
  n = g.n

  few-propose : (p : Party) (o : Option Suggest) → Few n (propose g me p o)
  few-propose p None = few-still _ _
  few-propose p (Some s) = record { few = to_each_short _ _ n }

  few-suggest : (p : Party) (m : Msg) → Few n (on_suggest g me p m)
  unfolding on_suggest
  few-suggest p m =
      cond_both (propose_due g me (told_suggest g me p m)) _ _ (Few n) (λ _. few-propose (told_suggest g me p m) (best g (told_suggest g me p m) g.n)) (λ _. few-still _ _)

  few-request : (p : Party) (m : Msg) → Few 8 (on_request g me p m)
  unfolding on_request
  few-request p m =
      record {
        few = cond_both (eqb m.view p.rec.view) _ _ (λ (xs : List Msg). length xs ≤ 8)
            (λ _. append_few 1 7 _ _ (suggest-few g me p.rec m.from) (made-few g me p.rec m.from)) (λ _. omega arith);
      }

  few-wake_proposal : (x : Proposal) (p : Party) → Few n (wake_proposal g me x p)
  few-wake_proposal nothing p = few-still _ _
  few-wake_proposal (waiting x) p =
      cond_both (equal (p.rec.field 9).value x || lock_opened g p) _ _ (Few n) (λ _. record { few = to_each_short _ _ n }) (λ _. few-still _ _)
  few-wake_proposal (echoed x) p = few-still _ _
  few-wake_proposal dropped p = few-still _ _

  few-wake : (p : Party) → Few n (wake g me p)
  unfolding wake
  few-wake p = few-wake_proposal p.rec.proposal p

  few-proof : (p : Party) (m : Msg) → Few n (on_proof g me p m)
  unfolding on_proof
  few-proof p m = few-wake _

  few-on_propose : (p : Party) (m : Msg) → Few n (on_propose g me p m)
  unfolding on_propose
  few-on_propose p m =
      cond_both (not (g.allows m.value)) _ _ (Few n) (λ _. few-still _ _)
      (λ _. cond_both (lock_fits g me p.rec m.value) _ _ (Few n) (λ _. record { few = to_each_short _ _ n })
      (λ _. cond_both (may_wait g me p.rec m.key) _ _ (Few n) (λ _. few-wake _) (λ _. few-still _ _)))

  few-vote : (p : Party) (m : Msg) → Few n (on_vote g me p m)
  unfolding on_vote
  few-vote p m =
      cond_both (announce_due g me (told_vote g me p m) m.kind m.value) _ _ (Few n) (λ _. record { few = to_each_short _ _ n }) (λ _. few-still _ _)

  few-lock : (p : Party) (m : Msg) → Few n (on_lock g me p m)
  unfolding on_lock
  few-lock p m =
      cond_both (none (told_vote g me p m).rec.done && voted g (told_vote g me p m) 9 m.value) _ _ (Few n)
      (λ _. record { few = to_each_short _ _ n }) (λ _. few-still _ _)

  few-join_done : (p : Party) (x : List ℕ) → Few n (join_done g me p x)
  few-join_done p x =
      cond_both (none p.rec.done && done_vouched g p x) _ _ (Few n) (λ _. record { few = to_each_short _ _ n }) (λ _. few-still _ _)

  few-decide : (x : List ℕ) (p : Party) → Few 0 (decide g me x p)
  few-decide x p = cond_both (done_agreed g p x) _ _ (Few 0) (λ _. few-still _ _) (λ _. few-still _ _)

  few-done : (p : Party) (m : Msg) → Few (n + 0) (on_done g me p m)
  unfolding on_done
  few-done p m = few-then n 0 _ _ (few-join_done (told_done g me p m) m.value) (few-decide m.value)

  pub few-enter : (p : Party) (v : ℕ) → Few (n + (1 + n)) (enter g me p v)
  unfolding enter
  few-enter p v =
      record { few = append_few n (1 + n) _ _ (to_each_short _ _ n) (append_few 1 n _ _ (if_few (eqb (p.rows (primary g v)).request v) _) (to_each_short _ _ n)) }

  few-leave : (p : Party) → Few (n + (1 + n)) (leave g me p)
  unfolding leave
  few-leave p = cond_both (leb p.rec.view (reached g (aborts g me p))) _ _ (Few (n + (1 + n))) (λ _. few-enter _ _) (λ _. few-still _ _)

  few-join_abort : (p : Party) → Few n (join_abort g me p)
  unfolding join_abort
  few-join_abort p =
      cond_both (ltb (aborts g me p me) (vouched g (aborts g me p))) _ _ (Few n) (λ _. record { few = to_each_short _ _ n }) (λ _. few-still _ _)

  few-abort : (p : Party) (m : Msg) → Few (n + (n + (1 + n))) (on_abort g me p m)
  unfolding on_abort
  few-abort p m = few-then n (n + (1 + n)) _ _ (few-join_abort _) few-leave

  pub few-timer : (p : Party) → Few (n + (n + (1 + n))) (on_timer g me p)
  unfolding on_timer
  few-timer p =
      few-then n (n + (1 + n)) _ _
      (cond_both (ltb (aborts g me p me) p.rec.view) _ _ (Few n) (λ _. record { few = to_each_short _ _ n }) (λ _. few-still _ _)) few-leave

  abbrev top : ℕ
  top = 3 * n + 8

  few-react : (p : Party) (m : Msg) → Few top (react g me p m)
  few-react p m =
      cond_both (eqb m.kind 1) _ _ (Few top) (λ _. few_more _ _ _ (omega arith) (few-request p m))
      (λ _. cond_both (eqb m.kind 2) _ _ (Few top) (λ _. few_more _ _ _ (omega arith) (few-suggest p m))
      (λ _. cond_both (eqb m.kind 3) _ _ (Few top) (λ _. few_more _ _ _ (omega arith) (few-proof p m))
      (λ _. cond_both (eqb m.kind 4) _ _ (Few top) (λ _. few_more _ _ _ (omega arith) (few-on_propose p m))
      (λ _. cond_both (leb m.kind 7) _ _ (Few top) (λ _. few_more _ _ _ (omega arith) (few-vote p m))
      (λ _. cond_both (eqb m.kind 8) _ _ (Few top) (λ _. few_more _ _ _ (omega arith) (few-then n n _ _ (few-vote p m) few-wake))
      (λ _. cond_both (eqb m.kind 9) _ _ (Few top) (λ _. few_more _ _ _ (omega arith) (few-lock p m))
      (λ _. cond_both (eqb m.kind 10) _ _ (Few top) (λ _. few_more _ _ _ (omega arith) (few-done p m))
      (λ _. few_more _ _ _ (omega arith) (few-abort p m)))))))))

  pub few-step : (p : Party) (m : Msg) → Few top (step g me p m)
  unfolding step
  few-step p m = cond_both (heeded g me p m) _ _ (Few top) (λ _. few-react p m) (λ _. few-still _ _)

pub posts-few : PostsFew
posts-few =
    record {
      by_message = λ g me p m. (few-step g me p m).few;
      by_timer = λ g me p. let h = (few-timer g me p).few in omega arith;
      by_entry = λ g me p v. let h = (few-enter g me p v).few in omega arith;
    }
