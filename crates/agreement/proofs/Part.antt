-- All that is known of one part of a step, and whole steps by their parts.
use Rattle.std.proofs.Common.{ℕ, ◌<◌, ◌≤◌, refl, arith}
use Rattle.messages.specs.Messages.{Msg}
use Rattle.rules.specs.Party.{Setting, Party, Step, still, and_then}
use Rattle.rules.specs.Step.{wake}
use Rattle.agreement.proofs.Effects.{E, request_effect, enter_effect, suggest_effect, told_proof_effect, drop_effect, echo_effect, wait_effect, vote_effect, lock_effect, wake_effect, done_effect, raise_effect, told_abort_effect}
use Rattle.agreement.proofs.Posts.{Posts, still-posts, enter-posts, echo-posts, wake-posts, suggest-posts, vote-posts, lock-posts, raise_posts, done-posts, request-posts}
use Rattle.agreement.proofs.Walk.{Parts}
use Rattle.agreement.proofs.Drawn.{D, request_drawn, enter_drawn, suggest_drawn, proof_drawn, forbid_drawn, echo_drawn, wait_drawn, drop_drawn, wake_drawn, vote_drawn, lock_drawn, done_drawn, abort_drawn, raise_drawn}
use Rattle.agreement.proofs.Gives.{Gives, request_gives, enter_gives, suggest_gives, proof_gives, drop_gives, wait_gives, echo_gives, wake_gives, vote_gives, lock_gives, done_gives, abort_gives, raise_gives}

module _ (g : Setting) (me : ℕ) (m : Msg) where
  pub record Part (p : Party) (s : Step) : Type 0 where
    pub effect : E g me p m s
    pub posts : Posts g me p s
    pub drawn : D g me p m s
    pub gives : ((k : ℕ) → 6 ≤ k → k ≤ 9 → (p.rec.field k).at ≤ p.rec.view) → (j : ℕ) → 1 ≤ j → j ≤ g.n → Gives g me p j s

  -- a relation that holds of every part, and of one after another, by the parts
  module _ (some : 0 < g.n) (lo : 1 ≤ m.from) (hi : m.from ≤ g.n) (R : Party → Step → Type 0) (stay : (p : Party) → R p (still p)) (each : (p : Party) (s : Step) → Part p s → R p s)
      (then : (p : Party) (s : Step) (f : Party → Step) → R p s → R s.after (f s.after) → R p (and_then s f)) where
    pub by_parts : Parts g me m R
    unfolding wake
    by_parts =
        record {
          stay = stay;
          request = λ p k h. each p _ (record {
            effect = request_effect g me p m k h;
            posts = request-posts g me p m lo hi;
            drawn = request_drawn g me p m k h;
            gives = λ _ j l u. request_gives g me p m j l u k h;
          });
          enter = λ p v t h. each p _ (record {
            effect = enter_effect g me p m v h;
            posts = enter-posts g me p m v h some;
            drawn = enter_drawn g me p m v t h;
            gives = λ s j l u. enter_gives g me p m j l u v h (λ k a b. let c = s k a b in omega arith);
          });
          suggest = λ p n f. each p _ (record {
            effect = suggest_effect g me p m n.1 n.0 f;
            posts = suggest-posts g me p m;
            drawn = suggest_drawn g me p m n.0 f;
            gives = λ _ j l u. suggest_gives g me p m j l u;
          });
          proof = λ p n f. each p _ (record {
            effect = told_proof_effect g me p m n.1 n.0 f;
            posts = still-posts g me p m _;
            drawn = proof_drawn g me p m n.0 f;
            gives = λ _ j l u. proof_gives g me p m j l u;
          });
          forbid = λ p n f o a. each p _ (record {
            effect = drop_effect g me p m n.1 n.0 f o;
            posts = still-posts g me p m _;
            drawn = forbid_drawn g me p m n f o a;
            gives = λ _ j l u. drop_gives g me p m j l u o;
          });
          echo = λ p n f o a b. each p _ (record {
            effect = echo_effect g me p m n.1 n.0 f o a b;
            posts = echo-posts g me p m _;
            drawn = echo_drawn g me p m n f o;
            gives = λ _ j l u. echo_gives g me p m j l u m.value (rw o refl);
          });
          wait = λ p n f o a b c. each p _ (record {
            effect = wait_effect g me p m n.1 n.0 f o a b c;
            posts = still-posts g me p m _;
            drawn = wait_drawn g me p m n f o;
            gives = λ _ j l u. wait_gives g me p m j l u o;
          });
          drop = λ p n f o a b c. each p _ (record {
            effect = drop_effect g me p m n.1 n.0 f o;
            posts = still-posts g me p m _;
            drawn = drop_drawn g me p m n f o b c;
            gives = λ _ j l u. drop_gives g me p m j l u o;
          });
          wake = λ p t. each p _ (record {
            effect = wake_effect g me p m _ refl;
            posts = wake-posts g me p m _;
            drawn = wake_drawn g me p m t _ refl;
            gives = λ _ j l u. wake_gives g me p m j l u _ refl;
          });
          vote = λ p a b v f. each p _ (record {
            effect = vote_effect g me p m v a b f;
            posts = vote-posts g me p m a b;
            drawn = vote_drawn g me p m a b f;
            gives = λ _ j l u. vote_gives g me p m j l u a b;
          });
          lock = λ p n f. each p _ (record {
            effect = lock_effect g me p m n.1 n.0 f;
            posts = lock-posts g me p m;
            drawn = lock_drawn g me p m n.0 f;
            gives = λ _ j l u. lock_gives g me p m j l u;
          });
          done = λ p k f. each p _ (record {
            effect = done_effect g me p m k f;
            posts = done-posts g me p m;
            drawn = done_drawn g me p m k f;
            gives = λ _ j l u. done_gives g me p m j l u;
          });
          abort = λ p k. each p _ (record {
            effect = told_abort_effect g me p m k;
            posts = still-posts g me p m _;
            drawn = abort_drawn g me p m k;
            gives = λ _ j l u. abort_gives g me p m j l u;
          });
          raise = λ p u t h. each p _ (record {
            effect = raise_effect g me p m u h;
            posts = raise_posts g me p m u h;
            drawn = raise_drawn g me p m u t;
            gives = λ _ j a b. raise_gives g me p m j a b u;
          });
          then = then;
        }
