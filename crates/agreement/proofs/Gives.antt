-- What a part of a step makes goes to every party that has asked for the view, and what it sends goes to all.
use Rattle.std.proofs.Common.{◌≡◌, ℕ, suc, ◌<◌, ◌≤◌, true, cond, ◌&&◌, ◌||◌, eqb, ◌⊎◌, List, [], ◌∷◌, ◌++◌, Some, None, Option, sym, refl, ◌∙◌, subst, inl, inr, arith}
use Rattle.std.proofs.lemmas.Bool.{cond_both, eq-eqb, cases_eq}
use Rattle.std.proofs.lemmas.Bool.Decides.{nat_tests}
use Rattle.values.specs.Same.{equal}
use Rattle.messages.specs.Messages.{Msg}
use Rattle.rules.specs.Party.{Setting, Keyed, Suggest, Proposal, nothing, waiting, echoed, dropped, Record, Party, Step, still, and_then, none}
use Rattle.rules.specs.Thresholds.{primary}
use Rattle.rules.specs.Posts.{view_msg, suggest_msg, proof_msg, propose_msg, vote_msg, to_all, to_joined, made_offer, made_echo, made_vote, made, suggest_to}
use Rattle.rules.specs.Tests.{lock_opened, voted, done_vouched, done_agreed}
use Rattle.rules.specs.Step.{enter, on_request, told_suggest, propose, propose_due, on_suggest, echo, wake_proposal, told_proof, told_vote, announce_due, on_vote, on_lock, say_done, told_done, decide, on_done, say_abort}
use Rattle.agreement.proofs.History.{said_now, echo_of}
use Rattle.agreement.proofs.Mail.{In, in_left, in_right, in_one, in_first, in_later, in_if, in_each}
use Rattle.agreement.proofs.Walk.{raised_row, proposed}

-- each message that party j is owed is owed already, or is posted
pub record Gives (g : Setting) (me : ℕ) (p : Party) (j : ℕ) (s : Step) : Type 0 where
  pub request : (s.after.rec.view ≡ p.rec.view) ⊎ In (view_msg g me 1 s.after.rec.view j) s.posts
  pub done : (x : List ℕ) → s.after.rec.done ≡ Some x → (p.rec.done ≡ Some x) ⊎ In (vote_msg g me 10 0 x j) s.posts
  pub vote : (kind : ℕ) (x : List ℕ) → 5 ≤ kind → kind ≤ 9 → (s.after.rows j).request ≡ s.after.rec.view → said_now s.after.rec kind ≡ Some x →
      (((p.rows j).request ≡ p.rec.view) × (said_now p.rec kind ≡ Some x) × (s.after.rec.view ≡ p.rec.view)) ⊎ In (vote_msg g me kind s.after.rec.view x j) s.posts
  pub proof : (s.after.rows j).request ≡ s.after.rec.view →
      (((p.rows j).request ≡ p.rec.view) × (s.after.rec.view ≡ p.rec.view) × (s.after.rec.proof ≡ p.rec.proof)) ⊎
      In (proof_msg g me s.after.rec.view s.after.rec.proof j) s.posts
  pub suggest : (s.after.rows j).request ≡ s.after.rec.view → j ≡ primary g s.after.rec.view →
      (((p.rows j).request ≡ p.rec.view) × (s.after.rec.view ≡ p.rec.view) × (s.after.rec.suggest ≡ p.rec.suggest)) ⊎
      In (suggest_msg g me s.after.rec.view s.after.rec.suggest j) s.posts
  pub propose : (k : Keyed) → (s.after.rows j).request ≡ s.after.rec.view → s.after.rec.offer ≡ Some k →
      (((p.rows j).request ≡ p.rec.view) × (s.after.rec.view ≡ p.rec.view) × (p.rec.offer ≡ Some k)) ⊎ In (propose_msg g me s.after.rec.view k j) s.posts

module _ (g : Setting) (me : ℕ) (p : Party) (m : Msg) (j : ℕ) (lo : 1 ≤ j) (hi : j ≤ g.n) where
  abbrev G : Step → Type 0
  G = Gives g me p j

  joined_has : (q : Party) (what : ℕ → Msg) → (q.rows j).request ≡ q.rec.view → In (what j) (to_joined g me q what)
  joined_has q what e = in_each (λ i. eqb (q.rows i).request q.rec.view) what g.n j lo hi (eq-eqb _ _ e)

  all_have : (what : ℕ → Msg) → In (what j) (to_all g me what)
  all_have what = in_each (λ _. true) what g.n j lo hi refl

  pub stay_gives : G (still p)
  stay_gives = grind (arith, nat_tests)

  -- ## What was made is in the list of the messages made
  module _ (r : Record) where
    has-proof : In (proof_msg g me r.view r.proof j) (made g me r j)
    unfolding made
    has-proof = in_first _ _

    one_offer : (o : Option Keyed) (k : Keyed) → o ≡ Some k → In (propose_msg g me r.view k j) (made_offer g me r.view o j)
    one_offer None k e = absurd (let z : ◌≡◌ {A = ℕ} 0 1 = cc in omega arith)
    one_offer (Some l) k e = let q : l ≡ k = cc in subst (λ n. In (propose_msg g me r.view k j) (propose_msg g me r.view n j ∷ [])) (sym q) (in_one _)

    has-offer : (k : Keyed) → r.offer ≡ Some k → In (propose_msg g me r.view k j) (made g me r j)
    unfolding made
    has-offer k e = in_later _ _ _ (in_left _ _ _ (one_offer r.offer k e))

    one_echo : (o : Proposal) (x : List ℕ) → echo_of o ≡ Some x → In (vote_msg g me 5 r.view x j) (made_echo g me r.view o j)
    one_echo nothing x e = absurd (let z : ◌≡◌ {A = ℕ} 0 1 = cc in omega arith)
    one_echo (waiting y) x e = absurd (let z : ◌≡◌ {A = ℕ} 0 1 = cc in omega arith)
    one_echo dropped x e = absurd (let z : ◌≡◌ {A = ℕ} 0 1 = cc in omega arith)
    one_echo (echoed y) x e = let q : y ≡ x = cc in subst (λ n. In (vote_msg g me 5 r.view x j) (vote_msg g me 5 r.view n j ∷ [])) (sym q) (in_one _)

    one_vote : (k : ℕ) (x : List ℕ) → 6 ≤ k → k ≤ 9 → said_now r k ≡ Some x → In (vote_msg g me k r.view x j) (made_vote g me k r j)
    one_vote k x a b e =
        let q : (r.field k).value ≡ x = grind (arith, nat_tests) in
        let t : eqb (r.field k).at r.view ≡ true = grind (arith, nat_tests) in
        subst (λ n. In (vote_msg g me k r.view n j) (made_vote g me k r j)) q (in_if _ _ t)

    has-vote : (k : ℕ) (x : List ℕ) → 5 ≤ k → k ≤ 9 → said_now r k ≡ Some x → In (vote_msg g me k r.view x j) (made g me r j)
    unfolding made
    has-vote k x a b e =
        elim (cases_eq k 5) [
          | inl q ↦ in_later _ _ _ (in_right _ (made_offer g me r.view r.offer j) _ (in_left _ _ _
              (subst (λ n. In (vote_msg g me n r.view x j) (made_echo g me r.view r.proposal j)) (sym q) (one_echo r.proposal x (subst (λ n. said_now r n ≡ Some x) q e)))))
          | inr n₅ ↦ let o = one_vote k x (omega arith) b e in
              in_later _ _ _ (in_right _ (made_offer g me r.view r.offer j) _ (in_right _ (made_echo g me r.view r.proposal j) _ (elim (cases_eq k 6) [
                | inl q ↦ in_left _ _ _ (subst (λ n. In (vote_msg g me k r.view x j) (made_vote g me n r j)) q o)
                | inr n₆ ↦ in_right _ (made_vote g me 6 r j) _ (elim (cases_eq k 7) [
                  | inl q ↦ in_left _ _ _ (subst (λ n. In (vote_msg g me k r.view x j) (made_vote g me n r j)) q o)
                  | inr n₇ ↦ in_right _ (made_vote g me 7 r j) _ (elim (cases_eq k 8) [
                    | inl q ↦ in_left _ _ _ (subst (λ n. In (vote_msg g me k r.view x j) (made_vote g me n r j)) q o)
                    | inr n₈ ↦ in_right _ (made_vote g me 8 r j) _ (let q : k ≡ 9 = omega arith in subst (λ n. In (vote_msg g me k r.view x j) (made_vote g me n r j)) q o)
                  ])
                ])
              ])))
        ]

  -- ## The parts
  -- a request of party j is answered with all that was made
  pub request_gives : m.kind ≡ 1 → (p.rows m.from).request < m.view → G (on_request g me p m)
  unfolding on_request
  request_gives k l =
      record {
        request = inl refl;
        done = λ x e. inl e;
        vote = λ kind x a b e s. elim (cases_eq j m.from) [
          | inl q ↦ inr (answer q (mine q e) _ (in_right _ (suggest_to g me p.rec j) _ (has-vote p.rec kind x a b s)))
          | inr q ↦ inl (other q e, s, refl)
        ];
        proof = λ e. elim (cases_eq j m.from) [
          | inl q ↦ inr (answer q (mine q e) _ (in_right _ (suggest_to g me p.rec j) _ (has-proof p.rec)))
          | inr q ↦ inl (other q e, refl, refl)
        ];
        suggest = λ e f. elim (cases_eq j m.from) [
          | inl q ↦ inr (answer q (mine q e) _ (in_left _ (suggest_to g me p.rec j) _ (in_if _ _ (eq-eqb _ _ f))))
          | inr q ↦ inl (other q e, refl, refl)
        ];
        propose = λ o e s. elim (cases_eq j m.from) [
          | inl q ↦ inr (answer q (mine q e) _ (in_right _ (suggest_to g me p.rec j) _ (has-offer p.rec o s)))
          | inr q ↦ inl (other q e, refl, s)
        ];
      }
    where
      mine : j ≡ m.from → ((on_request g me p m).after.rows j).request ≡ p.rec.view → m.view ≡ p.rec.view
      mine q e = grind (arith, nat_tests)

      other : (j ≡ m.from → ⊥) → ((on_request g me p m).after.rows j).request ≡ p.rec.view → (p.rows j).request ≡ p.rec.view
      other q e = grind (arith, nat_tests)

      answer : j ≡ m.from → m.view ≡ p.rec.view → (x : Msg) → In x (suggest_to g me p.rec j ++ made g me p.rec j) → In x (on_request g me p m).posts
      answer q v x h =
          let t : eqb m.view p.rec.view ≡ true = eq-eqb _ _ v in
          rw t (subst (λ i. In x (suggest_to g me p.rec i ++ made g me p.rec i)) q h)

  pub enter_gives : (v : ℕ) → p.rec.view < v → ((k : ℕ) → 6 ≤ k → k ≤ 9 → (p.rec.field k).at < v) → G (enter g me p v)
  unfolding enter
  enter_gives v h seen =
      record {
        request = inr (in_left _ _ _ (all_have (view_msg g me 1 v)));
        done = λ x e. inl e;
        vote = λ kind x a b e s. absurd (let l = seen kind in let z : ◌≡◌ {A = ℕ} 0 1 = grind (arith, nat_tests) in omega arith);
        proof = λ e. inr (in_right _ (to_all g me (view_msg g me 1 v)) _ (in_right _ sug _ (joined_has q (proof_msg g me v q.rec.proof) e)));
        suggest = λ e f. inr (in_right _ (to_all g me (view_msg g me 1 v)) _ (in_left _ sug _
            (let t : (p.rows (primary g v)).request ≡ v = subst (λ i. (p.rows i).request ≡ v) f e in
            subst (λ i. In (suggest_msg g me v q.rec.suggest i) sug) (sym f) (in_if _ _ (eq-eqb _ _ t)))));
        propose = λ k e o. absurd (let z : ◌≡◌ {A = ℕ} 0 1 = cc in omega arith);
      }
    where
      q : Party
      q = (enter g me p v).after

      sug : List Msg
      sug = cond (eqb (p.rows (primary g v)).request v) (suggest_msg g me v q.rec.suggest (primary g v) ∷ []) []

  offered_gives : (o : Option Suggest) → G (propose g me (told_suggest g me p m) o)
  offered_gives None = grind (arith, nat_tests)
  offered_gives (Some s) = let i = joined_has (told_suggest g me p m) (propose_msg g me p.rec.view s.key3) in grind (arith, nat_tests)

  pub suggest_gives : G (on_suggest g me p m)
  unfolding on_suggest
  suggest_gives = cond_both (propose_due g me (told_suggest g me p m)) _ _ G (λ d. offered_gives _) (λ d. grind (arith, nat_tests))

  pub proof_gives : G (still (told_proof g me p m))
  proof_gives = grind (arith, nat_tests)

  pub drop_gives : p.rec.proposal ≡ nothing → G (still (proposed p dropped))
  drop_gives n = grind (arith, nat_tests)

  pub wait_gives : p.rec.proposal ≡ nothing → G (still (proposed p (waiting m.value)))
  wait_gives n = grind (arith, nat_tests)

  pub echo_gives : (x : List ℕ) → echo_of p.rec.proposal ≡ None → G (echo g me p x)
  echo_gives x n = let i = joined_has p (vote_msg g me 5 p.rec.view x) in grind (arith, nat_tests)

  pub wake_gives : (x : Proposal) → p.rec.proposal ≡ x → G (wake_proposal g me x p)
  wake_gives nothing e = stay_gives
  wake_gives (waiting x) e = cond_both (equal (p.rec.field 9).value x || lock_opened g p) _ _ G (λ a. echo_gives x (rw e refl)) (λ a. stay_gives)
  wake_gives (echoed x) e = stay_gives
  wake_gives dropped e = stay_gives

  pub vote_gives : 5 ≤ m.kind → m.kind ≤ 8 → G (on_vote g me p m)
  unfolding on_vote
  vote_gives l u =
      cond_both (announce_due g me (told_vote g me p m) m.kind m.value) _ _ G
      (λ d. let i = joined_has (told_vote g me p m) (vote_msg g me (suc m.kind) p.rec.view m.value) in grind (arith, nat_tests))
      (λ d. grind (arith, nat_tests))

  pub lock_gives : G (on_lock g me p m)
  unfolding on_lock
  lock_gives =
      cond_both (none p.rec.done && voted g (told_vote g me p m) 9 m.value) _ _ G
      (λ d. let i = all_have (vote_msg g me 10 0 m.value) in grind (arith, nat_tests)) (λ d. grind (arith, nat_tests))

  pub done_gives : G (on_done g me p m)
  unfolding on_done
  done_gives =
      cond_both (none p.rec.done && done_vouched g (told_done g me p m) m.value) _ _ (λ (s : Step). G (and_then s (decide g me m.value)))
      (λ d. cond_both (done_agreed g (told_done g me p m) m.value) _ _ (λ (t : Step). G (and_then (say_done g me (told_done g me p m) m.value) (λ _. t)))
      (λ a. record { request = inl refl; done = said; vote = λ k x l u e s. inl (kept ∙ e, s, refl); proof = λ e. inl (kept ∙ e, refl, refl); suggest = λ e _. inl (kept ∙ e, refl, refl); propose = λ k e o. inl (kept ∙ e, refl, o) })
      (λ a. record { request = inl refl; done = said; vote = λ k x l u e s. inl (kept ∙ e, s, refl); proof = λ e. inl (kept ∙ e, refl, refl); suggest = λ e _. inl (kept ∙ e, refl, refl); propose = λ k e o. inl (kept ∙ e, refl, o) }))
      (λ d. cond_both (done_agreed g (told_done g me p m) m.value) _ _ G (λ a. grind (arith, nat_tests)) (λ a. grind (arith, nat_tests)))
    where
      kept : (p.rows j).request ≡ ((told_done g me p m).rows j).request
      kept = grind (arith, nat_tests)

      said : (x : List ℕ) → ◌≡◌ {A = Option (List ℕ)} (Some m.value) (Some x) → (p.rec.done ≡ Some x) ⊎ In (vote_msg g me 10 0 x j) (to_all g me (vote_msg g me 10 0 m.value) ++ [])
      said x e =
          let q : m.value ≡ x = cc in
          inr (in_left _ (to_all g me (vote_msg g me 10 0 m.value)) [] (subst (λ y. In (vote_msg g me 10 0 y j) (to_all g me (vote_msg g me 10 0 m.value))) q (all_have (vote_msg g me 10 0 m.value))))

  pub abort_gives : G (still (raised_row p m))
  abort_gives = grind (arith, nat_tests)

  pub raise_gives : (u : ℕ) → G (say_abort g me p u)
  raise_gives u = grind (arith, nat_tests)
