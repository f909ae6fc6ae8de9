-- What the second count rests on holds after an accepted set-up: nobody has asked yet, and every honest party has sent its request.
use Rattle.std.proofs.Common.{◌≡◌, ℕ, zero, suc, ◌≤◌, Bool, true, false, cond, List, [], None, sym, refl, ap, subst, inl, inr, arith}
use Rattle.std.specs.List.{AllByRecursion as All}
use Rattle.std.proofs.lemmas.Bool.{cases_lt}
use Rattle.std.proofs.lemmas.Bool.Decides.{nat_tests}
use Rattle.messages.specs.Messages.{Msg}
use Rattle.rules.specs.Party.{Setting, nothing, Party}
use Rattle.rules.specs.Posts.{view_msg}
use Rattle.rules.specs.Step.{enter, newcomer, empty_row}
use Rattle.agreement.specs.Ring.{Kind, Ring, setting, honest}
use Rattle.agreement.specs.Calls.{Plan, named, own_of, first_step, first_posts}
use Rattle.agreement.proofs.Posts.{Post, enter-posts}
use Rattle.agreement.proofs.Begin.{Started, honest_parts}
use Rattle.agreement.proofs.World.{none_some}
use Rattle.agreement.proofs.Fair.{MsgFair, post_fair}
use Rattle.agreement.proofs.Sound.{Fair}
use Rattle.agreement.proofs.Start.{first_log, quiet, first_said, first_inv, ring, W}
use Rattle.agreement.proofs.Mail.{In, in_left, in_right, in_append, in_none, in_all, all_in, in_each}
use Rattle.agreement.proofs.Delivery.{Sent, Delivery}
use Rattle.agreement.proofs.Closure.{Tallied, Waits}
use Rattle.agreement.proofs.Prompt.{first_tallied, first_waits}
use Rattle.agreement.proofs.ChoiceKept.{Choice}

-- a party before its first view
abbrev unborn : List ℕ → Party
unborn own =
    record {
      rec = record {
        view = 0;
        field = (newcomer own).rec.field;
        previous = λ _. None;
        decision = None;
        done = None;
        suggest = (newcomer own).rec.suggest;
        proof = (newcomer own).rec.proof;
        offer = None;
        proposal = nothing;
      };
      rows = λ _. empty_row;
    }

no_offer : (own : List ℕ) (v : ℕ) → (first_log own).offered v ≡ None
no_offer own v = grind (arith, nat_tests)

module _ (k : Kind) (p : Plan) (s : Ring) (t : Started k p s) where
  abbrev g : Setting
  g = setting k (ring k p s t)

  abbrev own : ℕ → List ℕ
  own i = own_of p.own i

  is_first : (i : ℕ) → honest (ring k p s t) i ≡ true → (ring k p s t).parties i ≡ (first_step k p s i).after
  is_first i h = ap (λ b. cond b (first_step k p s i).after (s.parties i)) h

  view_first : (i : ℕ) → honest (ring k p s t) i ≡ true → ((ring k p s t).parties i).rec.view ≡ 1
  unfolding enter
  view_first i h = ap (λ (q : Party). q.rec.view) (is_first i h)

  proposal_first : (i : ℕ) → honest (ring k p s t) i ≡ true → ((ring k p s t).parties i).rec.proposal ≡ nothing
  unfolding enter
  proposal_first i h = ap (λ (q : Party). q.rec.proposal) (is_first i h)

  request_first : (i j : ℕ) → honest (ring k p s t) i ≡ true → (((ring k p s t).parties i).rows j).request ≡ 0
  unfolding enter
  request_first i j h = ap (λ (q : Party). (q.rows j).request) (is_first i h)

  pub tallied_begun : (i : ℕ) → honest (ring k p s t) i ≡ true → Tallied g ((ring k p s t).parties i)
  tallied_begun i h = subst (Tallied g) (sym (is_first i h)) (first_tallied g (honest (ring k p s t)) (W k p s t).laws t.some i (own i))

  pub waits_begun : (i : ℕ) → honest (ring k p s t) i ≡ true → Waits g ((ring k p s t).parties i)
  waits_begun i h = subst (Waits g) (sym (is_first i h)) (first_waits g (honest (ring k p s t)) (W k p s t).laws t.some i (own i))

  pub choice_begun : Choice (W k p s t) (ring k p s t).parties (first_said k p s)
  choice_begun =
      record {
        keys = λ i n h lo hi. record { each = λ v x e. none_some _ x (quiet (own i) n v) e };
        proof = λ i h. record { each = λ v x l e. none_some _ x (quiet (own i) 6 v) e };
        suggest = λ i h. record { each = λ v x l e. none_some _ x (quiet (own i) 7 v) e };
        latest = λ i v x h l e. none_some _ x (quiet (own i) 8 v) e;
        backed = λ i v n h e. none_some _ n (no_offer (own i) v) e;
        drop = λ i h hp e. absurd (let a = proposal_first i h in let z : ◌≡◌ {A = ℕ} 0 1 = cc in omega arith);
      }

  -- ## The first posts
  in_first : (n i : ℕ) (y : Msg) → 1 ≤ i → i ≤ n → named p.word i ≡ false → In y (first_step k p s i).posts → In y (first_posts k p s n)
  unfolding first_posts
  in_first zero i y lo hi f h = absurd (omega arith)
  in_first (suc n) i y lo hi f h =
      elim (cases_lt n i) [
        | inl l ↦
            let q : suc n ≡ i = omega arith in
            in_right y (first_posts k p s n) _ (subst (λ j. In y (cond (named p.word j) [] (first_step k p s j).posts)) (sym q) (rw f h))
        | inr l ↦ in_left y (first_posts k p s n) _ (in_first n i y lo l f h)
      ]

  first_post : (n : ℕ) (y : Msg) → In y (first_posts k p s n) → (i : ℕ) × Post g i (unborn (own i)) (first_step k p s i).after y
  unfolding first_posts enter
  first_post zero y h = absurd (in_none y h)
  first_post (suc n) y h =
      elim (in_append y (first_posts k p s n) _ h) [
        | inl o ↦ first_post n y o
        | inr o ↦ (
          suc n,
          in_all _ y (first_step k p s (suc n)).posts
              (enter-posts g (suc n) (unborn (own (suc n))) (view_msg g (suc n) 1 1 1) 1 (omega arith) t.some).each
              (some_of (named p.word (suc n)) o),
        )
      ]
    where
      some_of : (b : Bool) → In y (cond b [] (first_step k p s (suc n)).posts) → In y (first_step k p s (suc n)).posts
      some_of true i = absurd (in_none y i)
      some_of false i = i

  -- each says what its sender holds
  fair_first : (y : Msg) → In y (first_posts k p s p.n) → Fair (W k p s t) (ring k p s t).parties (first_said k p s) y
  fair_first y i hy =
      let z = first_post p.n y i in
      let hz : honest (ring k p s t) z.0 ≡ true = subst (λ j. honest (ring k p s t) j ≡ true) z.1.from hy in
      subst (λ j. MsgFair (first_said k p s j) ((ring k p s t).parties j).rec.done y) (sym z.1.from)
      (post_fair g z.0 (unborn (own z.0)) ((ring k p s t).parties z.0) y (first_said k p s z.0) ((first_inv k p s t).ok z.0 hz)
      (subst (λ q. Post g z.0 (unborn (own z.0)) q y) (sym (is_first z.0 hz)) z.1))

  pub posts-begun : All (Fair (W k p s t) (ring k p s t).parties (first_said k p s)) (first_posts k p s p.n)
  posts-begun = all_in _ (first_posts k p s p.n) fair_first

  first_joined : (i j : ℕ) → ((first_step k p s i).after.rows j).request ≡ (first_step k p s i).after.rec.view → ⊥
  unfolding enter
  first_joined i j e = omega arith

  first_view : (i : ℕ) → (first_step k p s i).after.rec.view ≡ 1
  unfolding enter
  first_view i = refl

  sent_first : (j i : ℕ) → honest (ring k p s t) j ≡ true → 1 ≤ i → i ≤ p.n → Sent g (first_posts k p s p.n) j (first_step k p s j).after i
  unfolding enter
  sent_first j i h lo hi =
      let a = honest_parts (ring k p s t) j h in
      record {
        request = in_first p.n j (view_msg g j 1 1 i) a.0 a.1 a.2 (in_left _ _ _ (in_each (λ _. true) (view_msg g j 1 1) p.n i lo hi refl));
        done = λ x e. none_some _ x refl e;
        vote = λ kind x _ _ e. absurd (omega arith);
        proof = λ e. absurd (omega arith);
        suggest = λ e. absurd (omega arith);
        propose = λ n e. absurd (omega arith);
      }

  pub delivery_begun : Delivery g (honest (ring k p s t)) (ring k p s t).parties (first_posts k p s p.n) (ring k p s t).wire []
  delivery_begun =
      record {
        sent = λ j i h lo hi. subst (λ q. Sent g (first_posts k p s p.n) j q i) (sym (is_first j h)) (sent_first j i h lo hi);
        fate = λ y i _ _ _ _. inl (in_right y s.wire _ i);
        entered = λ y i _ _ lo hi. let z = first_post p.n y i in absurd (first_joined z.0 y.to (z.1.joined lo hi));
        asked = λ y i hf e.
            let z = first_post p.n y i in
            let a = (z.1.request e).1 in
            let b = view_first y.from hf in
            let c = first_view z.0 in
            omega arith;
        requests = λ i j hi hj. let a = request_first i j hi in omega arith;
        known = λ y i. elim (in_append y s.wire (first_posts k p s p.n) i) [
          | inl o ↦ absurd (in_none y (subst (In y) t.empty o))
          | inr o ↦ o
        ];
      }
