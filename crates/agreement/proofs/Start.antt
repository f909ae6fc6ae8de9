-- After an accepted set-up the invariant holds: nothing was said yet but suggests, proofs and requests.
use Rattle.std.proofs.Common.{◌≡◌, ℕ, zero, suc, ◌<◌, ◌≤◌, Bool, true, false, cond, ◌||◌, List, [], ◌++◌, Some, None, sym, refl, ap, ◌∙◌, subst, subst₂, inl, inr, arith}
use Rattle.std.specs.List.{AllByRecursion as All}
use Rattle.std.proofs.ByRecursion.{All-append, All-weaker}
use Rattle.std.proofs.lemmas.Bool.{or_cases}
use Rattle.std.proofs.lemmas.Bool.Decides.{nat_tests}
use Rattle.messages.specs.Messages.{Msg}
use Rattle.rules.specs.Party.{Suggest, Proof, nothing, Record, Party}
use Rattle.rules.specs.Posts.{view_msg}
use Rattle.rules.specs.Thresholds.{quorum, voucher}
use Rattle.rules.specs.Quorums.{Quorums}
use Rattle.rules.specs.Step.{enter, newcomer, empty_row}
use Rattle.agreement.specs.Ring.{Kind, Ring, setting, honest}
use Rattle.agreement.specs.Calls.{said, Plan, named, own_of, planned, first_step, first_posts, set_up_done, set_up}
use Rattle.agreement.specs.Runs.{begun}
use Rattle.agreement.proofs.History.{Log, silent, note}
use Rattle.agreement.proofs.Posts.{Post, enter-posts}
use Rattle.agreement.proofs.Begin.{Started, started, every-at, honest_laws, honest_parts}
use Rattle.agreement.proofs.World.{World, none_some}
use Rattle.agreement.proofs.Notes.{LogOk}
use Rattle.agreement.proofs.Keys.{Told, told_none}
use Rattle.agreement.proofs.Fair.{MsgFair, post_fair}
use Rattle.agreement.proofs.Invariant.{Proved, Suggested, asked_of, Inv}
use Rattle.agreement.proofs.Sound.{Fair, Sound}

-- the record of a party that has entered view 1 with its own value, and its log
abbrev pub first_record : List ℕ → Record
first_record own =
    record {
      view = 1;
      field = (newcomer own).rec.field;
      previous = λ _. None;
      decision = None;
      done = None;
      suggest = record { key3 = record { at = 0; value = own }; key2 = record { at = 0; value = own }; previous = None };
      proof = record { key1 = record { at = 0; value = own }; previous = None };
      offer = None;
      proposal = nothing;
    }

abbrev pub first_log : List ℕ → Log
first_log own = note silent (first_record own)

module _ (own : List ℕ) where
  pub quiet : (k v : ℕ) → (first_log own).said k v ≡ None
  quiet k v = grind (arith, nat_tests)

  pub quiet_direct : (v : ℕ) → (first_log own).direct v ≡ None
  quiet_direct v = grind (arith, nat_tests)

  pub first_ok : LogOk (first_log own) (first_record own)
  first_ok =
      record {
        begun = omega arith;
        now = λ k. grind (arith, nat_tests);
        later = λ k v h. quiet k v;
        zero = λ k. quiet k 0;
        seen = λ k lo hi. grind (arith, nat_tests);
        top = λ k lo hi h. grind (arith, nat_tests);
        bound = λ k v lo hi h. quiet k v;
        offered_now = refl;
        offered_later = λ v h. grind (arith, nat_tests);
        suggested_now = refl;
        suggested_later = λ v h. grind (arith, nat_tests);
        proved_now = refl;
        proved_later = λ v h. grind (arith, nat_tests);
        direct_later = λ v h. quiet_direct v;
        direct_now = inl (quiet_direct 1);
        echoes = λ v. inl (quiet 5 v);
      }

  first_told : (k : ℕ) → 6 ≤ k → k ≤ 7 → Told ((first_log own).said k) ((first_record own).field k) None
  first_told k lo hi = subst (λ z. Told ((first_log own).said k) z None) (let q : record { at = 0; value = own } ≡ (first_record own).field k = grind (arith, nat_tests) in q) (told_none _ own)

  first_allowed : (allows : List ℕ → Bool) (k : ℕ) → 6 ≤ k → k ≤ 9 → allows own ≡ true → allows ((first_record own).field k).value ≡ true
  first_allowed allows k lo hi h = let q : ((first_record own).field k).value ≡ own = grind (arith, nat_tests) in rw q h

  first_proved : (v : ℕ) (pf : Proof) → (first_log own).proved v ≡ Some pf → Proved (first_log own) v pf
  first_proved v pf h =
      let a : v ≡ 1 = grind (arith, nat_tests) in
      let b : (first_record own).proof ≡ pf = grind (arith, nat_tests) in
      subst₂ (Proved (first_log own)) (sym a) b (record { told = told_none _ own; earlier = omega arith })

  when_suggested : (v : ℕ) (s : Suggest) → (first_log own).suggested v ≡ Some s → v ≡ 1
  when_suggested v s h = grind (arith, nat_tests)

  what_suggested : (v : ℕ) (s : Suggest) → (first_log own).suggested v ≡ Some s → (first_record own).suggest ≡ s
  what_suggested v s h = grind (arith, nat_tests)

  first_suggested : (w : World) → w.g.allows own ≡ true → (v : ℕ) (s : Suggest) → (first_log own).suggested v ≡ Some s → Suggested w (first_log own) v s
  first_suggested w al v s h =
      subst₂ (Suggested w (first_log own)) (sym (when_suggested v s h)) (what_suggested v s h)
      (record { told = told_none _ own; earlier2 = omega arith; has3 = λ z. absurd (omega arith); earlier3 = omega arith; allowed = al })

module _ (k : Kind) (p : Plan) (s : Ring) where
  -- what set-up leaves of an honest party
  first_is : (i : ℕ) → (first_step k p s i).after.rec ≡ first_record (own_of p.own i)
  unfolding enter
  first_is i = refl

  first_row : (i j : ℕ) → (first_step k p s i).after.rows j ≡ empty_row
  unfolding enter
  first_row i j = refl

  -- the posts of its first step say what it holds
  aged : ℕ → Party
  aged i = record {
    rec = record {
      view = 0;
      field = (newcomer (own_of p.own i)).rec.field;
      previous = λ _. None;
      decision = None;
      done = None;
      suggest = (newcomer (own_of p.own i)).rec.suggest;
      proof = (newcomer (own_of p.own i)).rec.proof;
      offer = None;
      proposal = nothing;
    };
    rows = λ _. empty_row;
  }

  first_said_posts : (i : ℕ) → 0 < p.n → All (Post (setting k (planned k p s)) i (aged i) (first_step k p s i).after) (first_step k p s i).posts
  unfolding enter aged
  first_said_posts i some = (enter-posts (setting k (planned k p s)) i (aged i) (view_msg (setting k (planned k p s)) i 1 1 1) 1 (omega arith) some).each

  abbrev pub first_said : ℕ → Log
  first_said i = first_log (own_of p.own i)

  module _ (t : Started k p s) where
    abbrev pub ring : Ring
    ring = (set_up_done k p s).after

    pub laws_first : Quorums p.n (honest ring) (quorum (setting k ring)) (voucher (setting k ring))
    laws_first = honest_laws k ring t.few t.bound

    abbrev pub W : World
    W = record { g = setting k ring; honest = honest ring; laws = laws_first }

    is_first : (i : ℕ) → honest ring i ≡ true → ring.parties i ≡ (first_step k p s i).after
    is_first i h = ap (λ b. cond b (first_step k p s i).after (s.parties i)) h

    rec_first : (i : ℕ) → honest ring i ≡ true → (ring.parties i).rec ≡ first_record (own_of p.own i)
    rec_first i h = ap (λ q. q.rec) (is_first i h) ∙ first_is i

    own_first : (i : ℕ) → honest ring i ≡ true → k.allows (own_of p.own i) ≡ true
    own_first i h =
        let a = honest_parts ring i h in
        let b = every-at (λ j. named p.word j || k.allows (own_of p.own j)) p.n i t.own a.0 a.1 in
        elim (or_cases (named p.word i) _ b) [ inl z ↦ absurd (let y = a.2 in let x : ◌≡◌ {A = ℕ} 0 1 = cc in omega arith) | inr z ↦ z ]

    pub first_inv : Inv W ring.parties first_said
    first_inv =
        record {
          ok = λ i h. subst (LogOk (first_said i)) (sym (rec_first i h)) (first_ok _);
          told = λ i n h lo hi. subst (λ r. Told ((first_said i).said n) (r.field n) (r.previous n)) (sym (rec_first i h)) (first_told _ n lo hi);
          proved = λ i v pf h e. first_proved _ v pf e;
          suggested = λ i v x h e. first_suggested _ W (own_first i h) v x e;
          rows = λ i j h _. let r : (ring.parties i).rows j ≡ empty_row = ap (λ q. q.rows j) (is_first i h) ∙ first_row i j in
              record { vote = λ n lo hi. inl (ap (λ z. z.vote n) r); suggest = inl (ap (λ z. z.suggest) r); proof = inl (ap (λ z. z.proof) r); told = inl (ap (λ z. z.done) r) };
          core = record {
            stage = λ i n v x h lo hi e. none_some _ x (quiet (own_of p.own i) (suc n) v) e;
            first = λ i v x h e. none_some _ x (quiet (own_of p.own i) 6 v) e;
            passes = λ i v u x y h e l f. none_some _ x (quiet_direct (own_of p.own i) v) e;
            echo = λ i v x h e. none_some _ x (quiet (own_of p.own i) 5 v) e;
          };
          asked = λ i x h e. none_some _ x (ap (λ r. asked_of r.proposal) (rec_first i h)) e;
          allowed = λ i n h lo hi. subst (λ r. k.allows (r.field n).value ≡ true) (sym (rec_first i h)) (first_allowed _ k.allows n lo hi (own_first i h));
          done_why = λ i x h e. none_some _ x (ap (λ r. r.done) (rec_first i h)) e;
          decided_why = λ i x h e. none_some _ x (ap (λ r. r.decision) (rec_first i h)) e;
        }

    post_first : (i : ℕ) (m : Msg) → Post (setting k ring) i (aged i) (first_step k p s i).after m → Fair W ring.parties first_said m
    post_first i m h hm =
        let z : m.from ≡ i = h.from in
        let hi : honest ring i ≡ true = subst (λ j. honest ring j ≡ true) z hm in
        let g = is_first i hi in
        subst (λ j. MsgFair (first_said j) (ring.parties j).rec.done m) (sym z)
        (post_fair (setting k ring) i (aged i) (ring.parties i) m (first_said i) (first_inv.ok i hi) (subst (λ q. Post (setting k ring) i (aged i) q m) (sym g) h))

    posts_first : (n : ℕ) → All (Fair W ring.parties first_said) (first_posts k p s n)
    unfolding first_posts
    posts_first zero = tt
    posts_first (suc n) =
        All-append _ (first_posts k p s n) _ (posts_first n)
        (one _ (named p.word (suc n)) (All-weaker _ _ (post_first (suc n)) _ (first_said_posts (suc n) t.some)))
      where
        one : (ms : List Msg) (b : Bool) → All (Fair W ring.parties first_said) ms → All (Fair W ring.parties first_said) (cond b [] ms)
        one ms true a = tt
        one ms false a = a

    pub first_sound : Sound k (record { ring = (set_up_done k p s).after; posted = (set_up_done k p s).posted; lost = [] })
    first_sound =
        record {
          some = t.some;
          laws = laws_first;
          said = first_said;
          inv = first_inv;
          wire = subst (λ z. All (Fair W ring.parties first_said) (z ++ first_posts k p s p.n)) (sym t.empty) (posts_first p.n);
          posted = posts_first p.n;
        }

  pub begun_sound : (set_up k p s).answer ≡ said 0 → Sound k (begun k p s)
  begun_sound e =
      let t = started k p s e in
      subst (λ o. Sound k (record { ring = o.after; posted = o.posted; lost = [] })) (sym t.is) (first_sound t)
