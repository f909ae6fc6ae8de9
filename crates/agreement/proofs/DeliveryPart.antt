-- Delivery by one part of a step: what is owed is posted, and a message of a view goes only to a party that has entered it.
use Rattle.std.proofs.Common.{◌≡◌, ℕ, ◌<◌, ◌≤◌, Bool, true, List, ◌++◌, sym, refl, subst, subst₂, inl, inr, append_assoc, append-nil, arith}
use Rattle.std.proofs.lemmas.Bool.{cases_eq}
use Rattle.messages.specs.Messages.{Msg}
use Rattle.rules.specs.Counting.{upd}
use Rattle.rules.specs.Party.{Setting, Party, Step, still, and_then}
use Rattle.rules.specs.Thresholds.{primary, quorum, voucher}
use Rattle.rules.specs.Posts.{view_msg, suggest_msg, proof_msg, propose_msg, vote_msg}
use Rattle.rules.specs.Step.{step, on_timer}
use Rattle.rules.specs.Quorums.{Quorums}
use Rattle.agreement.proofs.Posts.{Post}
use Rattle.agreement.proofs.Invariant.{upd_ind}
use Rattle.agreement.proofs.Sound.{upd_here, upd-upd, upd_same}
use Rattle.agreement.proofs.Mail.{In, in_left, in_right, in_append, in_all}
use Rattle.agreement.proofs.Walk.{Parts, walk_step, walk_timer}
use Rattle.agreement.proofs.Gives.{Gives}
use Rattle.agreement.proofs.Closure.{Tallied}
use Rattle.agreement.proofs.Part.{Part, by_parts}
use Rattle.agreement.proofs.Prompt.{part_tallied}
use Rattle.agreement.proofs.Delivery.{Sent}

-- ## What a party has sent
module _ (g : Setting) (posted more : List Msg) (j : ℕ) (i : ℕ) where
  pub sent_more : (q : Party) → Sent g posted j q i → Sent g (posted ++ more) j q i
  sent_more q s =
      record {
        request = in_left _ posted more s.request;
        done = λ x e. in_left _ posted more (s.done x e);
        vote = λ kind x l u e o. in_left _ posted more (s.vote kind x l u e o);
        proof = λ e. in_left _ posted more (s.proof e);
        suggest = λ e f. in_left _ posted more (s.suggest e f);
        propose = λ k e o. in_left _ posted more (s.propose k e o);
      }

pub sent_part : (g : Setting) (posted : List Msg) (j i : ℕ) (p : Party) (s : Step) → Gives g j p i s → Sent g posted j p i → Sent g (posted ++ s.posts) j s.after i
sent_part g posted j i p s v t =
    record {
      request = elim v.request [
        | inl e ↦ in_left _ posted _ (subst (λ u. In (view_msg g j 1 u i) posted) (sym e) t.request)
        | inr h ↦ in_right _ posted _ h
      ];
      done = λ x e. elim (v.done x e) [ inl o ↦ in_left _ posted _ (t.done x o) | inr h ↦ in_right _ posted _ h ];
      vote = λ kind x l u e o. elim (v.vote kind x l u e o) [
        | inl z ↦ in_left _ posted _ (subst (λ w. In (vote_msg g j kind w x i) posted) (sym z.2) (t.vote kind x l u z.0 z.1))
        | inr h ↦ in_right _ posted _ h
      ];
      proof = λ e. elim (v.proof e) [
        | inl z ↦ in_left _ posted _ (subst₂ (λ w c. In (proof_msg g j w c i) posted) (sym z.1) (sym z.2) (t.proof z.0))
        | inr h ↦ in_right _ posted _ h
      ];
      suggest = λ e f. elim (v.suggest e f) [
        | inl z ↦ in_left _ posted _ (subst₂ (λ w c. In (suggest_msg g j w c i) posted) (sym z.1) (sym z.2) (t.suggest z.0 (subst (λ w. i ≡ primary g w) z.1 f)))
        | inr h ↦ in_right _ posted _ h
      ];
      propose = λ k e o. elim (v.propose k e o) [
        | inl z ↦ in_left _ posted _ (subst (λ w. In (propose_msg g j w k i) posted) (sym z.1) (t.propose k z.0 z.2))
        | inr h ↦ in_right _ posted _ h
      ];
    }

module _ (g : Setting) (hon : ℕ → Bool) (laws : Quorums g.n hon (quorum g) (voucher g)) (some : 0 < g.n) where
  -- what holds between the parts of a step
  pub record Mailed (party : ℕ → Party) (posted : List Msg) : Type 0 where
    pub sent : (j i : ℕ) → hon j ≡ true → 1 ≤ i → i ≤ g.n → Sent g posted j (party j) i
    pub entered : (m : Msg) → In m posted → hon m.from ≡ true → hon m.to ≡ true → 2 ≤ m.kind → m.kind ≤ 9 → m.view ≤ (party m.to).rec.view
    pub asked : (m : Msg) → In m posted → hon m.from ≡ true → m.kind ≡ 1 → m.view ≤ (party m.from).rec.view
    pub requests : (i j : ℕ) → hon i ≡ true → hon j ≡ true → ((party i).rows j).request ≤ (party j).rec.view

  module _ (me : ℕ) (m : Msg) (hme : hon me ≡ true) (party : ℕ → Party) (posted : List Msg) (from-posted : m.kind ≡ 1 → hon m.from ≡ true → In m posted)
      (s : Step) (x : Part g me m (party me) s) (t : Tallied g (party me)) (h : Mailed party posted) where
    abbrev Party' : ℕ → Party
    Party' = upd party me s.after

    view_grows : (i : ℕ) → (party i).rec.view ≤ (Party' i).rec.view
    view_grows = upd_ind (λ i q. (party i).rec.view ≤ q.rec.view) party me s.after x.drawn.keeps.view (λ i. omega arith)

    row_bound : (j : ℕ) → hon j ≡ true → (s.after.rows j).request ≤ (party j).rec.view
    row_bound j hj =
        elim (x.effect.holds.row_request j) [
          | inl e ↦ let o = h.requests me j hme hj in omega arith
          | inr z ↦
              let hf : hon m.from ≡ true = subst (λ n. hon n ≡ true) (sym z.0) hj in
              let a = h.asked m (from-posted z.1 hf) hf z.1 in
              let b : m.view ≤ (party j).rec.view = subst (λ n. m.view ≤ (party n).rec.view) z.0 a in
              let c = z.3 in
              omega arith
        ]

    requests_kept : (i j : ℕ) → hon i ≡ true → hon j ≡ true → ((Party' i).rows j).request ≤ (Party' j).rec.view
    requests_kept i j hi hj =
        upd_ind (λ i q. hon i ≡ true → (q.rows j).request ≤ (Party' j).rec.view) party me s.after
        (λ _. let a = row_bound j hj in let b = view_grows j in omega arith)
        (λ i hi. let a = h.requests i j hi hj in let b = view_grows j in omega arith) i hi

    new_post : (y : Msg) → In y s.posts → Post g me (party me) s.after y
    new_post y i = in_all (Post g me (party me) s.after) y s.posts x.posts.each i

    asked_kept : (y : Msg) → In y (posted ++ s.posts) → hon y.from ≡ true → y.kind ≡ 1 → y.view ≤ (Party' y.from).rec.view
    asked_kept y i hy k =
        elim (in_append y posted s.posts i) [
          | inl o ↦ let a = h.asked y o hy k in let b = view_grows y.from in omega arith
          | inr o ↦
              let n = new_post y o in
              let a = (n.request k).1 in
              let b : Party' y.from ≡ s.after = subst (λ i. Party' i ≡ s.after) (sym n.from) (upd_here party me s.after) in
              subst (λ (q : Party). y.view ≤ q.rec.view) (sym b) (omega arith)
        ]

    post_view : (y : Msg) → Post g me (party me) s.after y → 2 ≤ y.kind → y.kind ≤ 9 → y.view ≡ s.after.rec.view
    post_view y n lo hi =
        elim (cases_eq y.kind 2) [
          | inl e ↦ (n.suggest e).0
          | inr n₂ ↦ elim (cases_eq y.kind 3) [
            | inl e ↦ (n.proof e).0
            | inr n₃ ↦ elim (cases_eq y.kind 4) [ inl e ↦ (n.propose e).0 | inr n₄ ↦ (n.vote (omega arith) hi).0 ]
          ]
        ]

    entered-kept : (y : Msg) → In y (posted ++ s.posts) → hon y.from ≡ true → hon y.to ≡ true → 2 ≤ y.kind → y.kind ≤ 9 → y.view ≤ (Party' y.to).rec.view
    entered-kept y i hy hz lo hi =
        elim (in_append y posted s.posts i) [
          | inl o ↦ let a = h.entered y o hy hz lo hi in let b = view_grows y.to in omega arith
          | inr o ↦
              let n = new_post y o in
              let a = post_view y n lo hi in
              let b = n.joined lo hi in
              let c = row_bound y.to hz in
              let d = view_grows y.to in
              omega arith
        ]

    sent_kept : (j i : ℕ) → hon j ≡ true → 1 ≤ i → i ≤ g.n → Sent g (posted ++ s.posts) j (Party' j) i
    sent_kept j i hj lo hi =
        upd_ind (λ j q. hon j ≡ true → Sent g (posted ++ s.posts) j q i) party me s.after
        (λ _. sent_part g posted me i (party me) s (x.gives t.seen i lo hi) (h.sent me i hme lo hi))
        (λ j hj. sent_more g posted s.posts j i (party j) (h.sent j i hj lo hi)) j hj

    pub mailed_part : Mailed (upd party me s.after) (posted ++ s.posts)
    mailed_part = record { sent = sent_kept; entered = entered-kept; asked = asked_kept; requests = requests_kept }

  -- ## A whole step
  module _ (me : ℕ) (m : Msg) (hme : hon me ≡ true) (lo : 1 ≤ m.from) (hi : m.from ≤ g.n) where
    abbrev R : Party → Step → Type 0
    R p s = (party : ℕ → Party) (posted : List Msg) → party me ≡ p → (m.kind ≡ 1 → hon m.from ≡ true → In m posted) → Tallied g p → Mailed party posted →
        Tallied g s.after × Mailed (upd party me s.after) (posted ++ s.posts)

    mail_stay : (p : Party) → R p (still p)
    mail_stay p party posted e i t h =
        (t, subst₂ Mailed (sym (subst (λ q. upd party me q ≡ party) e (upd_same party me))) (sym (append-nil posted)) h)

    mail_each : (p : Party) (s : Step) → Part g me m p s → R p s
    mail_each p s x party posted e i t h = (
      part_tallied g hon laws some me m lo hi p s x t,
      mailed_part me m hme party posted i s (subst (λ q. Part g me m q s) (sym e) x) (subst (Tallied g) (sym e) t) h,
    )

    mail_then : (p : Party) (s : Step) (f : Party → Step) → R p s → R s.after (f s.after) → R p (and_then s f)
    mail_then p s f a b party posted e i t h =
        let n = a party posted e i t h in
        let k = b (upd party me s.after) (posted ++ s.posts) (upd_here party me s.after) (λ k hf. in_left m posted s.posts (i k hf)) n.0 n.1 in
        (k.0, subst₂ Mailed (upd-upd party me s.after (f s.after).after) (append_assoc posted s.posts (f s.after).posts) k.1)

    mail_parts : Parts g me m R
    mail_parts = by_parts g me m some lo hi R mail_stay mail_each mail_then

    pub step_mailed : (party : ℕ → Party) (posted : List Msg) → (m.kind ≡ 1 → hon m.from ≡ true → In m posted) → Tallied g (party me) → Mailed party posted →
        Mailed (upd party me (step g me (party me) m).after) (posted ++ (step g me (party me) m).posts)
    step_mailed party posted i t h = (walk_step g me m R mail_parts (party me) party posted refl i t h).1

    pub timer_mailed : m.kind ≡ 0 → (party : ℕ → Party) (posted : List Msg) → (m.kind ≡ 1 → hon m.from ≡ true → In m posted) → Tallied g (party me) → Mailed party posted →
        Mailed (upd party me (on_timer g me (party me)).after) (posted ++ (on_timer g me (party me)).posts)
    timer_mailed k party posted i t h = (walk_timer g me m R mail_parts (party me) k party posted refl i t h).1
