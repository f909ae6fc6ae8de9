-- Nothing is said twice, as far as one party's steps show: whether a message of a kind and view may have gone to a party
-- is written in what the sender keeps, no step forgets it, and no step posts what may have gone.
use Rattle.std.proofs.Common.{◌≡◌, ℕ, zero, suc, ◌+◌, ◌<◌, ◌≤◌, max, Bool, true, false, cond, not, ◌&&◌, ◌||◌, eqb, ltb, leb, List, [], ◌∷◌, ◌++◌, Some, None, Option, sym, refl, ap, ◌∙◌, subst, subst₂, inl, inr, arith}
use Rattle.std.specs.List.{AllByRecursion as All}
use Rattle.std.proofs.ByRecursion.{All-append}
use Rattle.std.proofs.lemmas.Bool.{cond_both, cases_order, and_parts, and_from, eqb-true, eq-eqb, leb-true, le-leb, ltb-true, both_ways}
use Rattle.std.proofs.lemmas.Bool.Decides.{nat_tests}
use Rattle.values.specs.Same.{equal}
use Rattle.messages.specs.Messages.{Msg, between}
use Rattle.rules.specs.Counting.{upd}
use Rattle.rules.specs.Party.{Setting, Keyed, Suggest, Proposal, nothing, waiting, echoed, dropped, Record, Row, Party, Step, with_rec, with_row, with_done, with_decision, with_offer, with_proposal, with_request, with_abort, cleared, still, and_then, none}
use Rattle.rules.specs.Thresholds.{primary, vouched, reached}
use Rattle.rules.specs.Posts.{to_each, view_msg, suggest_msg, proof_msg, propose_msg, vote_msg, to_all, to_joined, suggest_to, made, made_offer, made_echo, made_vote}
use Rattle.rules.specs.Tests.{lock_opened, voted, done_vouched, done_agreed, best, heeded, is_nothing}
use Rattle.rules.specs.Step.{step, react, on_timer, enter, entered, on_request, on_suggest, told_suggest, propose, propose_due, echo, wake, wake_proposal, on_propose, lock_fits, may_wait, on_proof, told_proof, moved, on_vote, told_vote, announce_due, on_lock, on_done, told_done, join_done, say_done, decide, aborts, say_abort, join_abort, leave, on_abort}
use Rattle.rules.proofs.Sent.{all_one, all_each, all_made}

-- a message from one party to another, of a kind and a view
abbrev pub like : ℕ → ℕ → ℕ → ℕ → Msg → Bool
like from to kind view m = eqb m.from from && (eqb m.to to && (eqb m.kind kind && eqb m.view view))

unfoldable pub how_many : (Msg → Bool) → List Msg → ℕ
how_many t [] = 0
how_many t (m ∷ ms) = cond (t m) (suc (how_many t ms)) (how_many t ms)

pub how_many_append : (t : Msg → Bool) (xs ys : List Msg) → how_many t (xs ++ ys) ≡ how_many t xs + how_many t ys
unfolding how_many
how_many_append t [] ys = omega arith
how_many_append t (x ∷ xs) ys = let ih = how_many_append t xs ys in grind arith

pub how_many-none : (t : Msg → Bool) (xs : List Msg) → All (λ m. t m ≡ false) xs → how_many t xs ≡ 0
unfolding how_many
how_many-none t [] h = refl
how_many-none t (x ∷ xs) h = let ih = how_many-none t xs h.1 in let e = h.0 in grind arith

how_many_if : (t : Msg → Bool) (b : Bool) (m : Msg) → how_many t (cond b (m ∷ []) []) ≡ cond (b && t m) 1 0
unfolding how_many
how_many_if t true m = refl
how_many_if t false m = refl

wider : (T w : Bool) (j n a : ℕ) → a ≤ cond (T && (w && leb j n)) 1 0 → a ≤ cond (T && (w && leb j (suc n))) 1 0
wider T w j n a h = grind (arith, nat_tests)

last_one : (T w : Bool) (j n a : ℕ) → T ≡ true → w ≡ true → suc n ≡ j → a ≤ cond (T && (w && leb j n)) 1 0 → suc a ≤ cond (T && (w && leb j (suc n))) 1 0
last_one T w j n a e f q h = grind (arith, nat_tests)

-- of messages to each party, those to one party are at most one
pub each-count : (t : Msg → Bool) (T : Bool) (j : ℕ) (who : ℕ → Bool) (what : ℕ → Msg) (n : ℕ) → ((i : ℕ) → t (what i) ≡ true → (i ≡ j) × (T ≡ true)) →
    how_many t (to_each who what n) ≤ cond (T && (who j && leb j n)) 1 0
unfolding to_each how_many
each-count t T j who what zero h = omega arith
each-count t T j who what (suc n) h = go (who (suc n)) (t (what (suc n))) refl refl (each-count t T j who what n h)
  where
    a : ℕ
    a = how_many t (to_each who what n)

    sum : how_many t (to_each who what (suc n)) ≡ a + cond (who (suc n) && t (what (suc n))) 1 0
    sum = how_many_append t (to_each who what n) (cond (who (suc n)) (what (suc n) ∷ []) []) ∙ ap (λ x. a + x) (how_many_if t (who (suc n)) (what (suc n)))

    go : (b c : Bool) → who (suc n) ≡ b → t (what (suc n)) ≡ c → a ≤ cond (T && (who j && leb j n)) 1 0 →
        how_many t (to_each who what (suc n)) ≤ cond (T && (who j && leb j (suc n))) 1 0
    go true true e f ih =
        let q = h (suc n) f in
        let w : who j ≡ true = subst (λ x. who x ≡ true) q.0 e in
        let z = last_one T (who j) j n a q.1 w q.0 ih in
        let y = sum in
        let x : how_many t (to_each who what (suc n)) ≡ suc a = grind arith in
        omega arith
    go true false e f ih = let y = sum in let x : how_many t (to_each who what (suc n)) ≡ a = grind arith in let z = wider T (who j) j n a ih in omega arith
    go false c e f ih = let y = sum in let x : how_many t (to_each who what (suc n)) ≡ a = grind arith in let z = wider T (who j) j n a ih in omega arith

-- ## What may have gone
abbrev pub is-echoed : Proposal → Bool
is-echoed nothing = false
is-echoed (waiting x) = false
is-echoed (echoed x) = true
is-echoed dropped = false

-- a message of this kind is made in the record's view; a suggest or a proof always is
abbrev pub is_made : Record → ℕ → Bool
is_made r kind =
    cond (eqb kind 4) (not (none r.offer))
    (cond (eqb kind 5) (is-echoed r.proposal) (cond (between 6 9 kind) (eqb (r.field kind).at r.view) true))

-- a message of this kind and view may have gone to party j
abbrev pub used : ℕ → Party → ℕ → ℕ → ℕ → Bool
used me p j kind v =
    cond (eqb kind 1) (leb v p.rec.view)
    (cond (eqb kind 10) (not (none p.rec.done))
    (cond (eqb kind 11) (leb v (p.rows me).abort)
    (ltb v p.rec.view || (eqb v p.rec.view && (is_made p.rec kind && leb v (p.rows j).request)))))

-- what one step does to it
pub record Once (me : ℕ) (p : Party) (j kind v : ℕ) (s : Step) : Type 0 where
  -- what may have gone stays so
  pub kept : used me p j kind v ≡ true → used me s.after j kind v ≡ true
  -- what may have gone is not posted
  pub first : used me p j kind v ≡ true → how_many (like me j kind v) s.posts ≡ 0
  pub single : how_many (like me j kind v) s.posts ≤ 1
  -- what is posted may then have gone
  pub marked : used me s.after j kind v ≡ false → how_many (like me j kind v) s.posts ≡ 0
  -- and every post is in the party's own name
  pub mine : All (λ m. m.from ≡ me) s.posts

-- nothing is posted in another party's name
pub not_mine : (me i j kind v : ℕ) (xs : List Msg) → eqb me i ≡ false → All (λ m. m.from ≡ me) xs → how_many (like i j kind v) xs ≡ 0
unfolding how_many
not_mine me i j kind v [] e h = refl
not_mine me i j kind v (x ∷ xs) e h =
    let ih = not_mine me i j kind v xs e h.1 in
    let q = h.0 in
    grind arith

-- what a step within a view may change, for one receiver: all of it only grows
pub record Grown (me : ℕ) (p q : Party) (j : ℕ) : Type 0 where
  pub view : q.rec.view ≡ p.rec.view
  pub request : (p.rows j).request ≤ (q.rows j).request
  pub abort : (p.rows me).abort ≤ (q.rows me).abort
  pub done : none p.rec.done ≡ false → none q.rec.done ≡ false
  pub made : (kind : ℕ) → is_made p.rec kind ≡ true → is_made q.rec kind ≡ true

module _ (g : Setting) (me j k v : ℕ) where
  abbrev N : List Msg → ℕ
  N xs = how_many (like me j k v) xs

  abbrev O : Party → Step → Type 0
  O p s = Once me p j k v s

  -- the tests of `used`, over plain values
  kept_plain : (w w' r r' a a' : ℕ) (d d' m m' : Bool) → w' ≡ w → r ≤ r' → a ≤ a' → (d ≡ false → d' ≡ false) → (m ≡ true → m' ≡ true) →
      cond (eqb k 1) (leb v w) (cond (eqb k 10) (not d) (cond (eqb k 11) (leb v a) (ltb v w || (eqb v w && (m && leb v r))))) ≡ true →
      cond (eqb k 1) (leb v w') (cond (eqb k 10) (not d') (cond (eqb k 11) (leb v a') (ltb v w' || (eqb v w' && (m' && leb v r'))))) ≡ true
  kept_plain w w' r r' a a' d d' m m' e h i x y u = grind (arith, nat_tests)

  grown_used : (p q : Party) → Grown me p q j → used me p j k v ≡ true → used me q j k v ≡ true
  grown_used p q h u =
      kept_plain p.rec.view q.rec.view (p.rows j).request (q.rows j).request (p.rows me).abort (q.rows me).abort
      (none p.rec.done) (none q.rec.done) (is_made p.rec k) (is_made q.rec k) h.view h.request h.abort h.done (h.made k) u

  once_still : (p q : Party) → Grown me p q j → O p (still q)
  unfolding how_many
  once_still p q h = record { kept = grown_used p q h; first = λ _. refl; single = omega arith; marked = λ _. refl; mine = tt }

  once_then : (p : Party) (s : Step) (next : Party → Step) → O p s → O s.after (next s.after) → O p (and_then s next)
  once_then p s next a b =
      record {
        kept = λ u. b.kept (a.kept u);
        first = λ u. let x = a.first u in let y = b.first (a.kept u) in omega (arith, sum);
        single = single (used me s.after j k v) refl;
        marked = λ u. marked u (used me s.after j k v) refl;
        mine = All-append _ s.posts (next s.after).posts a.mine b.mine;
      }
    where
      sum : N (s.posts ++ (next s.after).posts) ≡ N s.posts + N (next s.after).posts
      sum = how_many_append (like me j k v) s.posts (next s.after).posts

      single : (x : Bool) → used me s.after j k v ≡ x → N (s.posts ++ (next s.after).posts) ≤ 1
      single true e = let y = b.first e in let z = a.single in omega (arith, sum)
      single false e = let y = a.marked e in let z = b.single in omega (arith, sum)

      marked : used me (next s.after).after j k v ≡ false → (x : Bool) → used me s.after j k v ≡ x → N (s.posts ++ (next s.after).posts) ≡ 0
      marked u true e = absurd (both_ways _ u (b.kept e))
      marked u false e = let y = a.marked e in let z = b.marked u in omega (arith, sum)

  -- a step that posts at most one, only where nothing may have gone, and then marks it
  once_from : (p : Party) (s : Step) (b : Bool) → (used me p j k v ≡ true → used me s.after j k v ≡ true) → N s.posts ≤ cond b 1 0 →
      (b ≡ true → used me p j k v ≡ false) → (b ≡ true → used me s.after j k v ≡ true) → All (λ m. m.from ≡ me) s.posts → O p s
  once_from p s true kept few before after mine =
      record {
        kept = kept;
        first = λ u. absurd (both_ways _ (before refl) u);
        single = few;
        marked = λ u. absurd (both_ways _ u (after refl));
        mine = mine;
      }
  once_from p s false kept few before after mine =
      record { kept = kept; first = λ u. omega arith; single = omega arith; marked = λ u. omega arith; mine = mine }

  -- ## What is made, to each party that has joined the view
  before_plain : (K w r a : ℕ) (d m : Bool) → 4 ≤ K → K ≤ 9 → eqb K k ≡ true → eqb w v ≡ true → m ≡ false →
      cond (eqb k 1) (leb v w) (cond (eqb k 10) (not d) (cond (eqb k 11) (leb v a) (ltb v w || (eqb v w && (m && leb v r))))) ≡ false
  before_plain K w r a d m lo hi x y z = grind (arith, nat_tests)

  after_plain : (K w w' r r' a : ℕ) (d m : Bool) → 4 ≤ K → K ≤ 9 → eqb K k ≡ true → eqb w v ≡ true → eqb r w ≡ true → w' ≡ w → r ≤ r' → m ≡ true →
      cond (eqb k 1) (leb v w') (cond (eqb k 10) (not d) (cond (eqb k 11) (leb v a) (ltb v w' || (eqb v w' && (m && leb v r'))))) ≡ true
  after_plain K w w' r r' a d m lo hi x y z e i f = grind (arith, nat_tests)

  like_parts : (m : Msg) → like me j k v m ≡ true → (m.to ≡ j) × ((eqb m.kind k && eqb m.view v) ≡ true)
  like_parts m h =
      let a = and_parts (eqb m.from me) _ h in
      let b = and_parts (eqb m.to j) (eqb m.kind k && eqb m.view v) a.1 in
      (eqb-true _ _ b.0, b.1)

  once_joined : (p q : Party) (K : ℕ) (what : ℕ → Msg) → 4 ≤ K → K ≤ 9 → Grown me p q j → is_made p.rec K ≡ false → is_made q.rec K ≡ true →
      ((i : ℕ) → (what i).from ≡ me) → ((i : ℕ) → (what i).to ≡ i) → ((i : ℕ) → (what i).kind ≡ K) → ((i : ℕ) → (what i).view ≡ p.rec.view) →
      O p (record { after = q; posts = to_joined g me p what })
  once_joined p q K what lo hi grown before after from to kind view =
      once_from p _ (T && (eqb (p.rows j).request p.rec.view && leb j g.n)) (grown_used p q grown)
      (each-count (like me j k v) T j (λ i. eqb (p.rows i).request p.rec.view) what g.n
      (λ i h. let a = like_parts (what i) h in (sym (to i) ∙ a.0, subst₂ (λ x y. (eqb x k && eqb y v) ≡ true) (kind i) (view i) a.1)))
      (λ e. let a = and_parts T _ e in let b = and_parts (eqb K k) (eqb p.rec.view v) a.0 in
      before_plain K p.rec.view (p.rows j).request (p.rows me).abort (none p.rec.done) (is_made p.rec k) lo hi b.0 b.1 (subst (λ x. is_made p.rec x ≡ false) (eqb-true _ _ b.0) before))
      (λ e. let a = and_parts T _ e in let b = and_parts (eqb K k) (eqb p.rec.view v) a.0 in
      let c = and_parts (eqb (p.rows j).request p.rec.view) (leb j g.n) a.1 in
      after_plain K p.rec.view q.rec.view (p.rows j).request (q.rows j).request (q.rows me).abort (none q.rec.done) (is_made q.rec k) lo hi b.0 b.1 c.0
      grown.view grown.request (subst (λ x. is_made q.rec x ≡ true) (eqb-true _ _ b.0) after))
      (all_each _ _ what g.n (λ i _ _ _. from i))
    where
      T : Bool
      T = eqb K k && eqb p.rec.view v

  once_more : (p q : Party) (s : Step) → Grown me p q j → O q s → O p s
  once_more p q s h o =
      record {
        kept = λ u. o.kept (grown_used p q h u);
        first = λ u. o.first (grown_used p q h u);
        single = o.single;
        marked = o.marked;
        mine = o.mine;
      }

  -- ## What grows
  grown_rec : (p : Party) (r : Record) → r.view ≡ p.rec.view → (none p.rec.done ≡ false → none r.done ≡ false) →
      ((kind : ℕ) → is_made p.rec kind ≡ true → is_made r kind ≡ true) → Grown me p (with_rec p r) j
  grown_rec p r a b c = record { view = a; request = omega arith; abort = omega arith; done = b; made = c }

  grown_row : (p : Party) (i : ℕ) (r : Row) → (p.rows i).request ≤ r.request → (p.rows i).abort ≤ r.abort → Grown me p (with_row p i r) j
  grown_row p i r a b =
      record { view = refl; request = at_least (λ x. x.request) a j; abort = at_least (λ x. x.abort) b me; done = λ e. e; made = λ _ e. e }
    where
      at_least : (F : Row → ℕ) → F (p.rows i) ≤ F r → (y : ℕ) → F (p.rows y) ≤ F (upd p.rows i r y)
      at_least F h y =
          cond_both (eqb y i) r (p.rows y) (λ (x : Row). F (p.rows y) ≤ F x)
          (λ e. let q : i ≡ y = sym (eqb-true y i e) in subst (λ z. F (p.rows z) ≤ F r) q h) (λ _. omega arith)

  -- ## What is sent to all
  done-before : (w r a : ℕ) (d m : Bool) → (eqb 10 k && eqb 0 v) ≡ true → d ≡ true →
      cond (eqb k 1) (leb v w) (cond (eqb k 10) (not d) (cond (eqb k 11) (leb v a) (ltb v w || (eqb v w && (m && leb v r))))) ≡ false
  done-before w r a d m x y = grind (arith, nat_tests)

  done-after : (w r a : ℕ) (d m : Bool) → (eqb 10 k && eqb 0 v) ≡ true → d ≡ false →
      cond (eqb k 1) (leb v w) (cond (eqb k 10) (not d) (cond (eqb k 11) (leb v a) (ltb v w || (eqb v w && (m && leb v r))))) ≡ true
  done-after w r a d m x y = grind (arith, nat_tests)

  abort-before : (u w r a : ℕ) (d m : Bool) → (eqb 11 k && eqb u v) ≡ true → a < u →
      cond (eqb k 1) (leb v w) (cond (eqb k 10) (not d) (cond (eqb k 11) (leb v a) (ltb v w || (eqb v w && (m && leb v r))))) ≡ false
  abort-before u w r a d m x y = grind (arith, nat_tests)

  abort-after : (u w r a : ℕ) (d m : Bool) → (eqb 11 k && eqb u v) ≡ true → a ≡ u →
      cond (eqb k 1) (leb v w) (cond (eqb k 10) (not d) (cond (eqb k 11) (leb v a) (ltb v w || (eqb v w && (m && leb v r))))) ≡ true
  abort-after u w r a d m x y = grind (arith, nat_tests)

  all_count : (K u : ℕ) (what : ℕ → Msg) → ((i : ℕ) → (what i).to ≡ i) → ((i : ℕ) → (what i).kind ≡ K) → ((i : ℕ) → (what i).view ≡ u) →
      N (to_all g me what) ≤ cond ((eqb K k && eqb u v) && (true && leb j g.n)) 1 0
  all_count K u what to kind view =
      each-count (like me j k v) (eqb K k && eqb u v) j (λ _. true) what g.n
      (λ i h. let a = like_parts (what i) h in (sym (to i) ∙ a.0, subst₂ (λ x y. (eqb x k && eqb y v) ≡ true) (kind i) (view i) a.1))

  once_say_done : (p : Party) (x : List ℕ) → none p.rec.done ≡ true → O p (say_done g me p x)
  once_say_done p x h =
      once_from p (say_done g me p x) ((eqb 10 k && eqb 0 v) && (true && leb j g.n))
      (grown_used p _ (grown_rec p (with_done p.rec x) refl (λ _. refl) (λ _ e. e)))
      (all_count 10 0 (vote_msg g me 10 0 x) (λ _. refl) (λ _. refl) (λ _. refl))
      (λ e. done-before p.rec.view (p.rows j).request (p.rows me).abort (none p.rec.done) (is_made p.rec k) (and_parts _ _ e).0 h)
      (λ e. done-after p.rec.view (p.rows j).request (p.rows me).abort false (is_made p.rec k) (and_parts _ _ e).0 refl)
      (all_each _ _ _ g.n (λ _ _ _ _. refl))

  once_say_abort : (p : Party) (u : ℕ) → (p.rows me).abort < u → O p (say_abort g me p u)
  once_say_abort p u h =
      once_from p (say_abort g me p u) ((eqb 11 k && eqb u v) && (true && leb j g.n))
      (grown_used p _ (grown_row p me (with_abort (p.rows me) u) (omega arith) (omega arith)))
      (all_count 11 u (view_msg g me 11 u) (λ _. refl) (λ _. refl) (λ _. refl))
      (λ e. abort-before u p.rec.view (p.rows j).request (p.rows me).abort (none p.rec.done) (is_made p.rec k) (and_parts (eqb 11 k && eqb u v) _ e).0 h)
      (λ e. abort-after u p.rec.view ((say_abort g me p u).after.rows j).request ((say_abort g me p u).after.rows me).abort (none p.rec.done) (is_made p.rec k)
      (and_parts (eqb 11 k && eqb u v) _ e).0 own)
      (all_each _ _ _ g.n (λ _ _ _ _. refl))
    where
      own : (upd p.rows me (with_abort (p.rows me) u) me).abort ≡ u
      own = cond_both (eqb me me) (with_abort (p.rows me) u) (p.rows me) (λ (x : Row). x.abort ≡ u) (λ _. refl) (λ e. absurd (both_ways _ e (eq-eqb me me refl)))

  -- ## Entering a view
  enter-kept : (u w r a : ℕ) (d m m' : Bool) → w < u →
      cond (eqb k 1) (leb v w) (cond (eqb k 10) (not d) (cond (eqb k 11) (leb v a) (ltb v w || (eqb v w && (m && leb v r))))) ≡ true →
      cond (eqb k 1) (leb v u) (cond (eqb k 10) (not d) (cond (eqb k 11) (leb v a) (ltb v u || (eqb v u && (m' && leb v r))))) ≡ true
  enter-kept u w r a d m m' l h = grind (arith, nat_tests)

  -- of what goes out on entering view u: a request, or a suggest or proof to one that has asked for it
  abbrev on_entry : ℕ → ℕ → Bool
  on_entry u r = eqb u v && (eqb 1 k || (eqb r u && (eqb 2 k || eqb 3 k)))

  enter-before : (u w r a : ℕ) (d m : Bool) → w < u → on_entry u r ≡ true →
      cond (eqb k 1) (leb v w) (cond (eqb k 10) (not d) (cond (eqb k 11) (leb v a) (ltb v w || (eqb v w && (m && leb v r))))) ≡ false
  enter-before u w r a d m l h = grind (arith, nat_tests)

  enter-after : (u r a : ℕ) (d m : Bool) → (2 ≤ k → k ≤ 3 → m ≡ true) → on_entry u r ≡ true →
      cond (eqb k 1) (leb v u) (cond (eqb k 10) (not d) (cond (eqb k 11) (leb v a) (ltb v u || (eqb v u && (m && leb v r))))) ≡ true
  enter-after u r a d m l h = grind (arith, nat_tests)

  enter-sum : (u r x y z : ℕ) (c s : Bool) → x ≤ cond ((eqb 1 k && eqb u v) && (true && c)) 1 0 → y ≤ cond (eqb r u && (eqb 2 k && eqb u v)) 1 0 →
      z ≤ cond ((eqb 3 k && eqb u v) && (eqb r u && c)) 1 0 → x + (y + z) ≤ cond (on_entry u r) 1 0
  enter-sum u r x y z c s a b d = grind (arith, nat_tests)

  made_always : (r : Record) → 2 ≤ k → k ≤ 3 → is_made r k ≡ true
  made_always r a b = grind (arith, nat_tests)

  -- a number that a test bounds, by a wider test
  bound_by : (b c : Bool) (x : ℕ) → (b ≡ true → c ≡ true) → x ≡ cond b 1 0 → x ≤ cond c 1 0
  bound_by true c x h e = rw (h refl) (omega arith)
  bound_by false c x h e = omega arith

  pub once_enter : (p : Party) (u : ℕ) → p.rec.view < u → Once me p j k v (enter g me p u)
  unfolding enter
  once_enter p u l =
      once_from p (enter g me p u) (on_entry u r)
      (enter-kept u p.rec.view r (p.rows me).abort (none p.rec.done) (is_made p.rec k) (is_made (entered g me p.rec u) k) l)
      (rw (how_many_append (like me j k v) A (B ++ C), how_many_append (like me j k v) B C)
      (enter-sum u r (N A) (N B) (N C) (leb j g.n) true
      (all_count 1 u (view_msg g me 1 u) (λ _. refl) (λ _. refl) (λ _. refl))
      suggests
      (each-count (like me j k v) (eqb 3 k && eqb u v) j (λ i. eqb (p.rows i).request u) (proof_msg g me u (entered g me p.rec u).proof) g.n (λ i h. like_parts (proof_msg g me u (entered g me p.rec u).proof i) h))))
      (enter-before u p.rec.view r (p.rows me).abort (none p.rec.done) (is_made p.rec k) l)
      (enter-after u r (p.rows me).abort (none p.rec.done) (is_made (entered g me p.rec u) k) (made_always (entered g me p.rec u)))
      (All-append _ A (B ++ C) (all_each _ _ _ g.n (λ _ _ _ _. refl))
      (All-append _ B C (all_one _ (eqb (p.rows (primary g u)).request u) _ (λ _. refl)) (all_each _ _ _ g.n (λ _ _ _ _. refl))))
    where
      r : ℕ
      r = (p.rows j).request

      q : Party
      q = record { rec = entered g me p.rec u; rows = λ i. cleared (p.rows i) }

      A : List Msg
      A = to_all g me (view_msg g me 1 u)

      the_suggest : Msg
      the_suggest = suggest_msg g me u (entered g me p.rec u).suggest (primary g u)

      B : List Msg
      B = cond (eqb (p.rows (primary g u)).request u) (the_suggest ∷ []) []

      C : List Msg
      C = to_joined g me q (proof_msg g me u (entered g me p.rec u).proof)

      suggests : N B ≤ cond (eqb r u && (eqb 2 k && eqb u v)) 1 0
      suggests =
          bound_by (eqb (p.rows (primary g u)).request u && like me j k v the_suggest) (eqb r u && (eqb 2 k && eqb u v)) (N B)
          (λ e. let a = and_parts (eqb (p.rows (primary g u)).request u) (like me j k v the_suggest) e in
          let b = like_parts the_suggest a.1 in
          and_from (eqb r u) (eqb 2 k && eqb u v) (subst (λ i. eqb (p.rows i).request u ≡ true) b.0 a.0) b.1)
          (how_many_if (like me j k v) (eqb (p.rows (primary g u)).request u) the_suggest)

  -- ## A request: all that was made, to one that had not asked before
  -- one kind after another, each at most once
  next-kind : (F : ℕ → Bool) (lo x y : ℕ) → x ≤ cond (eqb lo k && F lo) 1 0 → y ≤ cond (leb (suc lo) k && F k) 1 0 → x + y ≤ cond (leb lo k && F k) 1 0
  next-kind F lo x y a b =
      elim (cases_order lo k) [
        | inl e ↦ (let q : F lo ≡ F k = ap F e in grind (arith, nat_tests))
        | inr o ↦ elim o [ inl l ↦ grind (arith, nat_tests) | inr l ↦ grind (arith, nat_tests) ]
      ]

  last_kind : (F : ℕ → Bool) (lo x : ℕ) → x ≤ cond (eqb lo k && F lo) 1 0 → x ≤ cond (leb lo k && F k) 1 0
  last_kind F lo x a = let z = next-kind F lo x 0 a (omega arith) in omega arith

  module _ (r : Record) (to : ℕ) where
    -- what may go to party j of this kind and view
    abbrev due : ℕ → Bool
    due kind = leb kind 9 && ((eqb to j && eqb r.view v) && is_made r kind)

    one_due : (K : ℕ) (m : Msg) (b : Bool) → K ≤ 9 → m.to ≡ to → m.kind ≡ K → m.view ≡ r.view → (b ≡ true → is_made r K ≡ true) →
        N (cond b (m ∷ []) []) ≤ cond (eqb K k && due K) 1 0
    one_due K m b l e f h i =
        bound_by (b && like me j k v m) (eqb K k && due K) (N (cond b (m ∷ []) []))
        (λ x. let a = and_parts b (like me j k v m) x in
        let c = like_parts m a.1 in
        let d = and_parts (eqb m.kind k) (eqb m.view v) c.1 in
        and_from (eqb K k) (due K) (subst (λ y. eqb y k ≡ true) f d.0)
        (and_from (leb K 9) _ (le-leb K 9 l)
        (and_from (eqb to j && eqb r.view v) (is_made r K)
        (and_from (eqb to j) (eqb r.view v) (eq-eqb to j (sym e ∙ c.0)) (subst (λ y. eqb y v ≡ true) h d.1)) (i a.0))))
        (how_many_if (like me j k v) b m)

    offer_due : (o : Option Keyed) → r.offer ≡ o → N (made_offer g me r.view o to) ≤ cond (eqb 4 k && due 4) 1 0
    unfolding how_many
    offer_due None e = omega arith
    offer_due (Some x) e = one_due 4 (propose_msg g me r.view x to) true (omega arith) refl refl refl (λ _. rw e refl)

    echo_due : (o : Proposal) → r.proposal ≡ o → N (made_echo g me r.view o to) ≤ cond (eqb 5 k && due 5) 1 0
    unfolding how_many
    echo_due nothing e = omega arith
    echo_due (waiting x) e = omega arith
    echo_due (echoed x) e = one_due 5 (vote_msg g me 5 r.view x to) true (omega arith) refl refl refl (λ _. rw e refl)
    echo_due dropped e = omega arith

    made_due : N (made g me r to) ≤ cond (leb 3 k && due k) 1 0
    unfolding made
    made_due =
        rw (
          how_many_append t P₃ (P₄ ++ (P₅ ++ (P₆ ++ (P₇ ++ (P₈ ++ P₉))))),
          how_many_append t P₄ (P₅ ++ (P₆ ++ (P₇ ++ (P₈ ++ P₉)))),
          how_many_append t P₅ (P₆ ++ (P₇ ++ (P₈ ++ P₉))),
          how_many_append t P₆ (P₇ ++ (P₈ ++ P₉)),
          how_many_append t P₇ (P₈ ++ P₉),
          how_many_append t P₈ P₉,
        )
        (next-kind due 3 (N P₃) _ (one_due 3 (proof_msg g me r.view r.proof to) true (omega arith) refl refl refl (λ _. refl))
        (next-kind due 4 (N P₄) _ (offer_due r.offer refl)
        (next-kind due 5 (N P₅) _ (echo_due r.proposal refl)
        (next-kind due 6 (N P₆) _ (vote_due 6 (omega arith) (λ e. e))
        (next-kind due 7 (N P₇) _ (vote_due 7 (omega arith) (λ e. e))
        (next-kind due 8 (N P₈) _ (vote_due 8 (omega arith) (λ e. e)) (last_kind due 9 (N P₉) (vote_due 9 (omega arith) (λ e. e)))))))))
      where
        t : Msg → Bool
        t = like me j k v

        P₃ : List Msg
        P₃ = proof_msg g me r.view r.proof to ∷ []

        P₄ : List Msg
        P₄ = made_offer g me r.view r.offer to

        P₅ : List Msg
        P₅ = made_echo g me r.view r.proposal to

        P₆ : List Msg
        P₆ = made_vote g me 6 r to

        P₇ : List Msg
        P₇ = made_vote g me 7 r to

        P₈ : List Msg
        P₈ = made_vote g me 8 r to

        P₉ : List Msg
        P₉ = made_vote g me 9 r to

        vote_due : (K : ℕ) → K ≤ 9 → (eqb (r.field K).at r.view ≡ true → is_made r K ≡ true) → N (made_vote g me K r to) ≤ cond (eqb K k && due K) 1 0
        vote_due K l h = one_due K (vote_msg g me K r.view (r.field K).value to) (eqb (r.field K).at r.view) l refl refl refl h

    answer_due : N (suggest_to g me r to ++ made g me r to) ≤ cond (leb 2 k && due k) 1 0
    answer_due =
        rw (how_many_append (like me j k v) (suggest_to g me r to) (made g me r to))
        (next-kind due 2 (N (suggest_to g me r to)) (N (made g me r to))
        (one_due 2 (suggest_msg g me r.view r.suggest to) (eqb to (primary g r.view)) (omega arith) refl refl refl (λ _. refl)) made_due)

  request-before : (to w r a : ℕ) (d m : Bool) → (leb 2 k && (leb k 9 && ((eqb to j && eqb w v) && m))) ≡ true → r < w →
      cond (eqb k 1) (leb v w) (cond (eqb k 10) (not d) (cond (eqb k 11) (leb v a) (ltb v w || (eqb v w && (m && leb v r))))) ≡ false
  request-before to w r a d m h l = grind (arith, nat_tests)

  request-after : (to w r a : ℕ) (d m : Bool) → (leb 2 k && (leb k 9 && ((eqb to j && eqb w v) && m))) ≡ true → r ≡ w →
      cond (eqb k 1) (leb v w) (cond (eqb k 10) (not d) (cond (eqb k 11) (leb v a) (ltb v w || (eqb v w && (m && leb v r))))) ≡ true
  request-after to w r a d m h l = grind (arith, nat_tests)

  due_to : (r : Record) (to : ℕ) → (leb 2 k && due r to k) ≡ true → to ≡ j
  due_to r to h =
      let a = and_parts (leb 2 k) (due r to k) h in
      let b = and_parts (leb k 9) _ a.1 in
      let c = and_parts (eqb to j && eqb r.view v) _ b.1 in
      eqb-true _ _ (and_parts (eqb to j) (eqb r.view v) c.0).0

  module _ (p : Party) (m : Msg) where
    asked : Row
    asked = with_request (p.rows m.from) m.view

    once_request : (p.rows m.from).request < m.view → O p (on_request g me p m)
    unfolding on_request asked
    once_request l =
        cond_both (eqb m.view p.rec.view) (suggest_to g me p.rec m.from ++ made g me p.rec m.from) []
        (λ (xs : List Msg). O p (record { after = q; posts = xs })) answered (λ _. once_still p q grown)
      where
        q : Party
        q = with_row p m.from asked

        grown : Grown me p q j
        grown = grown_row p m.from asked (omega arith) (omega arith)

        risen : m.from ≡ j → (q.rows j).request ≡ m.view
        risen e = cond_both (eqb j m.from) asked (p.rows j) (λ (x : Row). x.request ≡ m.view) (λ _. refl) (λ f. absurd (both_ways _ f (eq-eqb j m.from (sym e))))

        answered : eqb m.view p.rec.view ≡ true → O p (record { after = q; posts = suggest_to g me p.rec m.from ++ made g me p.rec m.from })
        answered e =
            let same = eqb-true m.view p.rec.view e in
            once_from p _ (leb 2 k && due p.rec m.from k) (grown_used p q grown) (answer_due p.rec m.from)
            (λ f. request-before m.from p.rec.view (p.rows j).request (p.rows me).abort (none p.rec.done) (is_made p.rec k) f
            (let z = due_to p.rec m.from f in let y : (p.rows j).request < m.view = subst (λ i. (p.rows i).request < m.view) z l in omega arith))
            (λ f. request-after m.from p.rec.view (q.rows j).request (q.rows me).abort (none p.rec.done) (is_made p.rec k) f (risen (due_to p.rec m.from f) ∙ same))
            (All-append _ (suggest_to g me p.rec m.from) (made g me p.rec m.from) (all_one _ (eqb m.from (primary g p.rec.view)) _ (λ _. refl))
            (all_made g me _ p.rec m.from refl (λ _ _. refl) (λ _ _. refl) (λ _ _ _ _. refl)))

  -- ## The other steps
  once_same : (p : Party) → O p (still p)
  once_same p = once_still p p (grown_rec p p.rec refl (λ e. e) (λ _ e. e))

  once_propose : (p : Party) (o : Option Suggest) → none p.rec.offer ≡ true → O p (propose g me p o)
  once_propose p None h = once_same p
  once_propose p (Some s) h =
      once_joined p _ 4 (propose_msg g me p.rec.view s.key3) (omega arith) (omega arith)
      (grown_rec p (with_offer p.rec s.key3) refl (λ e. e) more) (rw h refl) refl (λ _. refl) (λ _. refl) (λ _. refl) (λ _. refl)
    where
      more : (kind : ℕ) → is_made p.rec kind ≡ true → is_made (with_offer p.rec s.key3) kind ≡ true
      more kind e = grind (arith, nat_tests)

  once_suggest : (p : Party) (m : Msg) → O p (on_suggest g me p m)
  unfolding on_suggest
  once_suggest p m =
      once_more p (told_suggest g me p m) _ (grown_row p m.from _ (omega arith) (omega arith))
      (cond_both (propose_due g me (told_suggest g me p m)) _ _ (O (told_suggest g me p m))
      (λ e. once_propose (told_suggest g me p m) (best g (told_suggest g me p m) g.n) (and_parts (none p.rec.offer) _ e).0)
      (λ _. once_same (told_suggest g me p m)))

  -- a proposal that was not echoed may become any other
  grown_proposal : (p : Party) (x : Proposal) → is-echoed p.rec.proposal ≡ false → Grown me p (with_rec p (with_proposal p.rec x)) j
  grown_proposal p x h = grown_rec p (with_proposal p.rec x) refl (λ e. e) more
    where
      more : (kind : ℕ) → is_made p.rec kind ≡ true → is_made (with_proposal p.rec x) kind ≡ true
      more kind e = grind (arith, nat_tests)

  once_echo : (p : Party) (x : List ℕ) → is-echoed p.rec.proposal ≡ false → O p (echo g me p x)
  once_echo p x h =
      once_joined p _ 5 (vote_msg g me 5 p.rec.view x) (omega arith) (omega arith) (grown_proposal p (echoed x) h) h refl
      (λ _. refl) (λ _. refl) (λ _. refl) (λ _. refl)

  once_wake_proposal : (o : Proposal) (p : Party) → p.rec.proposal ≡ o → O p (wake_proposal g me o p)
  once_wake_proposal nothing p h = once_same p
  once_wake_proposal (waiting x) p h =
      cond_both (equal (p.rec.field 9).value x || lock_opened g p) _ _ (O p) (λ _. once_echo p x (ap is-echoed h)) (λ _. once_same p)
  once_wake_proposal (echoed x) p h = once_same p
  once_wake_proposal dropped p h = once_same p

  once_wake : (p : Party) → O p (wake g me p)
  unfolding wake
  once_wake p = once_wake_proposal p.rec.proposal p refl

  once_proof : (p : Party) (m : Msg) → O p (on_proof g me p m)
  unfolding on_proof
  once_proof p m = once_more p (told_proof g me p m) _ (grown_row p m.from _ (omega arith) (omega arith)) (once_wake (told_proof g me p m))

  once_on_propose : (p : Party) (m : Msg) → is-echoed p.rec.proposal ≡ false → O p (on_propose g me p m)
  unfolding on_propose
  once_on_propose p m h =
      cond_both (not (g.allows m.value)) _ _ (O p) (λ _. once_still p _ (grown_proposal p dropped h))
      (λ _. cond_both (lock_fits g me p.rec m.value) _ _ (O p) (λ _. once_echo p m.value h)
      (λ _. cond_both (may_wait g me p.rec m.key) _ _ (O p)
      (λ _. once_more p (with_rec p (with_proposal p.rec (waiting m.value))) _ (grown_proposal p (waiting m.value) h)
      (once_wake (with_rec p (with_proposal p.rec (waiting m.value)))))
      (λ _. once_still p _ (grown_proposal p dropped h))))

  -- a field that moves to the view
  moved_more : (r : Record) (K : ℕ) (x : List ℕ) (kind : ℕ) → is_made r kind ≡ true → is_made (moved g me r K x) kind ≡ true
  moved_more r K x kind e = grind (arith, nat_tests)

  moved_before : (r : Record) (K : ℕ) → 6 ≤ K → K ≤ 9 → (r.field K).at < r.view → is_made r K ≡ false
  moved_before r K a b l = grind (arith, nat_tests)

  moved-after : (r : Record) (K : ℕ) (x : List ℕ) → 6 ≤ K → K ≤ 9 → is_made (moved g me r K x) K ≡ true
  moved-after r K x a b = grind (arith, nat_tests)

  once_vote : (p : Party) (m : Msg) → 5 ≤ m.kind → m.kind ≤ 8 → O p (on_vote g me p m)
  unfolding on_vote
  once_vote p m lo hi =
      once_more p q _ (grown_row p m.from _ (omega arith) (omega arith))
      (cond_both (announce_due g me q m.kind m.value) _ _ (O q)
      (λ e. let a = and_parts (voted g q m.kind m.value) (ltb (p.rec.field K).at p.rec.view) e in
      once_joined q _ K (vote_msg g me K p.rec.view m.value) (omega arith) (omega arith)
      (grown_rec q (moved g me p.rec K m.value) refl (λ f. f) (moved_more p.rec K m.value))
      (moved_before p.rec K (omega arith) (omega arith) (ltb-true _ _ a.1)) (moved-after p.rec K m.value (omega arith) (omega arith))
      (λ _. refl) (λ _. refl) (λ _. refl) (λ _. refl))
      (λ _. once_same q))
    where
      q : Party
      q = told_vote g me p m

      K : ℕ
      K = suc m.kind

  once_lock : (p : Party) (m : Msg) → O p (on_lock g me p m)
  unfolding on_lock
  once_lock p m =
      once_more p (told_vote g me p m) _ (grown_row p m.from _ (omega arith) (omega arith))
      (cond_both (none p.rec.done && voted g (told_vote g me p m) 9 m.value) _ _ (O (told_vote g me p m))
      (λ e. once_say_done (told_vote g me p m) m.value (and_parts (none p.rec.done) _ e).0) (λ _. once_same (told_vote g me p m)))

  once_decide : (x : List ℕ) (p : Party) → O p (decide g me x p)
  once_decide x p =
      cond_both (done_agreed g p x) _ _ (O p) (λ _. once_still p _ (grown_rec p (with_decision p.rec x) refl (λ e. e) (λ _ e. e))) (λ _. once_same p)

  once_done : (p : Party) (m : Msg) → O p (on_done g me p m)
  unfolding on_done
  once_done p m =
      once_then p (join_done g me (told_done g me p m) m.value) (decide g me m.value)
      (once_more p (told_done g me p m) _ (grown_row p m.from _ (omega arith) (omega arith))
      (cond_both (none p.rec.done && done_vouched g (told_done g me p m) m.value) _ _ (O (told_done g me p m))
      (λ e. once_say_done (told_done g me p m) m.value (and_parts (none p.rec.done) _ e).0) (λ _. once_same (told_done g me p m))))
      (once_decide m.value _)

  once_leave : (p : Party) → O p (leave g me p)
  unfolding leave
  once_leave p =
      cond_both (leb p.rec.view (reached g (aborts g me p))) _ _ (O p)
      (λ e. let l = leb-true _ _ e in once_enter p (suc (reached g (aborts g me p))) (omega arith)) (λ _. once_same p)

  once_join_abort : (p : Party) → O p (join_abort g me p)
  unfolding join_abort
  once_join_abort p =
      cond_both (ltb (aborts g me p me) (vouched g (aborts g me p))) _ _ (O p)
      (λ e. once_say_abort p (vouched g (aborts g me p)) (ltb-true _ _ e)) (λ _. once_same p)

  once_abort : (p : Party) (m : Msg) → O p (on_abort g me p m)
  unfolding on_abort
  once_abort p m =
      once_then p (join_abort g me told) (leave g me)
      (once_more p told _ (grown_row p m.from _ (omega arith) (omega arith)) (once_join_abort told)) (once_leave _)
    where
      told : Party
      told = with_row p m.from (with_abort (p.rows m.from) (max (p.rows m.from).abort m.view))

  pub once_timer : (p : Party) → Once me p j k v (on_timer g me p)
  unfolding on_timer
  once_timer p =
      once_then p (cond (ltb (aborts g me p me) p.rec.view) (say_abort g me p p.rec.view) (still p)) (leave g me)
      (cond_both (ltb (aborts g me p me) p.rec.view) _ _ (O p) (λ e. once_say_abort p p.rec.view (ltb-true _ _ e)) (λ _. once_same p)) (once_leave _)

  -- ## One message
  not_echoed : (o : Proposal) → is_nothing g o ≡ true → is-echoed o ≡ false
  not_echoed nothing h = refl
  not_echoed (waiting x) h = refl
  not_echoed (echoed x) h = absurd (both_ways _ refl h)
  not_echoed dropped h = refl

  module _ (p : Party) (m : Msg) (h : heeded g me p m ≡ true) where
    heeded-kind : (1 ≤ m.kind) × (m.kind ≤ 11)
    heeded-kind = (grind (arith, nat_tests), grind (arith, nat_tests))

    heeded-request : m.kind ≡ 1 → (p.rows m.from).request < m.view
    heeded-request e = grind (arith, nat_tests)

    heeded-propose : m.kind ≡ 4 → is_nothing g p.rec.proposal ≡ true
    heeded-propose e = grind (arith, nat_tests)

    once_react : O p (react g me p m)
    once_react =
        let low = heeded-kind.0 in
        let high = heeded-kind.1 in
        cond_both (eqb m.kind 1) _ _ (O p) (λ e. once_request p m (heeded-request (eqb-true _ _ e)))
        (λ k1. cond_both (eqb m.kind 2) _ _ (O p) (λ _. once_suggest p m)
        (λ k2. cond_both (eqb m.kind 3) _ _ (O p) (λ _. once_proof p m)
        (λ k3. cond_both (eqb m.kind 4) _ _ (O p) (λ e. once_on_propose p m (not_echoed p.rec.proposal (heeded-propose (eqb-true _ _ e))))
        (λ k4. cond_both (leb m.kind 7) _ _ (O p)
        (λ e. let lo : 5 ≤ m.kind = grind (arith, nat_tests) in let hi : m.kind ≤ 8 = grind (arith, nat_tests) in once_vote p m lo hi)
        (λ k7. cond_both (eqb m.kind 8) _ _ (O p)
        (λ e. let q = eqb-true _ _ e in once_then p (on_vote g me p m) (wake g me) (once_vote p m (omega arith) (omega arith)) (once_wake _))
        (λ k8. cond_both (eqb m.kind 9) _ _ (O p) (λ _. once_lock p m)
        (λ k9. cond_both (eqb m.kind 10) _ _ (O p) (λ _. once_done p m) (λ _. once_abort p m))))))))

  pub once_step : (p : Party) (m : Msg) → Once me p j k v (step g me p m)
  unfolding step
  once_step p m = cond_both (heeded g me p m) _ _ (O p) (λ e. once_react p m e) (λ _. once_same p)

-- over a run: what was posted so far is at most one where it may have gone, and none elsewhere; every step keeps that
pub once_total : (me : ℕ) (p : Party) (j kind v : ℕ) (s : Step) (t : ℕ) → Once me p j kind v s → t ≤ cond (used me p j kind v) 1 0 →
    t + how_many (like me j kind v) s.posts ≤ cond (used me s.after j kind v) 1 0
once_total me p j kind v s t o h = go (used me p j kind v) (used me s.after j kind v) refl refl
  where
    n : ℕ
    n = how_many (like me j kind v) s.posts

    go : (a b : Bool) → used me p j kind v ≡ a → used me s.after j kind v ≡ b → t + n ≤ cond (used me s.after j kind v) 1 0
    go true b e f = let x = o.first e in let y = o.kept e in let z : t ≤ 1 = rw e at h in rw y (omega arith)
    go false true e f = let x = o.single in let z : t ≤ 0 = rw e at h in rw f (omega arith)
    go false false e f = let x = o.marked f in let z : t ≤ 0 = rw e at h in rw f (omega arith)
