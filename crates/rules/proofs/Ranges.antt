-- What a party posts is in range while what it keeps is, and every step keeps it so.
use Rattle.std.proofs.Common.{◌≡◌, ℕ, zero, suc, ◌<◌, ◌≤◌, Bool, true, false, cond, not, ◌&&◌, ◌||◌, eqb, ltb, leb, List, [], ◌∷◌, length, replicate, Some, None, Option, sym, refl, subst, inl, inr, arith}
use Rattle.std.specs.List.{AllByRecursion as All}
use Rattle.std.proofs.ByRecursion.{All-append}
use Rattle.std.proofs.lemmas.Nat.{mod_below}
use Rattle.std.proofs.lemmas.List.{length-replicate}
use Rattle.std.proofs.lemmas.Bool.{cond_both, cases_lt, cases_order, and_parts, and_from, eqb-true, leb-true, le-leb, ltb-true, lt-ltb}
use Rattle.std.proofs.lemmas.Bool.Decides.{nat_tests}
use Rattle.values.specs.Same.{equal}
use Rattle.messages.specs.Messages.{Msg, between, uses_view, uses_key, uses_second, uses_previous, uses_value, is_zero, is_party, last_view, highest_view, previous_fits, value_fits, in_range}
use Rattle.rules.specs.Counting.{upd}
use Rattle.rules.specs.Party.{Setting, Keyed, Suggest, Proof, Proposal, nothing, waiting, echoed, dropped, Record, Row, Party, Step, with_rec, with_row, with_done, with_decision, with_offer, with_proposal, with_request, with_abort, with_suggest, with_proof, cleared, still, and_then, none}
use Rattle.rules.specs.Thresholds.{primary, vouched, reached}
use Rattle.rules.specs.Posts.{view_msg, suggest_msg, proof_msg, propose_msg, vote_msg, to_joined}
use Rattle.rules.specs.Tests.{below, lock_opened, voted, done_vouched, done_agreed, best, higher, accepted, heeded}
use Rattle.rules.specs.Step.{step, react, on_timer, enter, entered, on_request, on_suggest, told_suggest, propose, propose_due, echo, wake, wake_proposal, on_propose, lock_fits, may_wait, on_proof, told_proof, moved, on_vote, told_vote, announce_due, on_lock, on_done, told_done, say_done, aborts, say_abort, join_abort, leave, on_abort}
use Rattle.rules.specs.Bounds.{every, row_fits, fields_fit, previous_below, record_fits, suggest_fits, proof_fits, stored_suggest_fits, offer_fits}
use Rattle.rules.specs.Facts.{PostsInRange, BoundsKept, is_value, offer_value, field_values, stored_value, proposal_value, record_values, Seated, Fits, OwnPost}
use Rattle.rules.proofs.Largest.{vouched-below, reached-below}
use Rattle.rules.proofs.Sent.{all_one, all_each, all_made}

-- every one of the parties passes, as a test and as a fact
pub every_of : (t : ℕ → Bool) (k : ℕ) → every t k ≡ true → (j : ℕ) → 1 ≤ j → j ≤ k → t j ≡ true
every_of t zero e j i l = absurd (omega arith)
every_of t (suc k) e j i l =
    let a = and_parts (t (suc k)) (every t k) e in
    elim (cases_lt k j) [ inl m ↦ let q : suc k ≡ j = omega arith in subst (λ x. t x ≡ true) q a.0 | inr m ↦ every_of t k a.1 j i m ]

pub every-from : (t : ℕ → Bool) (k : ℕ) → ((j : ℕ) → 1 ≤ j → j ≤ k → t j ≡ true) → every t k ≡ true
every-from t zero h = refl
every-from t (suc k) h = and_from (t (suc k)) (every t k) (h (suc k) (omega arith) (omega arith)) (every-from t k (λ j i l. h j i (omega arith)))

same_self : (x : List ℕ) → equal x x ≡ true
same_self [] = refl
same_self (a ∷ x) = let ih = same_self x in grind (arith, nat_tests)

-- ## Previous keys
below_more : (o : Option ℕ) (a b : ℕ) → below o a ≡ true → a ≤ b → below o b ≡ true
below_more None a b h l = refl
below_more (Some p) a b h l = lt-ltb p b (omega (arith, ltb-true p a h))

below_fits : (o : Option ℕ) (k : ℕ) → below o k ≡ true → k ≤ last_view → previous_fits o ≡ true
below_fits None k h l = refl
below_fits (Some p) k h l = le-leb p last_view (omega (arith, ltb-true p k h))

-- a previous key stays below its key when one key moves to the view
before-moved : (prev : ℕ → Option ℕ) (f : ℕ → Keyed) (c : Bool) (kind j v : ℕ) (x : List ℕ) → (f kind).at < v → below (prev j) (f j).at ≡ true →
    below (cond c (upd prev kind (Some (f kind).at)) prev j) (upd f kind (record { at = v; value = x }) j).at ≡ true
before-moved prev f c kind j v x l h = go c (eqb j kind) refl
  where
    go : (c b : Bool) → eqb j kind ≡ b → below (cond c (upd prev kind (Some (f kind).at)) prev j) (upd f kind (record { at = v; value = x }) j).at ≡ true
    go true true e = rw e (lt-ltb _ _ l)
    go true false e = rw e h
    go false true e =
        let q = eqb-true j kind e in
        let k : (f j).at ≤ v = rw q (omega arith) in
        rw e (below_more (prev j) (f j).at v h k)
    go false false e = rw e h

-- either of two stored suggests is the higher one
higher_either : (g : Setting) (P : Option Suggest → Type 0) (a b : Option Suggest) → P a → P b → P (higher g a b)
higher_either g P None b h k = k
higher_either g P (Some s) None h k = h
higher_either g P (Some s) (Some t) h k = cond_both (ltb s.key3.at t.key3.at) _ _ P (λ _. k) (λ _. h)

-- the four kinds that announce a field
by_kind : (P : ℕ → Type 0) → P 6 → P 7 → P 8 → P 9 → (k : ℕ) → 6 ≤ k → k ≤ 9 → P k
by_kind P a b c d k i j =
    elim (cases_order k 7) [
      | inl e ↦ subst P (sym e) b
      | inr o ↦ elim o [
        | inl l ↦ (let e : 6 ≡ k = omega arith in subst P e a)
        | inr l ↦ elim (cases_order k 8) [
          | inl e ↦ subst P (sym e) c
          | inr q ↦ elim q [ inl n ↦ absurd (omega arith) | inr n ↦ (let e : 9 ≡ k = omega arith in subst P e d) ]
        ]
      ]
    ]

-- ## Rows
module _ (r : Row) (h : row_fits r ≡ true) where
  abort_fits : r.abort < last_view
  abort_fits = grind (arith, nat_tests)

  request_row : (v : ℕ) → v ≤ last_view → row_fits (with_request r v) ≡ true
  request_row v a = grind (arith, nat_tests)

  abort_row : (v : ℕ) → v < last_view → row_fits (with_abort r v) ≡ true
  abort_row v a = grind (arith, nat_tests)

  suggest_row : (s : Suggest) → suggest_fits s ≡ true → row_fits (with_suggest r s) ≡ true
  suggest_row s a = grind (arith, nat_tests)

  proof_row : (s : Proof) → proof_fits s ≡ true → row_fits (with_proof r s) ≡ true
  proof_row s a = grind (arith, nat_tests)

  row_suggest : stored_suggest_fits r.suggest ≡ true
  row_suggest = grind (arith, nat_tests)

  cleared_row : row_fits (cleared r) ≡ true
  cleared_row = grind (arith, nat_tests)

module _ (valid : List ℕ → Bool) (g : Setting) (me : ℕ) (seat : Seated valid g me) where
  abbrev w : ℕ
  w = g.width

  abbrev V : List ℕ → Bool
  V = is_value valid w

  abbrev Own : Msg → Type 0
  Own = OwnPost valid g me

  blank_fits : (b : Bool) → b ≡ false → value_fits valid w b (replicate w 0) ≡ true
  blank_fits b e =
      let s = same_self (replicate w 0) in
      let l : length (replicate {A = ℕ} w 0) ≡ w = length-replicate w 0 in
      let v = seat.blank in
      grind (arith, nat_tests)

  module _ (to : ℕ) (low : 1 ≤ to) (high : to ≤ g.n) where
    own-request : (v : ℕ) → 1 ≤ v → v ≤ last_view → Own (view_msg g me 1 v to)
    own-request v a b =
        let z = blank_fits false refl in
        let s = seat.size in let s1 = seat.low in let s2 = seat.high in
        record { range = grind (arith, nat_tests); from = refl; low = low; high = high }

    own-abort : (v : ℕ) → 1 ≤ v → v < last_view → Own (view_msg g me 11 v to)
    own-abort v a b =
        let z = blank_fits false refl in
        let s = seat.size in let s1 = seat.low in let s2 = seat.high in
        record { range = grind (arith, nat_tests); from = refl; low = low; high = high }

    own-suggest : (v : ℕ) (s : Suggest) → 1 ≤ v → v ≤ last_view → suggest_fits s ≡ true → V s.key3.value ≡ true → V s.key2.value ≡ true →
        Own (suggest_msg g me v s to)
    own-suggest v s a b c d e =
        let s = seat.size in let s1 = seat.low in let s2 = seat.high in
        record { range = grind (arith, nat_tests); from = refl; low = low; high = high }

    own-proof : (v : ℕ) (s : Proof) → 1 ≤ v → v ≤ last_view → proof_fits s ≡ true → V s.key1.value ≡ true → Own (proof_msg g me v s to)
    own-proof v s a b c d =
        let z = blank_fits false refl in
        let s = seat.size in let s1 = seat.low in let s2 = seat.high in
        record { range = grind (arith, nat_tests); from = refl; low = low; high = high }

    own-propose : (v : ℕ) (k : Keyed) → 1 ≤ v → v ≤ last_view → k.at ≤ last_view → V k.value ≡ true → Own (propose_msg g me v k to)
    own-propose v k a b c d =
        let z = blank_fits false refl in
        let s = seat.size in let s1 = seat.low in let s2 = seat.high in
        record { range = grind (arith, nat_tests); from = refl; low = low; high = high }

    own-vote : (kind v : ℕ) (x : List ℕ) → 5 ≤ kind → kind ≤ 9 → 1 ≤ v → v ≤ last_view → V x ≡ true → Own (vote_msg g me kind v x to)
    own-vote kind v x i j a b c =
        let z = blank_fits false refl in
        let s = seat.size in let s1 = seat.low in let s2 = seat.high in
        record { range = grind (arith, nat_tests); from = refl; low = low; high = high }

    own-done : (x : List ℕ) → V x ≡ true → Own (vote_msg g me 10 0 x to)
    own-done x c =
        let z = blank_fits false refl in
        let s = seat.size in let s1 = seat.low in let s2 = seat.high in
        record { range = grind (arith, nat_tests); from = refl; low = low; high = high }

  -- ## A record, part by part
  record Counts (r : Record) : Type 0 where
    low : 1 ≤ r.view
    high : r.view ≤ last_view
    key1 : (r.field 6).at ≤ r.view
    key2 : (r.field 7).at ≤ r.view
    key3 : (r.field 8).at ≤ r.view
    lock : (r.field 9).at ≤ r.view
    before1 : below (r.previous 6) (r.field 6).at ≡ true
    before2 : below (r.previous 7) (r.field 7).at ≡ true
    suggest : suggest_fits r.suggest ≡ true
    proof : proof_fits r.proof ≡ true
    offer : offer_fits r.offer ≡ true

  record Values (r : Record) : Type 0 where
    key1 : V (r.field 6).value ≡ true
    key2 : V (r.field 7).value ≡ true
    key3 : V (r.field 8).value ≡ true
    lock : V (r.field 9).value ≡ true
    suggest3 : V r.suggest.key3.value ≡ true
    suggest2 : V r.suggest.key2.value ≡ true
    proof : V r.proof.key1.value ≡ true
    offer : offer_value valid w r.offer ≡ true
    proposal : proposal_value valid w r.proposal ≡ true

  counts_of : (r : Record) → record_fits r ≡ true → Counts r
  counts_of r h =
      let a = and_parts (between 1 last_view r.view) _ h in
      let b = and_parts (fields_fit r) _ a.1 in
      let c = and_parts (previous_below r) _ b.1 in
      let d = and_parts (suggest_fits r.suggest) _ c.1 in
      let e = and_parts (proof_fits r.proof) _ d.1 in
      let v = and_parts (leb 1 r.view) (leb r.view last_view) a.0 in
      let f6 = and_parts (leb (r.field 6).at r.view) _ b.0 in
      let f7 = and_parts (leb (r.field 7).at r.view) _ f6.1 in
      let f8 = and_parts (leb (r.field 8).at r.view) (leb (r.field 9).at r.view) f7.1 in
      let q = and_parts (below (r.previous 6) (r.field 6).at) (below (r.previous 7) (r.field 7).at) c.0 in
      record {
        low = leb-true _ _ v.0;
        high = leb-true _ _ v.1;
        key1 = leb-true _ _ f6.0;
        key2 = leb-true _ _ f7.0;
        key3 = leb-true _ _ f8.0;
        lock = leb-true _ _ f8.1;
        before1 = q.0;
        before2 = q.1;
        suggest = d.0;
        proof = e.0;
        offer = e.1;
      }

  to-counts : (r : Record) → Counts r → record_fits r ≡ true
  to-counts r c =
      and_from (between 1 last_view r.view) _ (and_from (leb 1 r.view) (leb r.view last_view) (le-leb _ _ c.low) (le-leb _ _ c.high))
      (and_from (fields_fit r) _
      (and_from (leb (r.field 6).at r.view) _ (le-leb _ _ c.key1) (and_from (leb (r.field 7).at r.view) _ (le-leb _ _ c.key2)
      (and_from (leb (r.field 8).at r.view) (leb (r.field 9).at r.view) (le-leb _ _ c.key3) (le-leb _ _ c.lock))))
      (and_from (previous_below r) _ (and_from (below (r.previous 6) (r.field 6).at) (below (r.previous 7) (r.field 7).at) c.before1 c.before2)
      (and_from (suggest_fits r.suggest) _ c.suggest (and_from (proof_fits r.proof) (offer_fits r.offer) c.proof c.offer))))

  values_of : (r : Record) → record_values valid w r ≡ true → Values r
  values_of r h =
      let a = and_parts (field_values valid w r) _ h in
      let b = and_parts (V r.suggest.key3.value) _ a.1 in
      let c = and_parts (V r.suggest.key2.value) _ b.1 in
      let d = and_parts (V r.proof.key1.value) _ c.1 in
      let e = and_parts (offer_value valid w r.offer) (proposal_value valid w r.proposal) d.1 in
      let f6 = and_parts (V (r.field 6).value) _ a.0 in
      let f7 = and_parts (V (r.field 7).value) _ f6.1 in
      let f8 = and_parts (V (r.field 8).value) (V (r.field 9).value) f7.1 in
      record {
        key1 = f6.0;
        key2 = f7.0;
        key3 = f8.0;
        lock = f8.1;
        suggest3 = b.0;
        suggest2 = c.0;
        proof = d.0;
        offer = e.0;
        proposal = e.1;
      }

  to_values : (r : Record) → Values r → record_values valid w r ≡ true
  to_values r c =
      and_from (field_values valid w r) _
      (and_from (V (r.field 6).value) _ c.key1 (and_from (V (r.field 7).value) _ c.key2 (and_from (V (r.field 8).value) (V (r.field 9).value) c.key3 c.lock)))
      (and_from (V r.suggest.key3.value) _ c.suggest3 (and_from (V r.suggest.key2.value) _ c.suggest2
      (and_from (V r.proof.key1.value) _ c.proof (and_from (offer_value valid w r.offer) (proposal_value valid w r.proposal) c.offer c.proposal))))

  -- what a party keeps is in range, party by party
  record Inner (p : Party) : Type 0 where
    numbers : Counts p.rec
    values : Values p.rec
    rows : (j : ℕ) → 1 ≤ j → j ≤ g.n → row_fits (p.rows j) ≡ true
    stored : (j : ℕ) → 1 ≤ j → j ≤ g.n → stored_value valid w (p.rows j).suggest ≡ true

  from_fits : (p : Party) → Fits valid g p → Inner p
  from_fits p h =
      let a = and_parts (record_fits p.rec) (every (λ j. row_fits (p.rows j)) g.n) h.numbers in
      let b = and_parts (record_values valid w p.rec) (every (λ j. stored_value valid w (p.rows j).suggest) g.n) h.values in
      record {
        numbers = counts_of p.rec a.0;
        values = values_of p.rec b.0;
        rows = every_of (λ j. row_fits (p.rows j)) g.n a.1;
        stored = every_of (λ j. stored_value valid w (p.rows j).suggest) g.n b.1;
      }

  to_fits : (p : Party) → Inner p → Fits valid g p
  to_fits p h =
      record {
        numbers = and_from (record_fits p.rec) (every (λ j. row_fits (p.rows j)) g.n) (to-counts p.rec h.numbers) (every-from (λ j. row_fits (p.rows j)) g.n h.rows);
        values = and_from (record_values valid w p.rec) (every (λ j. stored_value valid w (p.rows j).suggest) g.n) (to_values p.rec h.values)
            (every-from (λ j. stored_value valid w (p.rows j).suggest) g.n h.stored);
      }

  record Ok (s : Step) : Type 0 where
    inner : Inner s.after
    posts : All Own s.posts

  ok_still : (p : Party) → Inner p → Ok (still p)
  ok_still p h = record { inner = h; posts = tt }

  ok_then : (s : Step) (next : Party → Step) → Ok s → ((q : Party) → Inner q → Ok (next q)) → Ok (and_then s next)
  ok_then s next h k =
      let r = k s.after h.inner in
      record { inner = r.inner; posts = All-append Own s.posts (next s.after).posts h.posts r.posts }

  set_row : (p : Party) (i : ℕ) (r : Row) → Inner p → row_fits r ≡ true → stored_value valid w r.suggest ≡ true → Inner (with_row p i r)
  set_row p i r h a b =
      record {
        numbers = h.numbers;
        values = h.values;
        rows = λ j low high. cond_both (eqb j i) r (p.rows j) (λ (x : Row). row_fits x ≡ true) (λ _. a) (λ _. h.rows j low high);
        stored = λ j low high. cond_both (eqb j i) r (p.rows j) (λ (x : Row). stored_value valid w x.suggest ≡ true) (λ _. b) (λ _. h.stored j low high);
      }

  set_rec : (p : Party) (r : Record) → Inner p → Counts r → Values r → Inner (with_rec p r)
  set_rec p r h a b = record { numbers = a; values = b; rows = h.rows; stored = h.stored }

  -- ## The parts that a step changes
  module _ (r : Record) (a : Counts r) (b : Values r) where
    moved-counts : (kind : ℕ) (x : List ℕ) → 6 ≤ kind → kind ≤ 9 → (r.field kind).at < r.view → Counts (moved g me r kind x)
    moved-counts kind x i j c =
        record {
          low = a.low;
          high = a.high;
          key1 = at_most 6 a.key1;
          key2 = at_most 7 a.key2;
          key3 = at_most 8 a.key3;
          lock = at_most 9 a.lock;
          before1 = before-moved r.previous r.field _ kind 6 r.view x c a.before1;
          before2 = before-moved r.previous r.field _ kind 7 r.view x c a.before2;
          suggest = a.suggest;
          proof = a.proof;
          offer = a.offer;
        }
      where
        at_most : (k : ℕ) → (r.field k).at ≤ r.view → (upd r.field kind (record { at = r.view; value = x }) k).at ≤ r.view
        at_most k l = cond_both (eqb k kind) (record { at = r.view; value = x }) (r.field k) (λ (y : Keyed). y.at ≤ r.view) (λ _. omega arith) (λ _. l)

    moved-values : (kind : ℕ) (x : List ℕ) → 6 ≤ kind → kind ≤ 9 → V x ≡ true → Values (moved g me r kind x)
    moved-values kind x i j c =
        record {
          key1 = holds 6 b.key1;
          key2 = holds 7 b.key2;
          key3 = holds 8 b.key3;
          lock = holds 9 b.lock;
          suggest3 = b.suggest3;
          suggest2 = b.suggest2;
          proof = b.proof;
          offer = b.offer;
          proposal = b.proposal;
        }
      where
        holds : (k : ℕ) → V (r.field k).value ≡ true → V (upd r.field kind (record { at = r.view; value = x }) k).value ≡ true
        holds k l = cond_both (eqb k kind) (record { at = r.view; value = x }) (r.field k) (λ (y : Keyed). V y.value ≡ true) (λ _. c) (λ _. l)

    entered-counts : (v : ℕ) → r.view ≤ v → v ≤ last_view → Counts (entered g me r v)
    entered-counts v c d =
        record {
          low = omega (arith, a.low);
          high = d;
          key1 = omega (arith, a.key1);
          key2 = omega (arith, a.key2);
          key3 = omega (arith, a.key3);
          lock = omega (arith, a.lock);
          before1 = a.before1;
          before2 = a.before2;
          suggest = and_from (leb (r.field 8).at last_view) _ (le-leb (r.field 8).at last_view (omega (arith, a.key3, a.high)))
              (and_from (leb (r.field 7).at last_view) (previous_fits (r.previous 7)) (le-leb (r.field 7).at last_view (omega (arith, a.key2, a.high)))
              (below_fits (r.previous 7) (r.field 7).at a.before2 (omega (arith, a.key2, a.high))));
          proof = and_from (leb (r.field 6).at last_view) (previous_fits (r.previous 6)) (le-leb (r.field 6).at last_view (omega (arith, a.key1, a.high)))
              (below_fits (r.previous 6) (r.field 6).at a.before1 (omega (arith, a.key1, a.high)));
          offer = refl;
        }

    entered-values : (v : ℕ) → Values (entered g me r v)
    entered-values v =
        record {
          key1 = b.key1;
          key2 = b.key2;
          key3 = b.key3;
          lock = b.lock;
          suggest3 = b.key3;
          suggest2 = b.key2;
          proof = b.key1;
          offer = refl;
          proposal = refl;
        }

    with_proposal-counts : (x : Proposal) → Counts (with_proposal r x)
    with_proposal-counts x =
        record {
          low = a.low;
          high = a.high;
          key1 = a.key1;
          key2 = a.key2;
          key3 = a.key3;
          lock = a.lock;
          before1 = a.before1;
          before2 = a.before2;
          suggest = a.suggest;
          proof = a.proof;
          offer = a.offer;
        }

    with_proposal-values : (x : Proposal) → proposal_value valid w x ≡ true → Values (with_proposal r x)
    with_proposal-values x c =
        record {
          key1 = b.key1;
          key2 = b.key2;
          key3 = b.key3;
          lock = b.lock;
          suggest3 = b.suggest3;
          suggest2 = b.suggest2;
          proof = b.proof;
          offer = b.offer;
          proposal = c;
        }

    with_offer-counts : (k : Keyed) → k.at ≤ last_view → Counts (with_offer r k)
    with_offer-counts k c =
        record {
          low = a.low;
          high = a.high;
          key1 = a.key1;
          key2 = a.key2;
          key3 = a.key3;
          lock = a.lock;
          before1 = a.before1;
          before2 = a.before2;
          suggest = a.suggest;
          proof = a.proof;
          offer = le-leb k.at last_view c;
        }

    with_offer-values : (k : Keyed) → V k.value ≡ true → Values (with_offer r k)
    with_offer-values k c =
        record {
          key1 = b.key1;
          key2 = b.key2;
          key3 = b.key3;
          lock = b.lock;
          suggest3 = b.suggest3;
          suggest2 = b.suggest2;
          proof = b.proof;
          offer = c;
          proposal = b.proposal;
        }

    with_done-counts : (x : List ℕ) → Counts (with_done r x)
    with_done-counts x =
        record {
          low = a.low;
          high = a.high;
          key1 = a.key1;
          key2 = a.key2;
          key3 = a.key3;
          lock = a.lock;
          before1 = a.before1;
          before2 = a.before2;
          suggest = a.suggest;
          proof = a.proof;
          offer = a.offer;
        }

    with_done-values : (x : List ℕ) → Values (with_done r x)
    with_done-values x =
        record {
          key1 = b.key1;
          key2 = b.key2;
          key3 = b.key3;
          lock = b.lock;
          suggest3 = b.suggest3;
          suggest2 = b.suggest2;
          proof = b.proof;
          offer = b.offer;
          proposal = b.proposal;
        }

    with_decision-counts : (x : List ℕ) → Counts (with_decision r x)
    with_decision-counts x =
        record {
          low = a.low;
          high = a.high;
          key1 = a.key1;
          key2 = a.key2;
          key3 = a.key3;
          lock = a.lock;
          before1 = a.before1;
          before2 = a.before2;
          suggest = a.suggest;
          proof = a.proof;
          offer = a.offer;
        }

    with_decision-values : (x : List ℕ) → Values (with_decision r x)
    with_decision-values x =
        record {
          key1 = b.key1;
          key2 = b.key2;
          key3 = b.key3;
          lock = b.lock;
          suggest3 = b.suggest3;
          suggest2 = b.suggest2;
          proof = b.proof;
          offer = b.offer;
          proposal = b.proposal;
        }

  -- ## What the message brings
  module _ (m : Msg) (h : in_range valid w m ≡ true) where
    record Brings : Type 0 where
      low : 1 ≤ m.kind
      high : m.kind ≤ 11
      view : cond (uses_view m.kind) (between 1 (highest_view m.kind) m.view) (eqb m.view 0) ≡ true
      key : cond (uses_key m.kind) (leb m.key last_view) (eqb m.key 0) ≡ true
      second : cond (uses_second m.kind) (leb m.second_key last_view) (eqb m.second_key 0) ≡ true
      previous : cond (uses_previous m.kind) (previous_fits m.previous) (is_zero m.previous) ≡ true
      value : value_fits valid w (uses_value m.kind) m.value ≡ true

    brings : Brings
    brings =
        let a = and_parts (between 1 11 m.kind) _ h in
        let b = and_parts (is_party m.from) _ a.1 in
        let c = and_parts (is_party m.to) _ b.1 in
        let d = and_parts (cond (uses_view m.kind) (between 1 (highest_view m.kind) m.view) (eqb m.view 0)) _ c.1 in
        let e = and_parts (cond (uses_key m.kind) (leb m.key last_view) (eqb m.key 0)) _ d.1 in
        let f = and_parts (cond (uses_second m.kind) (leb m.second_key last_view) (eqb m.second_key 0)) _ e.1 in
        let i = and_parts (cond (uses_previous m.kind) (previous_fits m.previous) (is_zero m.previous)) _ f.1 in
        let j = and_parts (value_fits valid w (uses_value m.kind) m.value) (value_fits valid w (uses_second m.kind) m.second_value) i.1 in
        let k = and_parts (leb 1 m.kind) (leb m.kind 11) a.0 in
        record {
          low = leb-true _ _ k.0;
          high = leb-true _ _ k.1;
          view = d.0;
          key = e.0;
          second = f.0;
          previous = i.0;
          value = j.0;
        }

    brings_value : 2 ≤ m.kind → m.kind ≤ 10 → V m.value ≡ true
    brings_value i j = let b = brings.value in grind (arith, nat_tests)

    brings_request : m.kind ≡ 1 → m.view ≤ last_view
    brings_request i = let b = brings.view in grind (arith, nat_tests)

    brings_abort : m.kind ≡ 11 → m.view < last_view
    brings_abort i = let b = brings.view in grind (arith, nat_tests)

    brings_key : 2 ≤ m.kind → m.kind ≤ 4 → m.key ≤ last_view
    brings_key i j = let b = brings.key in grind (arith, nat_tests)

    brings_second : m.kind ≡ 2 → m.second_key ≤ last_view
    brings_second i = let b = brings.second in grind (arith, nat_tests)

    brings_previous : 2 ≤ m.kind → m.kind ≤ 3 → previous_fits m.previous ≡ true
    brings_previous i j = let b = brings.previous in grind (arith, nat_tests)

  -- ## The steps
  ok_votes : (p : Party) (kind : ℕ) (x : List ℕ) → Inner p → 5 ≤ kind → kind ≤ 9 → V x ≡ true → All Own (to_joined g me p (vote_msg g me kind p.rec.view x))
  ok_votes p kind x h i j c = all_each Own _ _ g.n (λ to low high _. own-vote to low high kind p.rec.view x i j h.numbers.low h.numbers.high c)

  ok_echo : (p : Party) (x : List ℕ) → Inner p → V x ≡ true → Ok (echo g me p x)
  ok_echo p x h c =
      record {
        inner = set_rec p _ h (with_proposal-counts p.rec h.numbers h.values (echoed x)) (with_proposal-values p.rec h.numbers h.values (echoed x) c);
        posts = ok_votes p 5 x h (omega arith) (omega arith) c;
      }

  ok_wake_proposal : (o : Proposal) (p : Party) → Inner p → proposal_value valid w o ≡ true → Ok (wake_proposal g me o p)
  ok_wake_proposal nothing p h c = ok_still p h
  ok_wake_proposal (waiting x) p h c =
      cond_both (equal (p.rec.field 9).value x || lock_opened g p) _ _ Ok (λ _. ok_echo p x h c) (λ _. ok_still p h)
  ok_wake_proposal (echoed x) p h c = ok_still p h
  ok_wake_proposal dropped p h c = ok_still p h

  ok_wake : (p : Party) → Inner p → Ok (wake g me p)
  unfolding wake
  ok_wake p h = ok_wake_proposal p.rec.proposal p h h.values.proposal

  ok_dropped : (p : Party) → Inner p → Ok (still (with_rec p (with_proposal p.rec dropped)))
  ok_dropped p h =
      ok_still _ (set_rec p _ h (with_proposal-counts p.rec h.numbers h.values dropped) (with_proposal-values p.rec h.numbers h.values dropped refl))

  ok_say_done : (p : Party) (x : List ℕ) → Inner p → V x ≡ true → Ok (say_done g me p x)
  ok_say_done p x h c =
      record {
        inner = set_rec p _ h (with_done-counts p.rec h.numbers h.values x) (with_done-values p.rec h.numbers h.values x);
        posts = all_each Own _ _ g.n (λ to low high _. own-done to low high x c);
      }

  ok_say_abort : (p : Party) (v : ℕ) → Inner p → 1 ≤ v → v < last_view → Ok (say_abort g me p v)
  ok_say_abort p v h a b =
      record {
        inner = set_row p me _ h (abort_row (p.rows me) (h.rows me seat.low seat.high) v b) (h.stored me seat.low seat.high);
        posts = all_each Own _ _ g.n (λ to low high _. own-abort to low high v a b);
      }

  primary-low : (v : ℕ) → 1 ≤ primary g v
  primary-low v = omega arith

  primary-high : (v : ℕ) → primary g v ≤ g.n
  primary-high v = let l = seat.low in let k = seat.high in let e = mod_below v g.n (omega arith) in omega arith

  ok_enter : (p : Party) (v : ℕ) → Inner p → p.rec.view ≤ v → v ≤ last_view → Ok (enter g me p v)
  unfolding enter
  ok_enter p v h a b =
      let c = entered-counts p.rec h.numbers h.values v a b in
      let d = entered-values p.rec h.numbers h.values v in
      record {
        inner = record { numbers = c; values = d; rows = λ j low high. cleared_row (p.rows j) (h.rows j low high); stored = λ j low high. refl };
        posts = All-append Own _ _ (all_each Own _ _ g.n (λ to low high _. own-request to low high v c.low b))
            (All-append Own _ _
            (all_one Own (eqb (p.rows (primary g v)).request v) _ (λ _. own-suggest (primary g v) (primary-low v) (primary-high v) v _ c.low b c.suggest d.suggest3 d.suggest2))
            (all_each Own _ _ g.n (λ to low high _. own-proof to low high v _ c.low b c.proof d.proof)));
      }

  aborts-below : (p : Party) → Inner p → (j : ℕ) → 1 ≤ j → j ≤ g.n → aborts g me p j ≤ 1999999999
  aborts-below p h j low high = let l = abort_fits (p.rows j) (h.rows j low high) in omega arith

  ok_leave : (p : Party) → Inner p → Ok (leave g me p)
  unfolding leave
  ok_leave p h =
      let l = reached-below g (aborts g me p) 1999999999 (aborts-below p h) in
      cond_both (leb p.rec.view (reached g (aborts g me p))) _ _ Ok
      (λ e. let k = leb-true _ _ e in ok_enter p (suc (reached g (aborts g me p))) h (omega arith) (omega arith)) (λ _. ok_still p h)

  ok_join_abort : (p : Party) → Inner p → Ok (join_abort g me p)
  unfolding join_abort
  ok_join_abort p h =
      let l = vouched-below g (aborts g me p) 1999999999 (aborts-below p h) in
      cond_both (ltb (aborts g me p me) (vouched g (aborts g me p))) _ _ Ok
      (λ e. let k = ltb-true _ _ e in ok_say_abort p (vouched g (aborts g me p)) h (omega arith) (omega arith)) (λ _. ok_still p h)

  ok_timer : (p : Party) → Inner p → p.rec.view < last_view → Ok (on_timer g me p)
  unfolding on_timer
  ok_timer p h l =
      ok_then _ _
      (cond_both (ltb (aborts g me p me) p.rec.view) _ _ Ok (λ _. ok_say_abort p p.rec.view h h.numbers.low l) (λ _. ok_still p h)) ok_leave

  -- the suggest to follow is one that was stored
  abbrev Follows : Option Suggest → Type 0
  Follows o = (stored_suggest_fits o ≡ true) × (stored_value valid w o ≡ true)

  best_fits : (p : Party) → Inner p → (k : ℕ) → k ≤ g.n → (stored_suggest_fits (best g p k) ≡ true) × (stored_value valid w (best g p k) ≡ true)
  best_fits p h zero l = (refl, refl)
  best_fits p h (suc k) l =
      let ih = best_fits p h k (omega arith) in
      cond_both (accepted g p (suc k)) _ _ Follows
      (λ _. higher_either g Follows (best g p k) (p.rows (suc k)).suggest ih
      (row_suggest (p.rows (suc k)) (h.rows (suc k) (omega arith) l), h.stored (suc k) (omega arith) l)) (λ _. ih)

  ok_propose : (p : Party) (o : Option Suggest) → Inner p → stored_suggest_fits o ≡ true → stored_value valid w o ≡ true → Ok (propose g me p o)
  ok_propose p None h a b = ok_still p h
  ok_propose p (Some s) h a b =
      let c = leb-true _ _ (and_parts (leb s.key3.at last_view) _ a).0 in
      record {
        inner = set_rec p _ h (with_offer-counts p.rec h.numbers h.values s.key3 c) (with_offer-values p.rec h.numbers h.values s.key3 b);
        posts = all_each Own _ _ g.n (λ to low high _. own-propose to low high p.rec.view s.key3 h.numbers.low h.numbers.high c b);
      }

  module _ (p : Party) (h : Inner p) (m : Msg) (from_low : 1 ≤ m.from) (from-high : m.from ≤ g.n) (range : in_range valid w m ≡ true) where
    row : row_fits (p.rows m.from) ≡ true
    row = h.rows m.from from_low from-high

    told-suggest_fits : m.kind ≡ 2 → Inner (told_suggest g me p m)
    told-suggest_fits k =
        set_row p m.from _ h
        (suggest_row (p.rows m.from) row
        (record {
          key3 = record { at = m.key; value = m.value };
          key2 = record { at = m.second_key; value = m.second_value };
          previous = m.previous;
        })
        (and_from (leb m.key last_view) _ (le-leb _ _ (brings_key m range (omega arith) (omega arith)))
        (and_from (leb m.second_key last_view) (previous_fits m.previous) (le-leb _ _ (brings_second m range k)) (brings_previous m range (omega arith) (omega arith)))))
        (brings_value m range (omega arith) (omega arith))

    ok_suggest : m.kind ≡ 2 → Ok (on_suggest g me p m)
    unfolding on_suggest
    ok_suggest k =
        let q = told-suggest_fits k in
        let b = best_fits (told_suggest g me p m) q g.n (omega arith) in
        cond_both (propose_due g me (told_suggest g me p m)) _ _ Ok
        (λ _. ok_propose (told_suggest g me p m) (best g (told_suggest g me p m) g.n) q b.0 b.1) (λ _. ok_still _ q)

    told_fits : m.kind ≡ 3 → Inner (told_proof g me p m)
    told_fits k =
        set_row p m.from _ h
        (proof_row (p.rows m.from) row (record { key1 = record { at = m.key; value = m.value }; previous = m.previous }) (and_from (leb m.key last_view) (previous_fits m.previous) (le-leb _ _ (brings_key m range (omega arith) (omega arith)))
        (brings_previous m range (omega arith) (omega arith))))
        (h.stored m.from from_low from-high)

    ok_proof : m.kind ≡ 3 → Ok (on_proof g me p m)
    unfolding on_proof
    ok_proof k = ok_wake (told_proof g me p m) (told_fits k)

    ok_on_propose : m.kind ≡ 4 → Ok (on_propose g me p m)
    unfolding on_propose
    ok_on_propose k =
        let v = brings_value m range (omega arith) (omega arith) in
        cond_both (not (g.allows m.value)) _ _ Ok (λ _. ok_dropped p h)
        (λ _. cond_both (lock_fits g me p.rec m.value) _ _ Ok (λ _. ok_echo p m.value h v)
        (λ _. cond_both (may_wait g me p.rec m.key) _ _ Ok
        (λ _. ok_wake (with_rec p (with_proposal p.rec (waiting m.value)))
        (set_rec p _ h (with_proposal-counts p.rec h.numbers h.values (waiting m.value)) (with_proposal-values p.rec h.numbers h.values (waiting m.value) v)))
        (λ _. ok_dropped p h)))

    told_vote_fits : Inner (told_vote g me p m)
    told_vote_fits = set_row p m.from _ h row (h.stored m.from from_low from-high)

    ok_vote : 5 ≤ m.kind → m.kind ≤ 8 → Ok (on_vote g me p m)
    unfolding on_vote
    ok_vote i j =
        let v = brings_value m range (omega arith) (omega arith) in
        let q = told_vote_fits in
        cond_both (announce_due g me (told_vote g me p m) m.kind m.value) _ _ Ok
        (λ e. let due = and_parts (voted g (told_vote g me p m) m.kind m.value) (ltb (p.rec.field (suc m.kind)).at p.rec.view) e in
        record {
          inner = set_rec (told_vote g me p m) _ q
              (moved-counts p.rec h.numbers h.values (suc m.kind) m.value (omega arith) (omega arith) (ltb-true _ _ due.1))
              (moved-values p.rec h.numbers h.values (suc m.kind) m.value (omega arith) (omega arith) v);
          posts = ok_votes (told_vote g me p m) (suc m.kind) m.value q (omega arith) (omega arith) v;
        })
        (λ _. ok_still _ q)

    ok_lock : m.kind ≡ 9 → Ok (on_lock g me p m)
    unfolding on_lock
    ok_lock k =
        cond_both (none (told_vote g me p m).rec.done && voted g (told_vote g me p m) 9 m.value) _ _ Ok
        (λ _. ok_say_done (told_vote g me p m) m.value told_vote_fits (brings_value m range (omega arith) (omega arith))) (λ _. ok_still _ told_vote_fits)

    told_done_fits : Inner (told_done g me p m)
    told_done_fits = set_row p m.from _ h row (h.stored m.from from_low from-high)

    ok_done : m.kind ≡ 10 → Ok (on_done g me p m)
    unfolding on_done
    ok_done k =
        ok_then _ _
        (cond_both (none (told_done g me p m).rec.done && done_vouched g (told_done g me p m) m.value) _ _ Ok
        (λ _. ok_say_done (told_done g me p m) m.value told_done_fits (brings_value m range (omega arith) (omega arith))) (λ _. ok_still _ told_done_fits))
        (λ q i. cond_both (done_agreed g q m.value) _ _ Ok
        (λ _. ok_still _ (set_rec q _ i (with_decision-counts q.rec i.numbers i.values m.value) (with_decision-values q.rec i.numbers i.values m.value)))
        (λ _. ok_still q i))

    ok_request : m.kind ≡ 1 → Ok (on_request g me p m)
    unfolding on_request
    ok_request k =
        record {
          inner = set_row p m.from _ h (request_row (p.rows m.from) row m.view (brings_request m range k)) (h.stored m.from from_low from-high);
          posts = cond_both (eqb m.view p.rec.view) _ _ (λ (xs : List Msg). All Own xs)
              (λ _. All-append Own _ _
              (all_one Own (eqb m.from (primary g p.rec.view)) _ (λ _. own-suggest m.from from_low from-high p.rec.view p.rec.suggest low high h.numbers.suggest h.values.suggest3 h.values.suggest2))
              (all_made g me Own p.rec m.from (own-proof m.from from_low from-high p.rec.view p.rec.proof low high h.numbers.proof h.values.proof)
              (λ k e. own-propose m.from from_low from-high p.rec.view k low high
              (leb-true _ _ (subst (λ o. offer_fits o ≡ true) e h.numbers.offer)) (subst (λ o. offer_value valid w o ≡ true) e h.values.offer))
              (λ x e. own-vote m.from from_low from-high 5 p.rec.view x (omega arith) (omega arith) low high
              (subst (λ o. proposal_value valid w o ≡ true) e h.values.proposal))
              (λ kind i j e. own-vote m.from from_low from-high kind p.rec.view _ (omega arith) j low high
              (by_kind (λ k. V (p.rec.field k).value ≡ true) h.values.key1 h.values.key2 h.values.key3 h.values.lock kind i j))))
              (λ _. tt);
        }
      where
        low : 1 ≤ p.rec.view
        low = h.numbers.low

        high : p.rec.view ≤ last_view
        high = h.numbers.high

    ok_abort : m.kind ≡ 11 → Ok (on_abort g me p m)
    unfolding on_abort
    ok_abort k =
        ok_then _ _
        (ok_join_abort _ (set_row p m.from _ h
        (abort_row (p.rows m.from) row _ (let a = brings_abort m range k in let b = abort_fits (p.rows m.from) row in omega arith)) (h.stored m.from from_low from-high)))
        ok_leave

    ok_react : Ok (react g me p m)
    ok_react =
        let low = (brings m range).low in
        let high = (brings m range).high in
        cond_both (eqb m.kind 1) _ _ Ok (λ e. ok_request (eqb-true _ _ e))
        (λ k1. cond_both (eqb m.kind 2) _ _ Ok (λ e. ok_suggest (eqb-true _ _ e))
        (λ k2. cond_both (eqb m.kind 3) _ _ Ok (λ e. ok_proof (eqb-true _ _ e))
        (λ k3. cond_both (eqb m.kind 4) _ _ Ok (λ e. ok_on_propose (eqb-true _ _ e))
        (λ k4. cond_both (leb m.kind 7) _ _ Ok
        (λ e. let i : 5 ≤ m.kind = grind (arith, nat_tests) in let j : m.kind ≤ 8 = grind (arith, nat_tests) in ok_vote i j)
        (λ k7. cond_both (eqb m.kind 8) _ _ Ok
        (λ e. let q = eqb-true _ _ e in ok_then _ _ (ok_vote (omega arith) (omega arith)) ok_wake)
        (λ k8. cond_both (eqb m.kind 9) _ _ Ok (λ e. ok_lock (eqb-true _ _ e))
        (λ k9. cond_both (eqb m.kind 10) _ _ Ok (λ e. ok_done (eqb-true _ _ e))
        (λ k10. ok_abort (let q : m.kind ≡ 11 = grind (arith, nat_tests) in q)))))))))

    ok_step : Ok (step g me p m)
    unfolding step
    ok_step = cond_both (heeded g me p m) _ _ Ok (λ _. ok_react) (λ _. ok_still p h)

pub posts-in_range : PostsInRange
posts-in_range =
    record {
      by_message = λ valid g me p m seat h q. (ok_step valid g me seat p (from_fits valid g me seat p h) m q.low q.high q.range).posts;
      by_timer = λ valid g me p seat h l. (ok_timer valid g me seat p (from_fits valid g me seat p h) l).posts;
      by_entry = λ valid g me p v seat h l k. (ok_enter valid g me seat p v (from_fits valid g me seat p h) l k).posts;
    }

pub bounds_kept : BoundsKept
bounds_kept =
    record {
      by_message = λ valid g me p m seat h q.
          to_fits valid g me seat _ (ok_step valid g me seat p (from_fits valid g me seat p h) m q.low q.high q.range).inner;
      by_timer = λ valid g me p seat h l. to_fits valid g me seat _ (ok_timer valid g me seat p (from_fits valid g me seat p h) l).inner;
      by_entry = λ valid g me p v seat h l k. to_fits valid g me seat _ (ok_enter valid g me seat p v (from_fits valid g me seat p h) l k).inner;
    }
