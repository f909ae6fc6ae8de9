-- Nothing is said twice in a shift: what an honest party has posted is written in what it keeps.
use Rattle.std.proofs.Common.{◌≡◌, ℕ, zero, suc, ◌+◌, ◌≤◌, Bool, true, false, cond, eqb, leb, List, [], ◌∷◌, ◌++◌, None, sym, refl, subst, arith}
use Rattle.std.proofs.lemmas.Bool.{cond_both, eqb-true, both_ways, le-leb}
use Rattle.std.proofs.lemmas.Bool.Decides.{nat_tests}
use Rattle.messages.specs.Messages.{Msg}
use Rattle.rules.specs.Party.{nothing, Party, Step}
use Rattle.rules.specs.Step.{enter, first_field, empty_row}
use Rattle.rules.proofs.Once.{like, how_many, how_many_append, how_many-none, used, Once, not_mine, once_enter, once_timer, once_step, once_total}
use Rattle.agreement.specs.Ring.{Kind, Ring, setting, honest}
use Rattle.agreement.specs.Calls.{said, Plan, named, own_of, planned, first_step, first_posts, set_up_done, set_up}
use Rattle.agreement.specs.Runs.{Call, Shift, begun, shift}
use Rattle.agreement.specs.Counts.{SaidOnce, how_many as number}
use Rattle.agreement.proofs.Begin.{started, honest_parts}
use Rattle.agreement.proofs.Runs.{turned, Kept, run-kept}

-- of what an honest party may have sent at most one was posted, of the rest none
pub record Marked (h : Shift) : Type 0 where
  pub holds : (i j kind v : ℕ) → honest h.ring i ≡ true →
      how_many (like i j kind v) h.posted ≤ cond (used i (h.ring.parties i) j kind v) 1 0

-- the two ways to count agree
same_number : (t : Msg → Bool) (ms : List Msg) → number t ms ≡ how_many t ms
unfolding how_many
same_number t [] = refl
same_number t (m ∷ ms) = let ih = same_number t ms in grind arith

at_most_one : (b : Bool) (x : ℕ) → x ≤ cond b 1 0 → x ≤ 1
at_most_one true x h = h
at_most_one false x h = omega arith

once_of : (h : Shift) → Marked h → SaidOnce h
once_of h m i j kind v t = let e = same_number (like i j kind v) h.posted in let a = at_most_one _ _ (m.holds i j kind v t) in omega arith

-- ## Every call keeps it
-- an honest party takes a step
marked_step : (h : Shift) (me : ℕ) (w : List Msg) (r : Step) → ((j kind v : ℕ) → Once me (h.ring.parties me) j kind v r) → Marked h →
    Marked (record { ring = turned h.ring me w r.after; posted = h.posted ++ r.posts; lost = h.lost })
marked_step h me w r once m =
    record {
      holds = λ i j kind v t.
          rw (how_many_append (like i j kind v) h.posted r.posts)
          (cond_both (eqb i me) r.after (h.ring.parties i)
          (λ (q : Party). how_many (like i j kind v) h.posted + how_many (like i j kind v) r.posts ≤ cond (used i q j kind v) 1 0)
          (λ e. own i j kind v (sym (eqb-true i me e)) (m.holds i j kind v t))
          (λ e. let z = not_mine me i j kind v r.posts (other i e) (once j kind v).mine in let y = m.holds i j kind v t in omega arith));
    }
  where
    own : (i j kind v : ℕ) → me ≡ i → how_many (like i j kind v) h.posted ≤ cond (used i (h.ring.parties i) j kind v) 1 0 →
        how_many (like i j kind v) h.posted + how_many (like i j kind v) r.posts ≤ cond (used i r.after j kind v) 1 0
    own i j kind v e a = once_total i (h.ring.parties i) j kind v r _ (subst (λ x. Once x (h.ring.parties x) j kind v r) e (once j kind v)) a

    other : (i : ℕ) → eqb i me ≡ false → eqb me i ≡ false
    other i e = grind (arith, nat_tests)

-- a message of a faulty party counts for no honest one
marked_send : (h : Shift) (x : Msg) → h.ring.faulty x.from ≡ true → Marked h →
    (i j kind v : ℕ) → honest h.ring i ≡ true → how_many (like i j kind v) (h.posted ++ (x ∷ [])) ≤ cond (used i (h.ring.parties i) j kind v) 1 0
marked_send h x f m i j kind v t =
    rw (how_many_append (like i j kind v) h.posted (x ∷ []))
    (let z : how_many (like i j kind v) (x ∷ []) ≡ 0 = not_mine x.from i j kind v (x ∷ []) strange (refl, tt) in let y = m.holds i j kind v t in omega arith)
  where
    go : (b : Bool) → eqb x.from i ≡ b → eqb x.from i ≡ false
    go true e =
        let q = eqb-true x.from i e in
        absurd (both_ways _ (honest_parts h.ring i t).2 (subst (λ y. h.ring.faulty y ≡ true) q f))
    go false e = e

    strange : eqb x.from i ≡ false
    strange = go (eqb x.from i) refl

marked_kept : (k : Kind) → Kept k Marked
marked_kept k =
    record {
      brought = λ h i m w e q r t p. marked_step h m.to _ _ (λ j kind v. once_step (setting k h.ring) m.to j kind v (h.ring.parties m.to) m) p;
      swallowed = λ h i m w e q f p. record { holds = p.holds };
      lose = λ h i m e p. record { holds = p.holds };
      send = λ h m f p. record { holds = marked_send h m f p };
      timer = λ h i t d p. marked_step h i _ _ (λ j kind v. once_timer (setting k h.ring) i j kind v (h.ring.parties i)) p;
    }

-- ## Set-up
-- a party that is in no view yet
abbrev outside : List ℕ → Party
outside own =
    record {
      rec = record {
        view = 0;
        field = first_field own;
        previous = λ _. None;
        decision = None;
        done = None;
        suggest = record { key3 = record { at = 0; value = own }; key2 = record { at = 0; value = own }; previous = None };
        proof = record { key1 = record { at = 0; value = own }; previous = None };
        offer = None;
        proposal = nothing;
      };
      rows = λ _. empty_row;
    }

module _ (k : Kind) (p : Plan) (s : Ring) where
  once_first : (i j kind v : ℕ) → Once i (outside (own_of p.own i)) j kind v (first_step k p s i)
  unfolding enter
  once_first i j kind v = once_enter (setting k (planned k p s)) i j kind v (outside (own_of p.own i)) 1 (omega arith)

  module _ (i j kind v : ℕ) (t : named p.word i ≡ false) where
    abbrev N : List Msg → ℕ
    N = how_many (like i j kind v)

    abbrev B : ℕ
    B = cond (used i (first_step k p s i).after j kind v) 1 0

    own : (n : ℕ) → n ≡ i → N (first_step k p s n).posts ≤ B
    own n e =
        let z = once_total i (outside (own_of p.own i)) j kind v (first_step k p s i) 0 (once_first i j kind v) (omega arith) in
        let y : N (first_step k p s i).posts ≤ B = omega arith in
        subst (λ x. N (first_step k p s x).posts ≤ B) (sym e) y

    plain : (b : Bool) (n : ℕ) → eqb i n ≡ b → N (first_step k p s n).posts ≤ cond b B 0
    plain true n e = own n (sym (eqb-true i n e))
    plain false n e =
        let z : N (first_step k p s n).posts ≡ 0 = not_mine n i j kind v (first_step k p s n).posts (grind (arith, nat_tests)) (once_first n j kind v).mine in
        omega arith

    -- the posts of one party
    part : (n : ℕ) → N (cond (named p.word n) [] (first_step k p s n).posts) ≤ cond (eqb i n) B 0
    unfolding how_many
    part n =
        cond_both (named p.word n) [] (first_step k p s n).posts (λ (ms : List Msg). N ms ≤ cond (eqb i n) B 0) (λ _. omega arith)
        (λ _. plain (eqb i n) n refl)

    sum : (a b c n : ℕ) → a ≤ cond (leb i n) c 0 → b ≤ cond (eqb i (suc n)) c 0 → a + b ≤ cond (leb i (suc n)) c 0
    sum a b c n h l = grind (arith, nat_tests)

    first_marked : (n : ℕ) → N (first_posts k p s n) ≤ cond (leb i n) B 0
    unfolding first_posts
    first_marked zero = let z : N [] ≡ 0 = how_many-none (like i j kind v) [] tt in omega arith
    first_marked (suc n) =
        rw (how_many_append (like i j kind v) (first_posts k p s n) (cond (named p.word (suc n)) [] (first_step k p s (suc n)).posts))
        (sum _ _ B n (first_marked n) (part (suc n)))

  -- the shift as set-up leaves it
  marked_done : Marked (record { ring = (set_up_done k p s).after; posted = (set_up_done k p s).posted; lost = [] })
  marked_done =
      record {
        holds = λ i j kind v t. let a = honest_parts (planned k p s) i t in
            let b = first_marked i j kind v a.2 p.n in
            let c : leb i p.n ≡ true = le-leb _ _ a.1 in
            rw t (rw c at b);
      }

-- ## Every shift
pub said_once : (k : Kind) (p : Plan) (s : Ring) (cs : List Call) → (set_up k p s).answer ≡ said 0 → SaidOnce (shift k p s cs)
said_once k p s cs e = once_of _ (run-kept k Marked (marked_kept k) (begun k p s) cs marked_begun)
  where
    marked_begun : Marked (begun k p s)
    marked_begun = subst (λ o. Marked (record { ring = o.after; posted = o.posted; lost = [] })) (sym (started k p s e).is) (marked_done k p s)
