-- Lists of posts: parts that fit, and one more.
use Rattle.std.proofs.Common.{◌≡◌, ℕ, zero, suc, ◌+◌, ◌-◌, ◌<◌, Bool, true, false, cond, ◌&&◌, ltb, List, [], ◌∷◌, ◌++◌, length, sym, refl, ap, ◌∙◌, subst, append_assoc, add-one, arith, lt-ltb}
use Rattle.std.specs.List.{AllByRecursion as All}
use Rattle.std.proofs.lemmas.List.{length-append, append-nil}
use Rattle.messages.specs.Messages.{Msg, in_range}
use Rattle.wires.specs.Wire.{posted}
use Rattle.rules.specs.Posts.{to_each}
use Rattle.posting.specs.Posting.{Takes, Posted}

pub all_left : {X : Type 0} (P : X → Type 0) (xs ys : List X) → All P (xs ++ ys) → All P xs
all_left P [] ys a = tt
all_left P (x ∷ xs) ys a = (a.0, all_left P xs ys a.1)

pub all_right : {X : Type 0} (P : X → Type 0) (xs ys : List X) → All P (xs ++ ys) → All P ys
all_right P [] ys a = a
all_right P (x ∷ xs) ys a = all_right P xs ys a.1

module _ (valid : List ℕ → Bool) (width : ℕ) where
  -- the first part of posts that a wire takes
  pub takes_first : (capacity : ℕ) (old xs ys : List Msg) → Takes valid width capacity old (xs ++ ys) → Takes valid width capacity old xs
  takes_first capacity old xs ys t =
      record { ranged = all_left _ xs ys t.ranged; room = omega (arith, t.room, length-append xs ys); few = omega (arith, t.few, length-append xs ys) }

  -- and the rest, once the first part is posted
  pub takes_rest : (capacity capacity' : ℕ) (old mid xs ys : List Msg) → Takes valid width capacity old (xs ++ ys) → mid ≡ old ++ xs → capacity' ≡ capacity → Takes valid width capacity' mid ys
  takes_rest capacity capacity' old mid xs ys t e k =
      record { ranged = all_right _ xs ys t.ranged; room = omega (arith, t.room, length-append xs ys, ap length e ∙ length-append old xs, k); few = omega (arith, t.few, length-append xs ys) }

  -- a post that is taken stands at the end
  pub post_taken : (capacity : ℕ) (old new : List Msg) (m : Msg) → Takes valid width capacity old (m ∷ []) → new ≡ posted valid width capacity old m → new ≡ old ++ m ∷ []
  post_taken capacity old new m t e =
      let r : in_range valid width m ≡ true = t.ranged.0 in
      let k : ltb 0 (capacity - length old) ≡ true = lt-ltb 0 (capacity - length old) (omega (arith, t.room)) in
      e ∙ (ap (λ b. cond (b && ltb 0 (capacity - length old)) (old ++ m ∷ []) old) r ∙ ap (λ b. cond b (old ++ m ∷ []) old) k)

-- posts in two parts
pub posted_both : (a b c : List Msg) (k k' k'' r s : ℕ) (xs ys : List Msg) → Posted a b k k' r xs → Posted b c k' k'' s ys → Posted a c k k'' (r + s) (xs ++ ys)
posted_both a b c k k' k'' r s xs ys p q =
    record {
      list = q.list ∙ (ap (λ l. l ++ ys) p.list ∙ append_assoc a xs ys);
      answer = omega (arith, p.answer, q.answer, length-append xs ys);
      kept = q.kept ∙ p.kept;
    }

-- no posts
pub posted-none : (a b : List Msg) (k k' r : ℕ) → b ≡ a → k' ≡ k → r ≡ 0 → Posted a b k k' r []
posted-none a b k k' r e h z = record { list = e ∙ sym (append-nil a); answer = z; kept = h }

-- one receiver more
module _ (who : ℕ → Bool) (what : ℕ → Msg) where
  pub one_more : (i : ℕ) → who (i + 1) ≡ true → to_each who what (i + 1) ≡ to_each who what i ++ (what (i + 1) ∷ [])
  unfolding to_each
  one_more i h =
      let k : i + 1 ≡ suc i = add-one i in
      let h' : who (suc i) ≡ true = ap who (sym k) ∙ h in
      ap (to_each who what) k ∙ (ap (λ b. to_each who what i ++ cond b (what (suc i) ∷ []) []) h' ∙ ap (λ j. to_each who what i ++ (what j ∷ [])) (sym k))

  pub none_more : (i : ℕ) → who (i + 1) ≡ false → to_each who what (i + 1) ≡ to_each who what i
  unfolding to_each
  none_more i h =
      let k : i + 1 ≡ suc i = add-one i in
      let h' : who (suc i) ≡ false = ap who (sym k) ∙ h in
      ap (to_each who what) k ∙ (ap (λ b. to_each who what i ++ cond b (what (suc i) ∷ []) []) h' ∙ append-nil (to_each who what i))

  -- what goes to the first k is the beginning of what goes to more
  pub beginning : (k d : ℕ) → (rest : List Msg) × (to_each who what (k + d) ≡ to_each who what k ++ rest)
  unfolding to_each
  beginning k zero =
      let e : k + zero ≡ k = omega arith in
      ([], ap (to_each who what) e ∙ sym (append-nil (to_each who what k)))
  beginning k (suc d) =
      let e : k + suc d ≡ suc (k + d) = omega arith in
      let b = beginning k d in (
        b.0 ++ cond (who (suc (k + d))) (what (suc (k + d)) ∷ []) [],
        ap (to_each who what) e ∙ (ap (λ l. l ++ cond (who (suc (k + d))) (what (suc (k + d)) ∷ []) []) b.1 ∙ append_assoc (to_each who what k) b.0 (cond (who (suc (k + d))) (what (suc (k + d)) ∷ []) [])),
      )

  -- the next message is taken, where all are
  pub takes_next : (valid : List ℕ → Bool) (width capacity capacity' : ℕ) (old mid : List Msg) (i n : ℕ) → Takes valid width capacity old (to_each who what n) → i < n →
      who (i + 1) ≡ true → mid ≡ old ++ to_each who what i → capacity' ≡ capacity → Takes valid width capacity' mid (what (i + 1) ∷ [])
  takes_next valid width capacity capacity' old mid i n t h yes' e k =
      let b = beginning (i + 1) (n - (i + 1)) in
      let q : (i + 1) + (n - (i + 1)) ≡ n = omega arith in
      let split : to_each who what n ≡ (to_each who what i ++ (what (i + 1) ∷ [])) ++ b.0 =
      ap (to_each who what) (sym q) ∙ (b.1 ∙ ap (λ l. l ++ b.0) (one_more i yes')) in
      let t' : Takes valid width capacity old ((to_each who what i ++ (what (i + 1) ∷ [])) ++ b.0) = subst (Takes valid width capacity old) split t in
      takes_rest valid width capacity capacity' old mid (to_each who what i) (what (i + 1) ∷ [])
      (takes_first valid width capacity old (to_each who what i ++ (what (i + 1) ∷ [])) b.0 t') e k

  pub posted_more : (old mid new : List Msg) (k k' k'' posts r s i : ℕ) → Posted old mid k k' posts (to_each who what i) → Posted mid new k' k'' r (what (i + 1) ∷ []) →
      who (i + 1) ≡ true → s ≡ posts + r → Posted old new k k'' s (to_each who what (i + 1))
  posted_more old mid new k k' k'' posts r s i p q yes' e =
      let z = posted_both old mid new k k' k'' posts r (to_each who what i) (what (i + 1) ∷ []) p q in
      record { list = z.list ∙ ap (λ l. old ++ l) (sym (one_more i yes')); answer = e ∙ (z.answer ∙ ap length (sym (one_more i yes'))); kept = z.kept }

  pub posted_same : (old mid : List Msg) (k k' posts s i : ℕ) → Posted old mid k k' posts (to_each who what i) → who (i + 1) ≡ false → s ≡ posts →
      Posted old mid k k' s (to_each who what (i + 1))
  posted_same old mid k k' posts s i p no' e =
      record { list = p.list ∙ ap (λ l. old ++ l) (sym (none_more i no')); answer = e ∙ (p.answer ∙ ap length (sym (none_more i no'))); kept = p.kept }

  pub posted_start : (old : List Msg) (k : ℕ) → Posted old old k k 0 (to_each who what 0)
  unfolding to_each
  posted_start old k = posted-none old old k k 0 refl refl refl
