-- Messages in a list: which stand in it, after a post, after one was taken out, and among those that go to each party.
use Rattle.std.proofs.Common.{◌≡◌, ℕ, zero, suc, ◌≤◌, Bool, true, false, cond, ◌⊎◌, List, [], ◌∷◌, ◌++◌, Ok, sym, refl, ap, subst, inl, inr, arith}
use Rattle.std.specs.List.{AllByRecursion as All}
use Rattle.std.proofs.lemmas.Bool.{cases_lt}
use Rattle.messages.specs.Messages.{Msg}
use Rattle.wires.specs.Wire.{looked, taken}
use Rattle.rules.specs.Posts.{to_each}

-- a message stands in a list
unfoldable pub In : Msg → List Msg → Type 0
In m [] = ⊥
In m (x ∷ xs) = (m ≡ x) ⊎ In m xs

pub in_left : (m : Msg) (xs ys : List Msg) → In m xs → In m (xs ++ ys)
unfolding In
in_left m [] ys h = absurd h
in_left m (x ∷ xs) ys (inl e) = inl e
in_left m (x ∷ xs) ys (inr h) = inr (in_left m xs ys h)

pub in_right : (m : Msg) (xs ys : List Msg) → In m ys → In m (xs ++ ys)
unfolding In
in_right m [] ys h = h
in_right m (x ∷ xs) ys h = inr (in_right m xs ys h)

pub in_append : (m : Msg) (xs ys : List Msg) → In m (xs ++ ys) → In m xs ⊎ In m ys
unfolding In
in_append m [] ys h = inr h
in_append m (x ∷ xs) ys (inl e) = inl (inl e)
in_append m (x ∷ xs) ys (inr h) = elim (in_append m xs ys h) [ inl a ↦ inl (inr a) | inr a ↦ inr a ]

pub in_none : (m : Msg) → In m [] → ⊥
unfolding In
in_none m h = h

pub in_one : (m : Msg) → In m (m ∷ [])
unfolding In
in_one m = inl refl

pub in_first : (m : Msg) (xs : List Msg) → In m (m ∷ xs)
unfolding In
in_first m xs = inl refl

pub in_later : (m x : Msg) (xs : List Msg) → In m xs → In m (x ∷ xs)
unfolding In
in_later m x xs h = inr h

pub in_only : (m x : Msg) → In m (x ∷ []) → m ≡ x
unfolding In
in_only m x (inl e) = e
in_only m x (inr h) = absurd h

pub in_all : (P : Msg → Type 0) (m : Msg) (xs : List Msg) → All P xs → In m xs → P m
unfolding In
in_all P m [] a h = absurd h
in_all P m (x ∷ xs) a (inl e) = subst P (sym e) a.0
in_all P m (x ∷ xs) a (inr h) = in_all P m xs a.1 h

pub all_in : (P : Msg → Type 0) (xs : List Msg) → ((m : Msg) → In m xs → P m) → All P xs
unfolding In
all_in P [] h = tt
all_in P (x ∷ xs) h = (h x (inl refl), all_in P xs (λ m i. h m (inr i)))

-- ## Looked at, taken out
pub looked_in : (m : Msg) (xs : List Msg) (i : ℕ) → looked xs i ≡ Ok m → In m xs
unfolding In
looked_in m [] i e = absurd (let z : ◌≡◌ {A = ℕ} 0 1 = cc in omega arith)
looked_in m (x ∷ xs) zero e = inl (cc)
looked_in m (x ∷ xs) (suc i) e = inr (looked_in m xs i e)

pub taken_in : (m : Msg) (xs : List Msg) (i : ℕ) → In m (taken xs i) → In m xs
unfolding In
taken_in m [] i h = h
taken_in m (x ∷ xs) zero h = inr h
taken_in m (x ∷ xs) (suc i) (inl e) = inl e
taken_in m (x ∷ xs) (suc i) (inr h) = inr (taken_in m xs i h)

-- what stood there is the one taken out, or stands there still
pub in_taken : (m : Msg) (xs : List Msg) (i : ℕ) → In m xs → (looked xs i ≡ Ok m) ⊎ In m (taken xs i)
unfolding In
in_taken m [] i h = absurd h
in_taken m (x ∷ xs) zero (inl e) = inl (ap Ok (sym e))
in_taken m (x ∷ xs) zero (inr h) = inr h
in_taken m (x ∷ xs) (suc i) (inl e) = inr (inl e)
in_taken m (x ∷ xs) (suc i) (inr h) = elim (in_taken m xs i h) [ inl e ↦ inl e | inr a ↦ inr (inr a) ]

-- ## To each party
pub in_if : (b : Bool) (m : Msg) → b ≡ true → In m (cond b (m ∷ []) [])
in_if true m e = in_one m
in_if false m e = absurd (let z : ◌≡◌ {A = ℕ} 0 1 = grind arith in omega arith)

pub in_each : (who : ℕ → Bool) (what : ℕ → Msg) (n j : ℕ) → 1 ≤ j → j ≤ n → who j ≡ true → In (what j) (to_each who what n)
unfolding to_each
in_each who what zero j lo hi e = absurd (omega arith)
in_each who what (suc n) j lo hi e =
    elim (cases_lt n j) [
      | inl l ↦ let q : suc n ≡ j = omega arith in
          in_right (what j) (to_each who what n) _ (subst (λ i. In (what j) (cond (who i) (what i ∷ []) [])) (sym q) (in_if (who j) (what j) e))
      | inr l ↦ in_left (what j) (to_each who what n) _ (in_each who what n j lo l e)
    ]
