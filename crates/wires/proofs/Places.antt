-- The message at a place, a list without it, and a list made entry by entry.
use Rattle.std.proofs.Common.{◌≡◌, ℕ, zero, suc, ◌+◌, ◌-◌, ◌<◌, ◌≤◌, min, Bool, true, false, cond, ltb, List, [], ◌∷◌, ◌++◌, map, length, get_or, take, drop, set, Ok, Err, sym, refl, ap, ◌∙◌, ⊎_elim, arith}
use lib.Seq.{paste}
use Rattle.std.proofs.lemmas.List.{length-map, length-take, length-drop, take_more_set, map_push, take-map, drop-map, drop-take, get_or-take, get_or-map, take-take, take_all, map-append}
use Rattle.std.proofs.lemmas.List.Edits.{take-paste}
use Rattle.std.proofs.lemmas.Bool.{and_right, and_from, lt-ltb, le-ltb, cases_lt}
use Rattle.messages.specs.Messages.{Msg, in_range}
use Rattle.wires.specs.Wire.{looked, taken, room_left, has_place, may_post, post_answer, posted}

pub looked_past : (xs : List Msg) (i : ℕ) → length xs ≤ i → Err 9 ≡ looked xs i
looked_past [] i h = refl
looked_past (x ∷ xs) zero h = absurd (omega arith)
looked_past (x ∷ xs) (suc i) h = looked_past xs i (omega arith)

pub looked-at : (xs : List Msg) (i : ℕ) (d : Msg) → i < length xs → looked xs i ≡ Ok (get_or xs i d)
looked-at [] i d h = absurd (omega arith)
looked-at (x ∷ xs) zero d h = refl
looked-at (x ∷ xs) (suc i) d h = looked-at xs i d (omega arith)

pub taken_past : (xs : List Msg) (i : ℕ) → length xs ≤ i → xs ≡ taken xs i
taken_past [] i h = refl
taken_past (x ∷ xs) zero h = absurd (omega arith)
taken_past (x ∷ xs) (suc i) h = ap (λ ys. x ∷ ys) (taken_past xs i (omega arith))

pub taken_is : (xs : List Msg) (i : ℕ) → taken xs i ≡ take i xs ++ drop (suc i) xs
taken_is [] zero = refl
taken_is [] (suc i) = refl
taken_is (x ∷ xs) zero = refl
taken_is (x ∷ xs) (suc i) = ap (λ ys. x ∷ ys) (taken_is xs i)

min_left : (a b : ℕ) → a ≤ b → min a b ≡ a
min_left a b h = omega arith

min_right : (a b : ℕ) → b ≤ a → min a b ≡ b
min_right a b h = omega arith

-- a list of what the first `n` entries of a table mean
module _ {A : Type 0} (f : A → Msg) (table : List A) where
  pub length_front : (n : ℕ) → length (map f (take n table)) ≡ min n (length table)
  length_front n = length-map (take n table) f ∙ length-take n table

  pub get_d_front : (n i : ℕ) (d : Msg) → i < n → get_or (map f table) i d ≡ get_or (map f (take n table)) i d
  get_d_front n i d h = sym (ap (λ xs. get_or xs i d) (sym (take-map f n table)) ∙ get_or-take n (map f table) i d h)

  pub looked_front : (n i : ℕ) (d m : Msg) → i < n → i < length table → m ≡ get_or (map f table) i d → Ok m ≡ looked (map f (take n table)) i
  looked_front n i d m h k e =
      let l : i < length (map f (take n table)) = omega (arith, length_front n) in
      ap Ok (e ∙ get_d_front n i d h) ∙ sym (looked-at (map f (take n table)) i d l)

  take_min : (n : ℕ) → take (min n (length table)) table ≡ take n table
  take_min n = ⊎_elim (λ h. ap (λ j. take j table) (min_left n (length table) (omega arith))) (λ h. ap (λ j. take j table) (min_right n (length table) h) ∙ (take_all (length table) table (omega arith) ∙ sym (take_all n table h))) (cases_lt n (length table))

  -- an entry that was read
  pub get_or-entry : (i : ℕ) (x : A) (d m : Msg) → i < length table → x ≡ get_or table i x → m ≡ f x → m ≡ get_or (map f table) i d
  get_or-entry i x d m h e k = k ∙ (ap f e ∙ sym (get_or-map f table i x d h))

  pub front_more : (n : ℕ) (y : A) → n < length table → map f (take (n + 1) (set table n y)) ≡ map f (take n table) ++ f y ∷ []
  front_more n y h = ap (map f) (take_more_set table n y h) ∙ map_push f (take n table) y

  pub front_taken : (n count i : ℕ) → count ≡ min n (length table) → i < count →
      map f (take (count - 1) (paste table i (drop (i + 1) table) (count - (i + 1)))) ≡ taken (map f (take n table)) i
  front_taken n count i e h =
      let k : ℕ = count - (i + 1) in
      let ik : i + k ≡ count - 1 = omega arith in
      let within : i + 1 + k ≤ length table = omega arith in
      let ld : k ≤ length (drop (i + 1) table) = omega (arith, length-drop (i + 1) table) in
      let left : map f (take (count - 1) (paste table i (drop (i + 1) table) k)) ≡ map f (take i table) ++ map f (take k (drop (i + 1) table)) =
      ap (λ j. map f (take j (paste table i (drop (i + 1) table) k))) (sym ik) ∙ (ap (map f) (take-paste table i (drop (i + 1) table) k (omega arith) ld) ∙ map-append f (take i table) (take k (drop (i + 1) table))) in
      let whole : take count table ≡ take n table = ap (λ j. take j table) e ∙ take_min n in
      let size : (i + 1) + k ≡ count = omega arith in
      let next : suc i ≡ i + 1 = omega arith in
      let right : take i (map f (take n table)) ≡ map f (take i table) =
      take-map f i (take n table) ∙ ap (map f) (take-take i n table (omega arith)) in
      let rest : drop (suc i) (map f (take n table)) ≡ map f (take k (drop (i + 1) table)) =
      drop-map f (suc i) (take n table) ∙ ap (map f) (ap (drop (suc i)) (sym whole) ∙ (ap (λ j. drop j (take count table)) next ∙ (ap (λ j. drop (i + 1) (take j table)) (sym size) ∙ drop-take (i + 1) k table))) in
      left ∙ sym (taken_is (map f (take n table)) i ∙ (ap (λ ys. ys ++ drop (suc i) (map f (take n table))) right ∙ ap (λ ys. map f (take i table) ++ ys) rest))

-- whether there is a message at a place
pub no_place : (xs : List Msg) (i : ℕ) → length xs ≤ i → false ≡ has_place xs i
no_place xs i h = sym (le-ltb i (length xs) h)

pub a_place : (xs : List Msg) (i : ℕ) → i < length xs → true ≡ has_place xs i
a_place xs i h = sym (lt-ltb i (length xs) h)

-- a post to a wire with or without room
module _ (valid : List ℕ → Bool) (width capacity : ℕ) (xs : List Msg) (m : Msg) (ok : true ≡ in_range valid width m) where
  module _ (full : capacity ≤ length xs) where
    no_room : ltb 0 (room_left capacity xs) ≡ false
    no_room = le-ltb 0 (capacity - length xs) (omega arith)

    pub full_test : false ≡ may_post valid width capacity xs m
    full_test = sym (and_right (in_range valid width m) _ no_room)

    pub full_answer : Err 10 ≡ post_answer valid width capacity xs m
    full_answer = sym (ap (λ b. cond (in_range valid width m) (cond b (Ok tt) (Err 10)) (Err 6)) no_room ∙ ap (λ b. cond b (Err 10) (Err 6)) (sym ok))

    pub full_after : xs ≡ posted valid width capacity xs m
    full_after = ap (λ b. cond b (xs ++ m ∷ []) xs) full_test

  module _ (free : length xs < capacity) where
    some_room : ltb 0 (room_left capacity xs) ≡ true
    some_room = lt-ltb 0 (capacity - length xs) (omega arith)

    pub free_test : true ≡ may_post valid width capacity xs m
    free_test = sym (and_from (in_range valid width m) _ (sym ok) some_room)

    pub free_answer : Ok tt ≡ post_answer valid width capacity xs m
    free_answer = sym (ap (λ b. cond (in_range valid width m) (cond b (Ok tt) (Err 10)) (Err 6)) some_room ∙ ap (λ b. cond b (Ok tt) (Err 6)) (sym ok))

    pub free_after : xs ++ m ∷ [] ≡ posted valid width capacity xs m
    free_after = ap (λ b. cond b (xs ++ m ∷ []) xs) free_test
