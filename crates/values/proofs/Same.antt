-- The test `equal` is equality of lists.
use Rattle.std.proofs.Common.{◌≡◌, ℕ, Bool, true, false, eqb, List, [], ◌∷◌, Decides, sym, refl, ap, ◌∙◌}
use Rattle.std.proofs.lemmas.Bool.{eq-eqb, eqb-true, and_parts, true≢false}
use Rattle.values.specs.Same.{equal}

pub equal_self : (xs : List ℕ) → equal xs xs ≡ true
equal_self [] = refl
equal_self (x ∷ xs) = rw (eq-eqb x x refl, equal_self xs)

pub equal-from : (xs ys : List ℕ) → xs ≡ ys → equal xs ys ≡ true
equal-from xs ys e = ap (equal xs) (sym e) ∙ equal_self xs

pub same_from_equal : (xs ys : List ℕ) → equal xs ys ≡ true → xs ≡ ys
same_from_equal [] [] h = refl
same_from_equal [] (y ∷ ys) h = absurd (true≢false (sym h))
same_from_equal (x ∷ xs) [] h = absurd (true≢false (sym h))
same_from_equal (x ∷ xs) (y ∷ ys) h =
    let p = and_parts (eqb x y) (equal xs ys) h in
    let e : x ≡ y = eqb-true x y p.0 in
    let f : xs ≡ ys = same_from_equal xs ys p.1 in
    cc

pub differ_from_equal : (xs ys : List ℕ) → equal xs ys ≡ false → xs ≡ ys → ⊥
differ_from_equal xs ys h e = true≢false (sym (equal-from xs ys e) ∙ h)

-- two tests that are true together are equal
agree : (a b : Bool) → (a ≡ true → b ≡ true) → (b ≡ true → a ≡ true) → a ≡ b
agree true b f g = sym (f refl)
agree false true f g = g refl
agree false false f g = refl

pub equal_from_not : (xs ys : List ℕ) → (xs ≡ ys → ⊥) → equal xs ys ≡ false
equal_from_not xs ys n = agree (equal xs ys) false (λ h. absurd (n (same_from_equal xs ys h))) (λ h. absurd (true≢false (sym h)))

pub equal_sym : (xs ys : List ℕ) → equal xs ys ≡ equal ys xs
equal_sym xs ys =
    agree (equal xs ys) (equal ys xs)
    (λ h. equal-from ys xs (sym (same_from_equal xs ys h)))
    (λ h. equal-from xs ys (sym (same_from_equal ys xs h)))

pub equal-from-decides : (r : Bool) (xs ys : List ℕ) → Decides r (xs ≡ ys) → r ≡ equal xs ys
equal-from-decides r xs ys d = agree r (equal xs ys) (λ h. equal-from xs ys (d.0 h)) (λ h. d.1 (same_from_equal xs ys h))

pub equal-decides : (xs ys : List ℕ) → Decides (equal xs ys) (xs ≡ ys)
equal-decides xs ys = (same_from_equal xs ys, equal-from xs ys)
