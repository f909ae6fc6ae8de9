-- Facts about cuts.
use Rattle.std.proofs.Common.{◌≡◌, ℕ, ◌+◌, ◌<◌, ◌≤◌, true, false, cond, ◌||◌, eqb, ltb, List, [], ◌∷◌, length, take, drop, Some, None, Option, MatchOption, sym, refl, ap, ◌∙◌, subst, add-one, arith}
use Rattle.std.specs.List.{position_or_len}
use Rattle.std.specs.Option.{unwrap_or}
use Rattle.std.proofs.lemmas.List.Recursion.{is_position_or_len}
use Rattle.std.proofs.lemmas.Bool.Decides.{nat_tests}
use Rattle.sheet_fields.specs.Cuts.{before, after, has, onto, pieces}

-- the text before the first stop is a front of the text
pub before_front : (stop : ℕ) (bs : List ℕ) → before stop bs ≡ take (length (before stop bs)) bs
before_front stop [] = refl
before_front stop (b ∷ bs) =
    elim (eqb b stop) as (λ v. cond v [] (b ∷ before stop bs) ≡ take (length (cond v [] (b ∷ before stop bs))) (b ∷ bs))
    [ true ↦ refl | false ↦ ap (λ t. b ∷ t) (before_front stop bs) ]

pub length_before : (stop : ℕ) (bs : List ℕ) → length (before stop bs) ≤ length bs
length_before stop [] = omega arith
length_before stop (b ∷ bs) =
    elim (eqb b stop) as (λ v. length (cond v [] (b ∷ before stop bs)) ≤ length (b ∷ bs))
    [ true ↦ omega arith | false ↦ let h = length_before stop bs in omega arith ]

-- there is a stop exactly if the text before it is shorter than the whole
pub has-is : (stop : ℕ) (bs : List ℕ) → has stop bs ≡ ltb (length (before stop bs)) (length bs)
has-is stop [] = refl
has-is stop (b ∷ bs) =
    elim (eqb b stop) as (λ v. (v || has stop bs) ≡ ltb (length (cond v [] (b ∷ before stop bs))) (length (b ∷ bs)))
    [ true ↦ grind (arith, nat_tests) | false ↦ has-is stop bs ∙ grind (arith, nat_tests) ]

-- the text after the first stop, by its place
pub after-drop : (stop : ℕ) (bs : List ℕ) → after stop bs ≡ drop (length (before stop bs) + 1) bs
after-drop stop [] = refl
after-drop stop (b ∷ bs) =
    elim (eqb b stop) as (λ v. cond v bs (after stop bs) ≡ drop (length (cond v [] (b ∷ before stop bs)) + 1) (b ∷ bs))
    [ true ↦ refl | false ↦ simp add-one (simp add-one at (after-drop stop bs)) ]

-- the place of the first stop, and the text before it
pub length_before-place : (stop : ℕ) (bs : List ℕ) → length (before stop bs) ≡ position_or_len (λ b. eqb b stop) bs
length_before-place stop bs =
    is_position_or_len (λ t. length (before stop t)) (λ b. eqb b stop) refl
    (λ x xs. elim (eqb x stop) as (λ v. length (cond v [] (x ∷ before stop xs)) ≡ cond v 0 (1 + length (before stop xs))) [ true ↦ refl | false ↦ omega arith ])
    bs

-- what a search for the first stop tells of a cut
abbrev pub CutAt : ℕ → List ℕ → Option ℕ → Type 0
CutAt stop bs r = MatchOption r (has stop bs ≡ false) (λ i. (has stop bs ≡ true) × (i ≡ length (before stop bs)))

pub cut_at : (stop : ℕ) (bs : List ℕ) (r : Option ℕ) → r ≡ cond (ltb (position_or_len (λ b. eqb b stop) bs) (length bs)) (Some (position_or_len (λ b. eqb b stop) bs)) None → CutAt stop bs r
cut_at stop bs r e =
    let g : r ≡ cond (has stop bs) (Some (length (before stop bs))) None = e ∙ rw (← length_before-place stop bs, ← has-is stop bs) refl in
    subst (CutAt stop bs) (sym g) (
    elim (has stop bs) as (λ v. MatchOption (cond v (Some (length (before stop bs))) None) (v ≡ false) (λ i. (v ≡ true) × (i ≡ length (before stop bs))))
    [ true ↦ (refl, refl) | false ↦ refl ]
    )

-- so the place that it finds, or the length where there is none, is the end of the text before the stop
pub end_before : (stop : ℕ) (bs : List ℕ) (r : Option ℕ) (end : ℕ) →
    r ≡ cond (ltb (position_or_len (λ b. eqb b stop) bs) (length bs)) (Some (position_or_len (λ b. eqb b stop) bs)) None → end ≡ unwrap_or r (length bs) → end ≡ length (before stop bs)
end_before stop bs r end e u =
    u ∙ elim r as (λ o. CutAt stop bs o → unwrap_or o (length bs) ≡ length (before stop bs))
    [ Some i ↦ λ h. h.1 | None ↦ λ h. (let l = length_before stop bs in let k = has-is stop bs in grind (arith, nat_tests)) ] (cut_at stop bs r e)

-- the pieces of a text with a stop: the text before it, and the pieces of the rest
pub pieces_more : (stop : ℕ) (bs : List ℕ) → has stop bs ≡ true → pieces stop bs ≡ before stop bs ∷ pieces stop (after stop bs)
pieces_more stop [] h = let z : ◌≡◌ {A = ℕ} 0 1 = cc in absurd (omega arith)
pieces_more stop (b ∷ bs) h =
    elim (eqb b stop) as (λ v. (v || has stop bs) ≡ true → cond v ([] ∷ pieces stop bs) (onto b (pieces stop bs)) ≡ cond v [] (b ∷ before stop bs) ∷ pieces stop (cond v bs (after stop bs)))
    [ true ↦ λ e. refl | false ↦ λ e. rw (pieces_more stop bs e) refl ] h

-- and of a text without one: the text itself
pub pieces_last : (stop : ℕ) (bs : List ℕ) → has stop bs ≡ false → pieces stop bs ≡ bs ∷ []
pieces_last stop [] h = refl
pieces_last stop (b ∷ bs) h =
    elim (eqb b stop) as (λ v. (v || has stop bs) ≡ false → cond v ([] ∷ pieces stop bs) (onto b (pieces stop bs)) ≡ (b ∷ bs) ∷ [])
    [ true ↦ λ e. (let z : ◌≡◌ {A = ℕ} 0 1 = cc in absurd (omega arith)) | false ↦ λ e. rw (pieces_last stop bs e) refl ] h

-- the text after a stop is shorter
pub length-after : (stop : ℕ) (bs : List ℕ) → has stop bs ≡ true → length (after stop bs) < length bs
length-after stop [] h = let z : ◌≡◌ {A = ℕ} 0 1 = cc in absurd (omega arith)
length-after stop (b ∷ bs) h =
    elim (eqb b stop) as (λ v. (v || has stop bs) ≡ true → length (cond v bs (after stop bs)) < length (b ∷ bs))
    [ true ↦ λ e. omega arith | false ↦ λ e. (let l = length-after stop bs e in omega arith) ] h
