-- Texts cut at a byte: what stands before the first, what follows it, and all pieces between.
use Rattle.std.specs.Prelude.{ℕ, Bool, false, cond, ◌||◌, List, [], ◌∷◌, Some, None, Ok, Err, Option, Result, ◌==◌}

-- whether the byte stands in the text
abbrev pub has : ℕ → List ℕ → Bool
has stop [] = false
has stop (b ∷ bs) = b == stop || has stop bs

-- the text before the first such byte; the whole text where there is none
abbrev pub before : ℕ → List ℕ → List ℕ
before stop [] = []
before stop (b ∷ bs) = cond (b == stop) [] (b ∷ before stop bs)

-- the text after the first such byte
abbrev pub after : ℕ → List ℕ → List ℕ
after stop [] = []
after stop (b ∷ bs) = cond (b == stop) bs (after stop bs)

-- a byte put in front of the first piece
abbrev pub onto : ℕ → List (List ℕ) → List (List ℕ)
onto b [] = (b ∷ []) ∷ []
onto b (p ∷ ps) = (b ∷ p) ∷ ps

-- the pieces between such bytes, one more than there are such bytes
abbrev pub pieces : ℕ → List ℕ → List (List ℕ)
pieces stop [] = [] ∷ []
pieces stop (b ∷ bs) = cond (b == stop) ([] ∷ pieces stop bs) (onto b (pieces stop bs))

-- what a reader understood, if anything
abbrev pub understood : {T E : Type 0} → Result T E → Option T
understood (Ok x) = Some x
understood (Err e) = None

-- and what that means
abbrev pub understood_as : {T E B : Type 0} → (T → B) → Result T E → Option B
understood_as f (Ok x) = Some (f x)
understood_as f (Err e) = None

-- one reading after another
abbrev pub then : {A B : Type 0} → Option A → (A → Option B) → Option B
then None f = None
then (Some x) f = f x
