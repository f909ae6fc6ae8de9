-- Lines read one after another.
use Rattle.std.proofs.Common.{◌≡◌, ℕ, zero, suc, ◌+◌, ◌-◌, ◌<◌, ◌≤◌, List, [], ◌∷◌, ◌++◌, map, length, take, drop, set, replicate, Some, None, Ok, Err, Option, Result, sym, refl, ap, ◌∙◌, ⊎_elim, add-one, arith}
use Rattle.std.proofs.lemmas.Bool.{cases_lt}
use Rattle.std.proofs.lemmas.List.{take_more_set, map-set, length-map, drop-map, drop-replicate, length_push, take-append-drop}
use Rattle.std.proofs.lemmas.Slice.{drop-append-drop}
use Rattle.sheet_lines.specs.Lines.{lines, line_after}
use Rattle.sheet_lines.specs.Readings.{own_line, call_line}
use Rattle.sheet.specs.Sheets.{one_more, each, line_gives, own_values, sized, next}
use Rattle.sheet_lines.specs.declared.call.Call.{Call}

more_gives : {A : Type 0} (r : Result (List A) ℕ) (o : Option A) (k : ℕ) (xs : List A) (x : A) → r ≡ Ok xs → line_gives k o ≡ Ok x → one_more r k o ≡ Ok (xs ++ x ∷ [])
more_gives (Ok ys) (Some y) k xs x e h = cc
more_gives (Ok ys) None k xs x e h = let z : ◌≡◌ {A = ℕ} 0 1 = cc in absurd (omega arith)
more_gives (Err m) (Some y) k xs x e h = let z : ◌≡◌ {A = ℕ} 0 1 = cc in absurd (omega arith)
more_gives (Err m) None k xs x e h = let z : ◌≡◌ {A = ℕ} 0 1 = cc in absurd (omega arith)

more_stops : {A : Type 0} (r : Result (List A) ℕ) (o : Option A) (k m : ℕ) (xs : List A) → r ≡ Ok xs → line_gives k o ≡ Err m → one_more r k o ≡ Err m
more_stops (Ok ys) (Some y) k m xs e h = let z : ◌≡◌ {A = ℕ} 0 1 = cc in absurd (omega arith)
more_stops (Ok ys) None k m xs e h = cc
more_stops (Err n) (Some y) k m xs e h = let z : ◌≡◌ {A = ℕ} 0 1 = cc in absurd (omega arith)
more_stops (Err n) None k m xs e h = let z : ◌≡◌ {A = ℕ} 0 1 = cc in absurd (omega arith)

-- one more line that was read
pub each_more : {A : Type 0} (read : ℕ → Option A) (from i : ℕ) (xs : List A) (x : A) → each read from i ≡ Ok xs → line_gives (from + i + 1) (read i) ≡ Ok x → each read from (i + 1) ≡ Ok (xs ++ x ∷ [])
each_more read from i xs x e h = ap (each read from) (add-one i) ∙ more_gives (each read from i) (read i) (from + i + 1) xs x e h

-- a line that was not
pub each_stops : {A : Type 0} (read : ℕ → Option A) (from i m : ℕ) (xs : List A) → each read from i ≡ Ok xs → line_gives (from + i + 1) (read i) ≡ Err m → each read from (i + 1) ≡ Err m
each_stops read from i m xs e h = ap (each read from) (add-one i) ∙ more_stops (each read from i) (read i) (from + i + 1) m xs e h

-- the lines after it change nothing
pub each_stuck : {A : Type 0} (read : ℕ → Option A) (from i m n : ℕ) → i ≤ n → each read from i ≡ Err m → each read from n ≡ Err m
each_stuck read from i m zero l e = let z : i ≡ 0 = omega arith in ap (each read from) (sym z) ∙ e
each_stuck read from i m (suc n) l e =
    ⊎_elim
    (λ (h : i < suc n). ap (λ r. one_more r (from + n + 1) (read n)) (each_stuck read from i m n (omega arith) e))
    (λ (h : suc n ≤ i). let z : i ≡ suc n = omega arith in ap (each read from) (sym z) ∙ e)
    (cases_lt i (suc n))

-- a value written at the next place
pub write_front : {A B : Type 0} (f : A → B) (xs : List A) (i : ℕ) (x : A) → i < length xs → take (i + 1) (map f (set xs i x)) ≡ take i (map f xs) ++ f x ∷ []
write_front f xs i x l =
    let g : length (map f xs) ≡ length xs = length-map xs f in
    ap (take (i + 1)) (map-set f xs i x) ∙ take_more_set (map f xs) i (f x) (omega arith)

-- what follows the places of a table that were written
pub blanks_after : {A B : Type 0} (f : A → B) (vs xs : List A) (n : ℕ) (b : B) → length vs ≡ n → map f xs ≡ replicate 8 b → drop n (map f (vs ++ drop n xs)) ≡ replicate (8 - n) b
blanks_after f vs xs n b e h =
    drop-map f n (vs ++ drop n xs)
    ∙ (ap (map f) (drop-append-drop n xs vs n (omega arith) e)
    ∙ (sym (drop-map f n xs) ∙ (ap (drop n) h ∙ drop-replicate n 8 b)))

-- what a reader says of the line at a cursor, told by the cursor's start
own_place : (reads : List ℕ → Option (List ℕ)) (blank s t : List ℕ) (faulty from p i : ℕ) → s ≡ t → p ≡ from + i → line_gives (p + 1) (own_line reads blank faulty (i + 1) (line_after (lines s) p)) ≡ line_gives (from + i + 1) (own_line reads blank faulty (i + 1) (line_after (lines t) (from + i)))
own_place reads blank s t faulty from p i e f =
    ap (λ u. line_gives (p + 1) (own_line reads blank faulty (i + 1) (line_after (lines u) p))) e
    ∙ ap (λ q. line_gives (q + 1) (own_line reads blank faulty (i + 1) (line_after (lines t) q))) f

pub own_more : (reads : List ℕ → Option (List ℕ)) (blank s t : List ℕ) (faulty from p i : ℕ) (xs : List (List ℕ)) (x : List ℕ) → s ≡ t → p ≡ from + i → own_values reads blank (lines t) faulty from i ≡ Ok xs → Ok x ≡ line_gives (p + 1) (own_line reads blank faulty (i + 1) (line_after (lines s) p)) → own_values reads blank (lines t) faulty from (i + 1) ≡ Ok (xs ++ x ∷ [])
own_more reads blank s t faulty from p i xs x e f h g =
    each_more (λ j. own_line reads blank faulty (j + 1) (line_after (lines t) (from + j))) from i xs x h (sym (g ∙ own_place reads blank s t faulty from p i e f))

pub own_stops : (reads : List ℕ → Option (List ℕ)) (blank s t : List ℕ) (faulty from p i n m : ℕ) (xs : List (List ℕ)) → s ≡ t → p ≡ from + i → i < n → own_values reads blank (lines t) faulty from i ≡ Ok xs → Err m ≡ line_gives (p + 1) (own_line reads blank faulty (i + 1) (line_after (lines s) p)) → Err m ≡ own_values reads blank (lines t) faulty from n
own_stops reads blank s t faulty from p i n m xs e f l h g =
    let read : ℕ → Option (List ℕ) = λ j. own_line reads blank faulty (j + 1) (line_after (lines t) (from + j)) in
    sym (each_stuck read from (i + 1) m n (omega arith) (each_stops read from i m xs h (sym (g ∙ own_place reads blank s t faulty from p i e f))))

sized_some : {A : Type 0} (r : Result (List A) ℕ) (n : ℕ) → sized r ≡ Ok n → (xs : List A) × (r ≡ Ok xs) × (length xs ≡ n)
sized_some (Ok xs) n e = (xs, refl, cc)
sized_some (Err m) n e = let z : ◌≡◌ {A = ℕ} 0 1 = cc in absurd (omega arith)

call_place : (s t : List ℕ) (from p i : ℕ) → s ≡ t → p ≡ from + i → line_gives (p + 1) (call_line (line_after (lines s) p)) ≡ line_gives (from + i + 1) (call_line (line_after (lines t) (from + i)))
call_place s t from p i e f =
    ap (λ u. line_gives (p + 1) (call_line (line_after (lines u) p))) e
    ∙ ap (λ q. line_gives (q + 1) (call_line (line_after (lines t) q))) f

-- what the first lines of calls give
abbrev pub some_calls : List ℕ → ℕ → ℕ → Result (List Call) ℕ
some_calls t from i = each (λ j. call_line (line_after (lines t) (from + j))) from i

pub call_more : (s t : List ℕ) (from p i : ℕ) (xs : List Call) (x : Call) → s ≡ t → p ≡ from + i → some_calls t from i ≡ Ok xs → Ok x ≡ line_gives (p + 1) (call_line (line_after (lines s) p)) → some_calls t from (i + 1) ≡ Ok (xs ++ x ∷ [])
call_more s t from p i xs x e f h g =
    each_more (λ j. call_line (line_after (lines t) (from + j))) from i xs x h (sym (g ∙ call_place s t from p i e f))

pub call_stops : (s t : List ℕ) (from p i n m : ℕ) (xs : List Call) → s ≡ t → p ≡ from + i → i < n → some_calls t from i ≡ Ok xs → Err m ≡ line_gives (p + 1) (call_line (line_after (lines s) p)) → some_calls t from n ≡ Err m
call_stops s t from p i n m xs e f l h g =
    let read : ℕ → Option Call = λ j. call_line (line_after (lines t) (from + j)) in
    each_stuck read from (i + 1) m n (omega arith) (each_stops read from i m xs h (sym (g ∙ call_place s t from p i e f)))

pub size_more : (s t : List ℕ) (from p i : ℕ) (x : Call) → s ≡ t → p ≡ from + i → sized (some_calls t from i) ≡ Ok i → Ok x ≡ line_gives (p + 1) (call_line (line_after (lines s) p)) → sized (some_calls t from (i + 1)) ≡ Ok (i + 1)
size_more s t from p i x e f h g =
    let k = sized_some (some_calls t from i) i h in
    ap sized (call_more s t from p i k.0 x e f k.1 g) ∙ ap Ok (length_push k.0 x ∙ ap (λ n. n + 1) k.2)

pub size_stops : (s t : List ℕ) (from p i n m : ℕ) → s ≡ t → p ≡ from + i → i < n → sized (some_calls t from i) ≡ Ok i → Err m ≡ line_gives (p + 1) (call_line (line_after (lines s) p)) → Err m ≡ sized (some_calls t from n)
size_stops s t from p i n m e f l h g =
    let k = sized_some (some_calls t from i) i h in
    sym (ap sized (call_stops s t from p i n m k.0 e f l k.1 g))

-- a table from its front and its blanks
pub table_is : (m : List (List ℕ)) (n : ℕ) (b : List ℕ) (r : Result (List (List ℕ)) ℕ) → Ok (take n m) ≡ r → drop n m ≡ replicate (8 - n) b → Ok m ≡ next r (λ vs. Ok (vs ++ replicate (8 - n) b))
table_is m n b r e d =
    ap Ok (sym (take-append-drop n m) ∙ ap (λ t. take n m ++ t) d)
    ∙ ap (λ q. next q (λ vs. Ok (vs ++ replicate (8 - n) b))) e
