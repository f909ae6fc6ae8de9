-- The laws of frames: a frame has its length, reads as its message, and is written back.
use Rattle.std.proofs.Common.{◌≡◌, ℕ, ◌+◌, ◌≤◌, Bool, true, false, cond, ◌&&◌, eqb, List, [], ◌∷◌, ◌++◌, map, length, get_or, take, drop, Some, None, Option, unwrap_or, ⊎_elim, sym, refl, ap, ◌∙◌, arith}
use Rattle.std.specs.Int.Digits.{number_from_digits, AllBelowBase}
use Rattle.std.proofs.lemmas.Bool.{cond_both, cond-true, cond-false, and_from, and_parts, eqb-true, eq-eqb, ne_eqb, cases_Bool}
use Rattle.std.proofs.lemmas.List.{drop-drop, drop_at, take_at, append_assoc, length-append}
use Rattle.std.specs.List.{AllByRecursion as All}
use Rattle.octets.specs.Bytes.{be}
use Rattle.octets.proofs.Numbers.{number-be, be-part, part_rest}
use Rattle.messages.specs.Messages.{Msg, in_range, earlier_fits}
use Rattle.messages.proofs.Ranges.{in_range-fields, view_small, key_small, earlier_small, value-length}
use Rattle.frames.specs.Frames.{word, unword, frame, frame_length, word_at, fields, is_frame, unframe, FrameLength, ReadsBack, WritesBack}

pub frame_length_stands : FrameLength
unfolding frame
frame_length_stands valid width m h =
    let f = in_range-fields valid width m h in
    let v = value-length valid width _ m.value f.value_in in
    let s = value-length valid width _ m.second_value f.second_value_in in
    let l = length-append m.value m.second_value in
    omega arith

pub word-unword : (n : ℕ) → word (unword n) ≡ n
word-unword n = cond_both (eqb n 4294967295) None (Some n) (λ o. word o ≡ n) (λ e. sym (eqb-true n 4294967295 e)) (λ e. refl)

-- a previous key in range comes back from its four bytes
pub previous_back : (used : Bool) (p : Option ℕ) → earlier_fits used p ≡ true → unword (number_from_digits 256 (be 4 (word p))) ≡ p
previous_back used None h = refl
previous_back used (Some n) h =
    let small : n ≤ 2000000000 = earlier_small used n h in
    ap unword (number-be 4 n (omega arith)) ∙ cond-false (eqb n 4294967295) None (Some n) (ne_eqb n 4294967295 (λ e. omega arith))

-- a message by its fields, one by one
rebuilt : (m : Msg) (view key second : ℕ) (previous : Option ℕ) (x y : List ℕ) → view ≡ m.view → key ≡ m.key → second ≡ m.second_key → previous ≡ m.previous → x ≡ m.value → y ≡ m.second_value → ◌≡◌ {A = Msg} (record { kind = m.kind; from = m.from; to = m.to; view = view; key = key; value = x; second_key = second; second_value = y; previous = previous }) m
rebuilt m view key second previous x y a b c d e f =
    let g : ◌≡◌ {A = Msg} (record { kind = m.kind; from = m.from; to = m.to; view = view; key = key; value = x; second_key = second; second_value = y; previous = previous }) (record { kind = m.kind; from = m.from; to = m.to; view = m.view; key = m.key; value = m.value; second_key = m.second_key; second_value = m.second_value; previous = m.previous }) = cc in
    g

-- the fields of a frame are those of its message
pub fields-frame : (valid : List ℕ → Bool) (width : ℕ) (m : Msg) → in_range valid width m ≡ true → fields width (frame m) ≡ m
unfolding frame
fields-frame valid width m h =
    let f = in_range-fields valid width m h in
    let view : word_at 4 (frame m) ≡ m.view = number-be 4 m.view (omega (arith, view_small m.kind m.view f.view_in)) in
    let key : word_at 8 (frame m) ≡ m.key = number-be 4 m.key (omega (arith, key_small _ m.key f.key_in)) in
    let second : word_at 12 (frame m) ≡ m.second_key = number-be 4 m.second_key (omega (arith, key_small _ m.second_key f.second_in)) in
    let previous : unword (word_at 16 (frame m)) ≡ m.previous = previous_back _ m.previous f.previous_in in
    let l : length m.value ≡ width = value-length valid width _ m.value f.value_in in
    let value : take width (drop 20 (frame m)) ≡ m.value = take_at m.value m.second_value width l in
    let last : drop (20 + width) (frame m) ≡ m.second_value = sym (drop-drop width 20 (frame m)) ∙ drop_at m.value m.second_value width l in
    rebuilt m (word_at 4 (frame m)) (word_at 8 (frame m)) (word_at 12 (frame m)) (unword (word_at 16 (frame m))) (take width (drop 20 (frame m))) (drop (20 + width) (frame m)) view key second previous value last

pub reads_back : ReadsBack
unfolding frame unframe
reads_back valid width m h =
    let e : fields width (frame m) ≡ m = fields-frame valid width m h in
    let l : length (frame m) ≡ frame_length width = frame_length_stands valid width m h in
    let t : is_frame valid width (frame m) ≡ true = and_from _ _ (eq-eqb _ _ l) (and_from true (in_range valid width (fields width (frame m))) refl (ap (in_range valid width) e ∙ h)) in
    cond-true (is_frame valid width (frame m)) (Some (fields width (frame m))) None t ∙ ap Some e

-- a test that gave a value passed, and gave that value
some_cond : {X : Type 0} (b : Bool) (x m : X) → cond b (Some x) None ≡ Some m → (b ≡ true) × (x ≡ m)
some_cond true x m e = (refl, cc)
some_cond false x m e = absurd (let z : ◌≡◌ {A = ℕ} 0 1 = cc in omega arith)

-- what the test of a frame says
pub framed : (valid : List ℕ → Bool) (width : ℕ) (bs : List ℕ) → is_frame valid width bs ≡ true → (length bs ≡ frame_length width) × (get_or bs 3 0 ≡ 0) × (in_range valid width (fields width bs) ≡ true)
framed valid width bs t =
    let p = and_parts (eqb (length bs) (frame_length width)) (eqb (get_or bs 3 0) 0 && in_range valid width (fields width bs)) t in
    let q = and_parts (eqb (get_or bs 3 0) 0) (in_range valid width (fields width bs)) p.1 in
    (eqb-true _ _ p.0, eqb-true _ _ q.0, q.1)

-- what bytes spell is in range, where what stands for other bytes is
pub spelled-ranged : (valid : List ℕ → Bool) (width : ℕ) (other : Msg) → in_range valid width other ≡ true → (bs : List ℕ) → in_range valid width (unwrap_or (unframe valid width bs) other) ≡ true
unfolding unframe
spelled-ranged valid width other fair bs =
    let test : Bool → Bool = λ b. in_range valid width (unwrap_or (cond b (Some (fields width bs)) None) other) in
    ⊎_elim (λ h. ap test h ∙ (framed valid width bs h).2) (λ h. ap test h ∙ fair) (cases_Bool (is_frame valid width bs))

pub all_spelled : (valid : List ℕ → Bool) (width : ℕ) (other : Msg) → in_range valid width other ≡ true → (part : ℕ → List ℕ) (ks : List ℕ) → All (λ m. in_range valid width m ≡ true) (map (λ k. unwrap_or (unframe valid width (part k)) other) ks)
all_spelled valid width other fair part [] = tt
all_spelled valid width other fair part (k ∷ ks) = (spelled-ranged valid width other fair (part k), all_spelled valid width other fair part ks)

-- the first four bytes, and the rest
first_four : (bs : List ℕ) → 4 ≤ length bs → get_or bs 0 0 ∷ get_or bs 1 0 ∷ get_or bs 2 0 ∷ get_or bs 3 0 ∷ drop 4 bs ≡ bs
first_four [] h = absurd (omega arith)
first_four (a ∷ []) h = absurd (omega arith)
first_four (a ∷ b ∷ []) h = absurd (omega arith)
first_four (a ∷ b ∷ c ∷ []) h = absurd (omega arith)
first_four (a ∷ b ∷ c ∷ d ∷ ds) h = refl

-- the parts after them, joined
rejoined : (width : ℕ) (bs a b c d : List ℕ) → a ≡ take 4 (drop 4 bs) → b ≡ take 4 (drop 8 bs) → c ≡ take 4 (drop 12 bs) → d ≡ take 4 (drop 16 bs) → (a ++ (b ++ (c ++ d))) ++ (take width (drop 20 bs) ++ drop (20 + width) bs) ≡ drop 4 bs
rejoined width bs a b c d p q r s =
    let v : List ℕ = take width (drop 20 bs) ++ drop (20 + width) bs in
    let e : v ≡ drop 20 bs = part_rest width 20 bs in
    let f : d ++ v ≡ drop 16 bs = ap (λ w. w ++ v) s ∙ (ap (λ w. take 4 (drop 16 bs) ++ w) e ∙ part_rest 4 16 bs) in
    let g : c ++ (d ++ v) ≡ drop 12 bs = ap (λ w. w ++ (d ++ v)) r ∙ (ap (λ w. take 4 (drop 12 bs) ++ w) f ∙ part_rest 4 12 bs) in
    let h : b ++ (c ++ (d ++ v)) ≡ drop 8 bs = ap (λ w. w ++ (c ++ (d ++ v))) q ∙ (ap (λ w. take 4 (drop 8 bs) ++ w) g ∙ part_rest 4 8 bs) in
    let i : a ++ (b ++ (c ++ (d ++ v))) ≡ drop 4 bs = ap (λ w. w ++ (b ++ (c ++ (d ++ v)))) p ∙ (ap (λ w. take 4 (drop 4 bs) ++ w) h ∙ part_rest 4 4 bs) in
    simp append_assoc i

-- the frame of the fields of bytes that are a frame
pub frame-fields : (valid : List ℕ → Bool) (width : ℕ) (bs : List ℕ) → AllBelowBase 256 bs → is_frame valid width bs ≡ true → frame (fields width bs) ≡ bs
unfolding frame
frame-fields valid width bs u t =
    let p = framed valid width bs t in
    let long : 20 ≤ length bs = omega arith in
    let view = be-part 4 4 bs (omega arith) u in
    let key = be-part 4 8 bs (omega arith) u in
    let second = be-part 4 12 bs (omega arith) u in
    let previous : be 4 (word (unword (word_at 16 bs))) ≡ take 4 (drop 16 bs) = ap (be 4) (word-unword (word_at 16 bs)) ∙ be-part 4 16 bs (omega arith) u in
    let tail = rejoined width bs (be 4 (word_at 4 bs)) (be 4 (word_at 8 bs)) (be 4 (word_at 12 bs)) (be 4 (word (unword (word_at 16 bs)))) view key second previous in
    ap (λ w. get_or bs 0 0 ∷ get_or bs 1 0 ∷ get_or bs 2 0 ∷ 0 ∷ w) tail ∙ (ap (λ z. get_or bs 0 0 ∷ get_or bs 1 0 ∷ get_or bs 2 0 ∷ z ∷ drop 4 bs) (sym p.1) ∙ first_four bs (omega arith))

pub writes_back : WritesBack
unfolding unframe
writes_back valid width bs m u e =
    let p = some_cond (is_frame valid width bs) (fields width bs) m e in
    sym (ap frame p.1) ∙ frame-fields valid width bs u p.0
