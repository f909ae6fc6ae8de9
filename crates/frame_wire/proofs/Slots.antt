-- The places of a buffer, and what a write and a closed gap leave in them.
use Rattle.std.proofs.Common.{◌≡◌, ℕ, suc, ◌+◌, ◌-◌, ◌*◌, ◌/◌, ◌<◌, ◌≤◌, min, Bool, true, List, [], ◌∷◌, ◌++◌, map, length, get_or, take, drop, replicate, Ok, sym, ap, ◌∙◌, ⊎_elim, mul-le-mul_right, suc-mul, div-mul-le_self, arith}
use lib.Seq.{paste}
use Rattle.std.specs.List.{range_with_len}
use Rattle.std.proofs.lemmas.List.FromFn.{length-map-range_with_len, get_or-map-range_with_len, map-range_with_len_more, fill_by_all}
use Rattle.std.proofs.lemmas.List.Edits.{length-remove, get_or-remove_below, get_or-remove_above, length-paste}
use Rattle.std.proofs.lemmas.List.{length-drop, length-append, length-take-le, drop-append-le, take-append-le, take-append-drop, drop-drop, drop_at, append_assoc}
use Rattle.std.proofs.lemmas.Bool.{cases_lt}
use Rattle.octets.specs.Bytes.{over}
use Rattle.octets.proofs.Writes.{length_over, part-over}
use Rattle.messages.specs.Messages.{Msg, in_range}
use Rattle.frames.specs.Frames.{frame_length}
use Rattle.frames.proofs.Back.{spelled-ranged}
use Rattle.wires.specs.Wire.{fixed_request, taken, looked}
use Rattle.wires.proofs.Places.{taken_is, looked-at}
use Rattle.wires.proofs.Ranges.{fixed_ranged}
use Rattle.frame_wire.specs.Buffer.{places, heard, closed}

-- a place that fits
pub slot_fits : (i whole size : ℕ) → i < whole / size → i * size + size ≤ whole
slot_fits i whole size h = omega (arith, mul-le-mul_right size h, suc-mul i size, div-mul-le_self whole size)

pub places_fit : (count whole size : ℕ) → count ≤ whole / size → count * size ≤ whole
places_fit count whole size h = omega (arith, mul-le-mul_right size h, div-mul-le_self whole size)

pub slot_step : (i j size : ℕ) → i < j → i * size + size ≤ j * size
slot_step i j size h = omega (arith, mul-le-mul_right size h, suc-mul i size)

-- the same at a size that a call gave
pub fits_at : (i : ℕ) (buffer : List ℕ) (width size : ℕ) → size ≡ frame_length width → i < places width buffer → i * size + size ≤ length buffer
fits_at i buffer width size e h = slot_fits i (length buffer) size (rw e h)

pub fits_whole : (i : ℕ) (buffer : List ℕ) (width size : ℕ) → size ≡ frame_length width → i < places width buffer → i * size + frame_length width ≤ length buffer
fits_whole i buffer width size e h = rw (← e) (fits_at i buffer width size e h)

next-slot : (k size : ℕ) → (k + 1) * size ≡ k * size + size
next-slot k size =
    let e : k + 1 ≡ suc k = omega arith in
    ap (λ x. x * size) e ∙ suc-mul k size

min_left : (a b : ℕ) → a ≤ b → min a b ≡ a
min_left a b h = omega arith

-- two functions that agree below n
map_below : {A : Type 0} (g f : ℕ → A) (n : ℕ) → ((k : ℕ) → k < n → g k ≡ f k) → map g (range_with_len 0 n) ≡ map f (range_with_len 0 n)
map_below g f n h =
    fill_by_all f (map g (range_with_len 0 n)) n (f 0) (length-map-range_with_len g 0 n) (λ k l. get_or-map-range_with_len g 0 n k k (f 0) l (omega arith) ∙ h k l)

-- a list made place by place, without one
pub taken_made : (f g : ℕ → Msg) (c i : ℕ) → i < c → ((k : ℕ) → k < i → g k ≡ f k) → ((k : ℕ) → i ≤ k → k + 1 < c → g k ≡ f (k + 1)) → map g (range_with_len 0 (c - 1)) ≡ taken (map f (range_with_len 0 c)) i
taken_made f g c i h below above =
    let xs : List Msg = map f (range_with_len 0 c) in
    let l : length xs ≡ c = length-map-range_with_len f 0 c in
    let within : i < length xs = omega arith in
    let len : length (taken xs i) ≡ c - 1 = ap length (taken_is xs i) ∙ omega (arith, length-remove xs i within) in
    let each : (k : ℕ) → k < c - 1 → get_or (taken xs i) k (f 0) ≡ g k = λ k lk.
    ⊎_elim
    (λ b. ap (λ ys. get_or ys k (f 0)) (taken_is xs i) ∙ (get_or-remove_below xs i (f 0) k b within ∙ (get_or-map-range_with_len f 0 c k k (f 0) (omega arith) (omega arith) ∙ sym (below k b))))
    (λ b. ap (λ ys. get_or ys k (f 0)) (taken_is xs i) ∙ (get_or-remove_above xs i (f 0) k b within ∙ (get_or-map-range_with_len f 0 c (k + 1) (k + 1) (f 0) (omega arith) (omega arith) ∙ sym (above k b (omega arith)))))
    (cases_lt k i) in
    sym (fill_by_all g (taken xs i) (c - 1) (f 0) len each)

front : {A : Type 0} (xs ys : List A) (b s : ℕ) → b + s ≤ length xs → take s (drop b (xs ++ ys)) ≡ take s (drop b xs)
front xs ys b s h =
    let p : b ≤ length xs = omega arith in
    let q : s ≤ length (drop b xs) = omega (arith, length-drop b xs) in
    ap (take s) (drop-append-le b xs ys p) ∙ take-append-le s (drop b xs) ys q

-- a part before the place where a list was changed
pub part-before : {A : Type 0} (xs rest : List A) (b s a : ℕ) → b + s ≤ a → a ≤ length xs → take s (drop b (take a xs ++ rest)) ≡ take s (drop b xs)
part-before xs rest b s a h k =
    let l : length (take a xs) ≡ a = length-take-le a xs k in
    let n : b + s ≤ length (take a xs) = omega arith in
    front (take a xs) rest b s n ∙ (sym (front (take a xs) (drop a xs) b s n) ∙ ap (λ w. take s (drop b w)) (take-append-drop a xs))

-- a part after a gap of `s` at `a` that was closed
pub part_moved : {A : Type 0} (xs : List A) (a s n o : ℕ) → a + s + n ≤ length xs → o + s ≤ n → take s (drop (a + o) (paste xs a (drop (a + s) xs) n)) ≡ take s (drop (a + s + o) xs)
part_moved {A} xs a s n o h k =
    let d : List A = drop (a + s) xs in
    let q : List A = take a xs ++ take n d in
    let l : length (take a xs) ≡ a = length-take-le a xs (omega arith) in
    let ld : length (take n d) ≡ n = length-take-le n d (omega (arith, length-drop (a + s) xs)) in
    let lq : length q ≡ a + n = length-append (take a xs) (take n d) ∙ omega arith in
    let one : take s (drop (a + o) (q ++ drop (a + n) xs)) ≡ take s (drop (a + o) q) = front q (drop (a + n) xs) (a + o) s (omega arith) in
    let two : drop (a + o) q ≡ drop o (take n d) = sym (drop-drop o a q) ∙ ap (drop o) (drop_at (take a xs) (take n d) a l) in
    let three : take s (drop o (take n d)) ≡ take s (drop o d) = sym (front (take n d) (drop n d) o s (omega arith)) ∙ ap (λ w. take s (drop o w)) (take-append-drop n d) in
    one ∙ (ap (take s) two ∙ (three ∙ ap (take s) (drop-drop o (a + s) xs)))

-- and one before the gap
pub part-kept : {A : Type 0} (xs ys : List A) (a s n b : ℕ) → b + s ≤ a → a ≤ length xs → take s (drop b (paste xs a ys n)) ≡ take s (drop b xs)
part-kept xs ys a s n b h k = ap (λ w. take s (drop b w)) (append_assoc (take a xs) (take n ys) (drop (a + n) xs)) ∙ part-before xs (take n ys ++ drop (a + n) xs) b s a h k

-- what bytes mean is in range
pub heard_fair : (valid : List ℕ → Bool) (width : ℕ) → valid (replicate width 0) ≡ true → (bs : List ℕ) (m : Msg) → m ≡ heard valid width bs → in_range valid width m ≡ true
heard_fair valid width blank bs m e = ap (in_range valid width) e ∙ spelled-ranged valid width (fixed_request width) (fixed_ranged valid width blank) bs

-- a buffer of places of `s` bytes, each heard as a message
module _ (s : ℕ) (hear : List ℕ → Msg) where
  abbrev pub listing : ℕ → List ℕ → List Msg
  listing n buffer = map (λ k. hear (take s (drop (k * s) buffer))) (range_with_len 0 (min n (length buffer / s)))

  pub length_listing : (n : ℕ) (buffer : List ℕ) → length (listing n buffer) ≡ min n (length buffer / s)
  length_listing n buffer = length-map-range_with_len (λ k. hear (take s (drop (k * s) buffer))) 0 (min n (length buffer / s))

  pub looked_listing : (n i : ℕ) (buffer : List ℕ) (m : Msg) → i < n → i < length buffer / s → m ≡ hear (take s (drop (i * s) buffer)) → Ok m ≡ looked (listing n buffer) i
  looked_listing n i buffer m h k e =
      let f : ℕ → Msg = λ j. hear (take s (drop (j * s) buffer)) in
      let c : ℕ = min n (length buffer / s) in
      let ic : i < c = omega arith in
      let l : i < length (map f (range_with_len 0 c)) = omega (arith, length-map-range_with_len f 0 c) in
      sym (looked-at (map f (range_with_len 0 c)) i m l ∙ ap Ok (get_or-map-range_with_len f 0 c i i m ic (omega arith) ∙ sym e))

  -- bytes written at the first free place
  pub listing_more : (n : ℕ) (buffer bs : List ℕ) (m : Msg) → n < length buffer / s → length bs ≡ s → hear bs ≡ m → listing (n + 1) (over buffer (n * s) bs) ≡ listing n buffer ++ m ∷ []
  listing_more n buffer bs m room fl e =
      let written : List ℕ = over buffer (n * s) bs in
      let f : ℕ → Msg = λ k. hear (take s (drop (k * s) buffer)) in
      let g : ℕ → Msg = λ k. hear (take s (drop (k * s) written)) in
      let fits : n * s + s ≤ length buffer = slot_fits n (length buffer) s room in
      let start : n * s ≤ length buffer = omega arith in
      let same : length written ≡ length buffer = length_over buffer (n * s) bs (omega arith) in
      let count : min (n + 1) (length written / s) ≡ n + 1 = ap (λ l. min (n + 1) (l / s)) same ∙ min_left (n + 1) (length buffer / s) (omega arith) in
      let count' : min n (length buffer / s) ≡ n = min_left n (length buffer / s) (omega arith) in
      let own : g n ≡ m = ap hear (part-over buffer (n * s) bs s fl start) ∙ e in
      let olds : map g (range_with_len 0 n) ≡ map f (range_with_len 0 n) = map_below g f n (λ k h. ap hear (part-before buffer (bs ++ drop (n * s + length bs) buffer) (k * s) s (n * s) (slot_step k n s h) start)) in
      ap (λ c. map g (range_with_len 0 c)) count ∙ (map-range_with_len_more g 0 n n (omega arith) ∙ (ap (λ xs. xs ++ g n ∷ []) olds ∙ (ap (λ x. map f (range_with_len 0 n) ++ x ∷ []) own ∙ ap (λ c. map f (range_with_len 0 c) ++ m ∷ []) (sym count'))))

module _ (s : ℕ) (buffer : List ℕ) (i count : ℕ) (h : i < count) (whole : count ≤ length buffer / s) where
  pub gap_fits : (i * s + s ≤ count * s) × (count * s ≤ length buffer)
  gap_fits = (slot_step i count s h, places_fit count (length buffer) s whole)

  moved : i * s + s + (count * s - (i * s + s)) ≤ length buffer
  moved = omega (arith, gap_fits.0, gap_fits.1)

  pub length-closed : length (closed s buffer i count) ≡ length buffer
  length-closed = length-paste buffer (i * s) (drop (i * s + s) buffer) (count * s - (i * s + s)) (omega (arith, moved)) (omega (arith, length-drop (i * s + s) buffer, moved))

  slot-moved : (k : ℕ) → i ≤ k → k + 1 < count → take s (drop (k * s) (closed s buffer i count)) ≡ take s (drop ((k + 1) * s) buffer)
  slot-moved k b t =
      let o : ℕ = k * s - i * s in
      let low : i * s ≤ k * s = mul-le-mul_right s b in
      let here : i * s + o ≡ k * s = omega arith in
      let next : (k + 1) * s ≡ k * s + s = next-slot k s in
      let top : (k + 1) * s + s ≤ count * s = slot_step (k + 1) count s t in
      let there : i * s + s + o ≡ (k + 1) * s = omega arith in
      let inside : o + s ≤ count * s - (i * s + s) = omega arith in
      ap (λ x. take s (drop x (closed s buffer i count))) (sym here) ∙ (part_moved buffer (i * s) s (count * s - (i * s + s)) o moved inside ∙ ap (λ x. take s (drop x buffer)) there)

  slot_kept : (k : ℕ) → k < i → take s (drop (k * s) (closed s buffer i count)) ≡ take s (drop (k * s) buffer)
  slot_kept k b = part-kept buffer (drop (i * s + s) buffer) (i * s) s (count * s - (i * s + s)) (k * s) (slot_step k i s b) (omega (arith, moved))

  pub listing_taken : (hear : List ℕ → Msg) (n : ℕ) → count ≡ min n (length buffer / s) → listing s hear (count - 1) (closed s buffer i count) ≡ taken (listing s hear n buffer) i
  listing_taken hear n e =
      let f : ℕ → Msg = λ k. hear (take s (drop (k * s) buffer)) in
      let g : ℕ → Msg = λ k. hear (take s (drop (k * s) (closed s buffer i count))) in
      let c : min (count - 1) (length (closed s buffer i count) / s) ≡ count - 1 = ap (λ l. min (count - 1) (l / s)) length-closed ∙ min_left (count - 1) (length buffer / s) (omega arith) in
      let all : map g (range_with_len 0 (count - 1)) ≡ taken (map f (range_with_len 0 count)) i = taken_made f g count i h (λ k b. ap hear (slot_kept k b)) (λ k b t. ap hear (slot-moved k b t)) in
      ap (λ j. map g (range_with_len 0 j)) c ∙ (all ∙ ap (λ j. taken (map f (range_with_len 0 j)) i) e)

-- the same at a size that a call gave
pub gap_at : (i count : ℕ) (buffer : List ℕ) (width size : ℕ) → size ≡ frame_length width → i < count → count ≤ places width buffer → (i * size + size ≤ count * size) × (count * size ≤ length buffer)
gap_at i count buffer width size e h whole = gap_fits size buffer i count h (rw e whole)
