-- What the calls on frames rest on.
use Rattle.std.proofs.Common.{◌≡◌, ℕ, ◌+◌, ◌-◌, ◌≤◌, Bool, true, false, cond, List, ◌++◌, length, get_or, take, drop, is_ok, Some, None, Ok, Option, sym, refl, ap, ◌∙◌, inl, inr, arith}
use Rattle.std.proofs.lemmas.Bool.{cond-true, cond-false, and_from, eq-eqb, cases_Bool, both_ways, le-ltb}
use Rattle.std.proofs.lemmas.List.{append_assoc, take_rest}
use Rattle.octets.specs.Bytes.{over}
use Rattle.octets.proofs.Writes.{two_writes, part-over}
use Rattle.messages.specs.Messages.{Msg, in_range}
use Rattle.messages.proofs.Ranges.{in_range-fields, value-valid}
use Rattle.frames.specs.Frames.{unword, frame, frame_length, word_at, fields, is_frame, unframe}
use Rattle.frames.specs.Answers.{written, buffer_after}
use Rattle.frames.proofs.Back.{framed, reads_back, frame_length_stands}

-- the fields as code reads them, one by one
pub fields_are : (width : ℕ) (bs : List ℕ) (view key second word : ℕ) (previous : Option ℕ) (x y : List ℕ) → view ≡ word_at 4 bs → key ≡ word_at 8 bs → second ≡ word_at 12 bs → word ≡ word_at 16 bs → previous ≡ unword word → x ≡ take width (drop 20 bs) → y ≡ drop (20 + width) bs → fields width bs ≡ record { kind = get_or bs 0 0; from = get_or bs 1 0; to = get_or bs 2 0; view = view; key = key; value = x; second_key = second; second_value = y; previous = previous }
fields_are width bs view key second word previous x y a b c d e f g = cc

module _ (valid : List ℕ → Bool) (width : ℕ) where
  -- bytes that fail one test of a frame are none
  not_framed : (bs : List ℕ) → (is_frame valid width bs ≡ true → ⊥) → unframe valid width bs ≡ None
  unfolding unframe
  not_framed bs n = elim (cases_Bool (is_frame valid width bs)) [ inl t ↦ absurd (n t) | inr e ↦ cond-false (is_frame valid width bs) (Some (fields width bs)) None e ]

  pub no_length : (bs : List ℕ) → (length bs ≡ frame_length width → ⊥) → unframe valid width bs ≡ None
  no_length bs n = not_framed bs (λ t. n (framed valid width bs t).0)

  pub no_zero : (bs : List ℕ) → (get_or bs 3 0 ≡ 0 → ⊥) → unframe valid width bs ≡ None
  no_zero bs n = not_framed bs (λ t. n (framed valid width bs t).1)

  pub no_value : (bs : List ℕ) → valid (take width (drop 20 bs)) ≡ false → unframe valid width bs ≡ None
  no_value bs h = not_framed bs (λ t. both_ways _ h (value-valid valid width _ (take width (drop 20 bs)) (in_range-fields valid width (fields width bs) (framed valid width bs t).2).value_in))

  pub no_second : (bs : List ℕ) → valid (drop (20 + width) bs) ≡ false → unframe valid width bs ≡ None
  no_second bs h = not_framed bs (λ t. both_ways _ h (value-valid valid width _ (drop (20 + width) bs) (in_range-fields valid width (fields width bs) (framed valid width bs t).2).second_value_in))

  pub no_range : (bs : List ℕ) (m : Msg) → fields width bs ≡ m → in_range valid width m ≡ false → unframe valid width bs ≡ None
  no_range bs m e h = not_framed bs (λ t. both_ways _ (ap (in_range valid width) e ∙ h) (framed valid width bs t).2)

  pub is-message : (bs : List ℕ) (m : Msg) → length bs ≡ frame_length width → get_or bs 3 0 ≡ 0 → fields width bs ≡ m → in_range valid width m ≡ true → unframe valid width bs ≡ Some m
  unfolding unframe
  is-message bs m l z e h = cond-true (is_frame valid width bs) (Some (fields width bs)) None (and_from _ _ (eq-eqb _ _ l) (and_from _ _ (eq-eqb _ _ z) (ap (in_range valid width) e ∙ h))) ∙ ap Some e

  -- the front of a buffer that a frame was written to reads as its message
  pub front_back : (out : List ℕ) (m : Msg) → in_range valid width m ≡ true → unframe valid width (take (frame_length width) (over out 0 (frame m))) ≡ Some m
  front_back out m h = ap (unframe valid width) (part-over out 0 (frame m) (frame_length width) (frame_length_stands valid width m h) (omega arith)) ∙ reads_back valid width m h

  -- the answer and the buffer where nothing is refused
  pub is-written : (m : Msg) (out : List ℕ) (n : ℕ) → n ≡ frame_length width → frame_length width ≤ length out → in_range valid width m ≡ true → Ok n ≡ written valid width m out
  is-written m out n e l h = ap Ok e ∙ sym (cond-false _ _ _ (le-ltb _ _ l) ∙ cond-true _ _ _ h)

  pub is-after : (m : Msg) (out : List ℕ) → frame_length width ≤ length out → in_range valid width m ≡ true → over out 0 (frame m) ≡ buffer_after valid width m out
  is-after m out l h = ap (λ r. cond (is_ok r) (over out 0 (frame m)) out) (is-written m out (frame_length width) refl l h)

-- the two values as code has their parts, the width being a number that a call answered
pub first_part : (bs : List ℕ) (width w : ℕ) → w ≡ width → take width (drop 20 bs) ≡ take ((20 + w) - 20) (drop 20 bs)
first_part bs width w e = ap (λ k. take k (drop 20 bs)) (omega arith)

pub second_part : (bs : List ℕ) (width w : ℕ) → w ≡ width → drop (20 + width) bs ≡ take (length bs - (20 + w)) (drop (20 + w) bs)
second_part bs width w e = ap (λ k. drop (20 + k) bs) (sym e) ∙ sym (take_rest bs (20 + w))

-- the three writes of a frame
pub three_writes : (xs one two three h v s : List ℕ) (at i j : ℕ) → length h ≡ i → length (h ++ v) ≡ j → at + j ≤ length xs → i ≤ j → one ≡ over xs at h → two ≡ over one (at + i) v → three ≡ over two (at + j) s → three ≡ over xs at (h ++ (v ++ s))
three_writes xs one two three h v s at i j e f b l p q r =
    let front : two ≡ over xs at (h ++ v) = two_writes xs one two h v (h ++ v) at i e (omega arith) p q refl in
    two_writes xs two three (h ++ v) s (h ++ (v ++ s)) at j f b front r (append_assoc h v s)
