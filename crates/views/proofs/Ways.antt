-- Entering and leaving a view: what is posted, and that the view is no later than the last one.
use Rattle.std.proofs.Common.{◌≡◌, ℕ, zero, suc, ◌+◌, ◌<◌, ◌≤◌, max, Bool, true, false, ◌&&◌, ltb, leb, List, [], ◌∷◌, sym, refl, ap, ◌∙◌, arith, lt-ltb, le-ltb, le-leb, leb-true}
use Rattle.std.specs.List.{AllByRecursion as All}
use Rattle.messages.specs.Messages.{Msg, in_range, last_view, is_party, between}
use Rattle.posting.specs.Posting.{Takes}
use Rattle.posting.proofs.Lists.{all_left, all_right}
use Rattle.posting.proofs.Choosing.{passed, failed, two_parts}
use Rattle.posting.proofs.Steps.{takes_same}
use Rattle.rules.specs.Counting.{upd}
use Rattle.rules.specs.Party.{Setting, Record, Row, Party, Step, still, cleared, with_row, with_abort}
use Rattle.rules.specs.Posts.{view_msg, to_each, to_all}
use Rattle.rules.specs.Step.{entered, enter, aborts, say_abort, join_abort, leave, on_abort}
use Rattle.rules.specs.Thresholds.{reached, vouched}
use Rattle.views.specs.Parts.{entry_posts, raised, given_up}

-- the posts of an entry are those of the party that has entered
pub enter_as : (g : Setting) (me : ℕ) (p : Party) (v : ℕ) (r : Record) (rows : ℕ → Row) → r ≡ entered g me p.rec v → rows ≡ (λ j. cleared (p.rows j)) →
    (let q : Party = record { rec = r; rows = rows } in enter g me p v ≡ record { after = q; posts = entry_posts g me q })
unfolding enter
enter_as g me p v r rows e f =
    let in_view : Party → Step = λ q. record { after = q; posts = entry_posts g me q } in
    ap in_view (sym (two_parts _ _ _ _ e f))

-- ## The bound of a view that is entered, by the range of the request
first_part : (a b : Bool) → (a && b) ≡ true → a ≡ true
first_part true b h = refl
first_part false b h = h

later_part : (a b : Bool) → (a && b) ≡ true → b ≡ true
later_part true b h = h
later_part false true h = refl
later_part false false h = h

last_one : (P : Msg → Type 0) (what : ℕ → Msg) (n : ℕ) → 1 ≤ n → All P (to_each (λ _. true) what n) → P (what n)
unfolding to_each
last_one P what zero h a = absurd (omega arith)
last_one P what (suc k) h a = (all_right P (to_each (λ _. true) what k) (what (suc k) ∷ []) a).0

pub view_bound : (g : Setting) (me : ℕ) (p : Party) {valid : List ℕ → Bool} {width capacity : ℕ} {old : List Msg} (v : ℕ) → 1 ≤ g.n →
    Takes valid width capacity old (enter g me p v).posts → v ≤ last_view
unfolding enter
view_bound g me p {valid} {width} {capacity} {old} v h t =
    let P : Msg → Type 0 = λ m. in_range valid width m ≡ true in
    let r : in_range valid width (view_msg g me 1 v g.n) ≡ true = last_one P (view_msg g me 1 v) g.n h (all_left P (to_all g me (view_msg g me 1 v)) _ t.ranged) in
    leb-true v last_view (later_part (leb 1 v) (leb v last_view) (first_part (between 1 last_view v) _ (later_part (is_party g.n) _ (later_part (is_party me) _ r))))

-- a party that leaves its view for the next after the one that a quorum has reached
pub leave_bound : (g : Setting) (me : ℕ) (p : Party) {valid : List ℕ → Bool} {width capacity : ℕ} {old : List Msg} (view : ℕ) → 1 ≤ g.n → view ≡ reached g (aborts g me p) → p.rec.view ≤ view →
    Takes valid width capacity old (leave g me p).posts → view + 1 ≤ last_view
unfolding leave
leave_bound g me p {valid} {width} {capacity} {old} view h e l t =
    let u = reached g (aborts g me p) in
    let way = passed (leb p.rec.view u) (enter g me p (suc u)) (still p) (sym (le-leb p.rec.view u (omega arith))) in
    let bound = view_bound g me p {valid = valid} {width = width} {capacity = capacity} {old = old} (suc u) h (takes_same _ _ way t) in
    omega arith

-- ## Giving up
module _ (g : Setting) (me : ℕ) (p : Party) (v : ℕ) where
  pub told_all : (row : Row) → row ≡ p.rows me → row.abort < v → raised g me v p ≡ say_abort g me p v
  unfolding raised
  told_all row e h = passed _ (say_abort g me p v) (still p) (sym (lt-ltb row.abort v h) ∙ ap (λ r. ltb r.abort v) e)

  pub told_none : (row : Row) → row ≡ p.rows me → v ≤ row.abort → raised g me v p ≡ still p
  unfolding raised
  told_none row e h = failed _ (say_abort g me p v) (still p) (sym (le-ltb row.abort v h) ∙ ap (λ r. ltb r.abort v) e)

-- an abort raises its sender's entry, and the party gives up what a voucher has then reached
pub abort_noted : (g : Setting) (me : ℕ) (p : Party) (m : Msg) (rows : ℕ → Row) (row : Row) (view u : ℕ) → row ≡ p.rows m.from → view ≡ max row.abort m.view →
    rows ≡ upd p.rows m.from (with_abort (p.rows m.from) view) → u ≡ vouched g (λ j. (rows j).abort) →
    on_abort g me p m ≡ given_up g me u (record { rec = p.rec; rows = rows })
unfolding on_abort join_abort raised
abort_noted g me p m rows row view u e f h k =
    let q : Party = record { rec = p.rec; rows = rows } in
    let noted : Party → Step = λ t. given_up g me (vouched g (aborts g me t)) t in
    let f' : view ≡ max (p.rows m.from).abort m.view = f ∙ ap (λ r. max r.abort m.view) e in
    let same : q ≡ with_row p m.from (with_abort (p.rows m.from) (max (p.rows m.from).abort m.view)) =
    ap (λ t. record { rec = p.rec; rows = t }) h ∙ ap (λ x. with_row p m.from (with_abort (p.rows m.from) x)) f' in
    ap noted (sym same) ∙ ap (λ x. given_up g me x q) (sym k)
