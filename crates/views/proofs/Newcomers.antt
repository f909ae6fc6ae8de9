-- A party at set-up: its bounds and its posts.
use Rattle.std.proofs.Common.{◌≡◌, ℕ, zero, suc, ◌+◌, ◌≤◌, Bool, true, false, List, [], ◌∷◌, ◌++◌, length, replicate, sym, refl, ap, ◌∙◌, subst, arith}
use Rattle.std.specs.List.{AllByRecursion as All}
use Rattle.std.proofs.lemmas.List.{length-append, append-nil}
use Rattle.std.proofs.ByRecursion.{All-weaker}
use Rattle.messages.specs.Messages.{Msg, in_range}
use Rattle.rules.specs.Party.{Setting, Party}
use Rattle.rules.specs.Bounds.{every, row_fits, party_fits}
use Rattle.rules.specs.Facts.{OwnPost, Seated, Fits}
use Rattle.rules.specs.Posts.{to_each, view_msg}
use Rattle.rules.specs.Step.{empty_row, newcomer, enter}
use Rattle.rules.proofs.Ranges.{posts-in_range, bounds_kept}
use Rattle.rows.specs.declared.record.Record.{Record}
use Rattle.rows.specs.declared.row.Row.{Row}
use Rattle.rows.specs.declared.seat.Seat.{Seat}
use Rattle.rows.specs.Meaning.{setting_of, record_of, rows_of, party_of}
use Rattle.posting.specs.Posting.{Takes, Does}
use Rattle.posting.proofs.Choosing.{two_parts}
use Rattle.posting.proofs.Steps.{does_same}
use Rattle.posting.proofs.Within.{all_values}

-- its bounds
every_empty : (n : ℕ) → every (λ j. row_fits empty_row) n ≡ true
every_empty zero = refl
every_empty (suc n) = every_empty n

pub newcomer_fits : (x : List ℕ) (n : ℕ) → party_fits n (newcomer x) ≡ true
newcomer_fits x n = every_empty n

-- its posts: a request to each party
none_go : (what : ℕ → Msg) (n : ℕ) → to_each (λ _. false) what n ≡ []
unfolding to_each
none_go what zero = refl
none_go what (suc k) = append-nil (to_each (λ _. false) what k) ∙ none_go what k

all_go : (what : ℕ → Msg) (n : ℕ) → length (to_each (λ _. true) what n) ≡ n
unfolding to_each
all_go what zero = refl
all_go what (suc k) =
    let e = length-append (to_each (λ _. true) what k) (what (suc k) ∷ []) in
    e ∙ (ap (λ j. j + 1) (all_go what k) ∙ omega arith)

pub first_posts : (g : Setting) (me : ℕ) (x : List ℕ) → length (enter g me (newcomer x) 1).posts ≡ g.n
unfolding enter
first_posts g me x =
    let what = view_msg g me 1 1 in
    ap (λ l. length (to_each (λ _. true) what g.n ++ l)) (none_go _ g.n) ∙
    (ap length (append-nil (to_each (λ _. true) what g.n)) ∙ all_go what g.n)

pub takes_first_posts : (valid : List ℕ → Bool) (g : Setting) (me capacity : ℕ) (old posts : List Msg) → g.n ≤ 64 → All (OwnPost valid g me) posts → length posts ≡ g.n →
    length old + g.n ≤ capacity → Takes valid g.width capacity old posts
takes_first_posts valid g me capacity old posts h a f r =
    record {
      ranged = All-weaker (OwnPost valid g me) (λ m. in_range valid g.width m ≡ true) (λ m o. o.range) posts a;
      room = omega (arith, f, r);
      few = omega (arith, f, h);
    }

-- ## A code's record and rows that are those of a newcomer: the party may enter view 1
module _ {V : Type 0} (bytes : V → List ℕ) (allows valid : List ℕ → Bool) (width : ℕ) (sized : (v : V) → length (bytes v) ≡ width) (sound : (v : V) → valid (bytes v) ≡ true) (blank : valid (replicate width 0) ≡ true) (seat : Seat) (x : List ℕ) (own : Record V) (rs : List (Row V)) (e : record_of bytes own ≡ (newcomer x).rec) (f : rows_of bytes rs ≡ (λ _. empty_row)) where
  abbrev g : Setting
  g = setting_of width allows seat

  abbrev p : Party
  p = party_of bytes own rs

  new : p ≡ newcomer x
  new = two_parts _ _ _ _ e f

  seated : Seated valid g seat.me
  seated = record { blank = blank; size = seat.most; low = seat.first; high = seat.last }

  fits : Fits valid g p
  fits = record { numbers = ap (party_fits seat.n) new ∙ newcomer_fits x seat.n; values = all_values bytes valid width sized sound own rs seat.n }

  low : p.rec.view ≤ 1
  low = subst (λ (q : Party). q.rec.view ≤ 1) (sym new) (omega arith)

  pub takes_entry : (capacity : ℕ) (old : List Msg) → length old + seat.n ≤ capacity → Takes valid width capacity old (enter g seat.me p 1).posts
  takes_entry capacity old r =
      takes_first_posts valid g seat.me capacity old (enter g seat.me p 1).posts seat.most (posts-in_range.by_entry valid g seat.me p 1 seated fits low (omega arith))
      (ap (λ q. length (enter g seat.me q 1).posts) new ∙ first_posts g seat.me x) r

  pub entry_does : {q : Party} {k k' r : ℕ} {old after : List Msg} → Does (enter g seat.me p 1) q old after k k' r → Does (enter g seat.me (newcomer x) 1) q old after k k' r
  entry_does {q} d = does_same _ _ q (ap (λ t. enter g seat.me t 1) new) d

  pub entry_fits : {q : Party} {k k' r : ℕ} {old after : List Msg} → Does (enter g seat.me p 1) q old after k k' r → party_fits seat.n q ≡ true
  entry_fits d = ap (party_fits seat.n) d.party ∙ (bounds_kept.by_entry valid g seat.me p 1 seated fits low (omega arith)).numbers
