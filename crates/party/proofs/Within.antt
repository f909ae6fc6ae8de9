-- A party whose numbers are in range: a wire with room takes every post of its step, and its numbers stay in range.
use Rattle.std.proofs.Common.{◌≡◌, ℕ, ◌+◌, ◌<◌, ◌≤◌, Bool, true, List, length, replicate, ap, ◌∙◌}
use Rattle.messages.specs.Messages.{Msg, last_view}
use Rattle.rules.specs.Bounds.{party_fits}
use Rattle.rules.specs.Facts.{Seated, Fits, Proper, most_posts}
use Rattle.rules.specs.Party as model
use Rattle.rules.specs.Step.{step, on_timer}
use Rattle.rules.proofs.Few.{posts-few}
use Rattle.rules.proofs.Ranges.{posts-in_range, bounds_kept}
use Rattle.rows.specs.declared.party.Party.{Party}
use Rattle.rows.specs.Meaning.{setting_of}
use Rattle.rows.specs.Parties.{party_in}
use Rattle.posting.specs.Posting.{Takes, Does}
use Rattle.posting.proofs.Within.{all_values, takes_own}

module _ {V : Type 0} (bytes : V → List ℕ) (allows valid : List ℕ → Bool) (width : ℕ) (sized : (v : V) → length (bytes v) ≡ width) (sound : (v : V) → valid (bytes v) ≡ true) (blank : valid (replicate width 0) ≡ true) (party : Party V) (numbers : party_fits party.seat.n (party_in bytes party) ≡ true) where
  abbrev g : model.Setting
  g = setting_of width allows party.seat

  abbrev me : ℕ
  me = party.seat.me

  abbrev p : model.Party
  p = party_in bytes party

  seated : Seated valid g me
  seated = record { blank = blank; size = party.seat.most; low = party.seat.first; high = party.seat.last }

  fits : Fits valid g p
  fits = record { numbers = numbers; values = all_values bytes valid width sized sound party.own.now party.rows.now party.seat.n }

  pub takes_step : (m : Msg) → Proper valid g m → (capacity : ℕ) (old : List Msg) → length old + most_posts party.seat.n ≤ capacity → Takes valid width capacity old (step g me p m).posts
  takes_step m h capacity old r = takes_own valid g me capacity old _ party.seat.most (posts-in_range.by_message valid g me p m seated fits h) (posts-few.by_message g me p m) r

  pub step_fits : (m : Msg) → Proper valid g m → {q : model.Party} {k k' r : ℕ} {old after : List Msg} → Does (step g me p m) q old after k k' r → party_fits party.seat.n q ≡ true
  step_fits m h d = ap (party_fits party.seat.n) d.party ∙ (bounds_kept.by_message valid g me p m seated fits h).numbers

  pub takes_timer : party.own.now.view < last_view → (capacity : ℕ) (old : List Msg) → length old + most_posts party.seat.n ≤ capacity → Takes valid width capacity old (on_timer g me p).posts
  takes_timer h capacity old r = takes_own valid g me capacity old _ party.seat.most (posts-in_range.by_timer valid g me p seated fits h) (posts-few.by_timer g me p) r

  pub timer_fits : party.own.now.view < last_view → {q : model.Party} {k k' r : ℕ} {old after : List Msg} → Does (on_timer g me p) q old after k k' r → party_fits party.seat.n q ≡ true
  timer_fits h d = ap (party_fits party.seat.n) d.party ∙ (bounds_kept.by_timer valid g me p seated fits h).numbers
