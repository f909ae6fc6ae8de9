-- What holds of every step, whatever a party keeps and whatever message it is handed.
use Rattle.std.specs.Prelude.{◌≡◌, ℕ, ◌+◌, ◌*◌, ◌<◌, ◌≤◌, Bool, true, ◌&&◌, List, length, replicate, Some, None, Option}
use Rattle.std.specs.List.{AllByRecursion}
use Rattle.messages.specs.Messages.{Msg, last_view, most_parties, value_fits, in_range}
use Rattle.rules.specs.Party.{Setting, Keyed, Suggest, Proposal, nothing, waiting, echoed, dropped, Record, Party}
use Rattle.rules.specs.Step.{step, on_timer, enter}
use Rattle.rules.specs.Bounds.{every, party_fits}

-- how many messages a step may post
abbrev pub most_posts : ℕ → ℕ
most_posts n = 3 * n + 8

-- no step posts more than a hand or a timer asks room for, and none of the first steps more than its part of set-up
pub record PostsFew : Type 0 where
  pub by_message : (g : Setting) (me : ℕ) (p : Party) (m : Msg) → length (step g me p m).posts ≤ most_posts g.n
  pub by_timer : (g : Setting) (me : ℕ) (p : Party) → length (on_timer g me p).posts ≤ most_posts g.n
  pub by_entry : (g : Setting) (me : ℕ) (p : Party) (v : ℕ) → length (enter g me p v).posts ≤ 2 * g.n + 1

-- ## What a party keeps stays in range, and so does what it posts
module _ (valid : List ℕ → Bool) (width : ℕ) where
  -- bytes that some value has
  abbrev pub is_value : List ℕ → Bool
  is_value x = value_fits valid width true x

  abbrev pub offer_value : Option Keyed → Bool
  offer_value None = true
  offer_value (Some k) = is_value k.value

  abbrev pub proposal_value : Proposal → Bool
  proposal_value nothing = true
  proposal_value (waiting x) = is_value x
  proposal_value (echoed x) = is_value x
  proposal_value dropped = true

  abbrev pub stored_value : Option Suggest → Bool
  stored_value None = true
  stored_value (Some s) = is_value s.key3.value

  abbrev pub field_values : Record → Bool
  field_values r = is_value (r.field 6).value && (is_value (r.field 7).value && (is_value (r.field 8).value && is_value (r.field 9).value))

  -- what a record may yet post is a value
  abbrev pub record_values : Record → Bool
  record_values r =
      field_values r && (is_value r.suggest.key3.value && (is_value r.suggest.key2.value && (is_value r.proof.key1.value &&
      (offer_value r.offer && proposal_value r.proposal))))

  abbrev pub values_fit : ℕ → Party → Bool
  values_fit n p = record_values p.rec && every (λ j. stored_value (p.rows j).suggest) n

module _ (valid : List ℕ → Bool) (g : Setting) where
  -- a party of a ring of at most 64, where the blank is a value
  pub record Seated (me : ℕ) : Type 0 where
    pub blank : valid (replicate g.width 0) ≡ true
    pub size : g.n ≤ most_parties
    pub low : 1 ≤ me
    pub high : me ≤ g.n

  -- what a party keeps is in range
  pub record Fits (p : Party) : Type 0 where
    pub numbers : party_fits g.n p ≡ true
    pub values : values_fit valid g.width g.n p ≡ true

  -- a message in range, from a party of the ring
  pub record Proper (m : Msg) : Type 0 where
    pub range : in_range valid g.width m ≡ true
    pub low : 1 ≤ m.from
    pub high : m.from ≤ g.n

  -- a message in range that a party posts to one of the ring
  pub record OwnPost (me : ℕ) (m : Msg) : Type 0 where
    pub range : in_range valid g.width m ≡ true
    pub from : m.from ≡ me
    pub low : 1 ≤ m.to
    pub high : m.to ≤ g.n

-- whatever the kind of value, every step posts messages in range, in the party's own name, to parties of the ring
pub record PostsInRange : Type 0 where
  pub by_message : (valid : List ℕ → Bool) (g : Setting) (me : ℕ) (p : Party) (m : Msg) →
      Seated valid g me → Fits valid g p → Proper valid g m → AllByRecursion (OwnPost valid g me) (step g me p m).posts
  pub by_timer : (valid : List ℕ → Bool) (g : Setting) (me : ℕ) (p : Party) →
      Seated valid g me → Fits valid g p → p.rec.view < last_view → AllByRecursion (OwnPost valid g me) (on_timer g me p).posts
  pub by_entry : (valid : List ℕ → Bool) (g : Setting) (me : ℕ) (p : Party) (v : ℕ) →
      Seated valid g me → Fits valid g p → p.rec.view ≤ v → v ≤ last_view → AllByRecursion (OwnPost valid g me) (enter g me p v).posts

-- and it leaves all that the party keeps in range
pub record BoundsKept : Type 0 where
  pub by_message : (valid : List ℕ → Bool) (g : Setting) (me : ℕ) (p : Party) (m : Msg) →
      Seated valid g me → Fits valid g p → Proper valid g m → Fits valid g (step g me p m).after
  pub by_timer : (valid : List ℕ → Bool) (g : Setting) (me : ℕ) (p : Party) →
      Seated valid g me → Fits valid g p → p.rec.view < last_view → Fits valid g (on_timer g me p).after
  pub by_entry : (valid : List ℕ → Bool) (g : Setting) (me : ℕ) (p : Party) (v : ℕ) →
      Seated valid g me → Fits valid g p → p.rec.view ≤ v → v ≤ last_view → Fits valid g (enter g me p v).after
