-- Posts that a wire takes, and what they leave.
use Rattle.std.specs.Prelude.{◌≡◌, ℕ, ◌+◌, ◌^◌, ◌<◌, ◌≤◌, Bool, true, List, ◌++◌, length, ◌==◌}
use Rattle.std.specs.List.{AllByRecursion}
use Rattle.messages.specs.Messages.{Msg, in_range}
use Rattle.rules.specs.Party.{Row, Party, Step}
use Rattle.posting.specs.declared.audience.Audience.{Audience}
use Rattle.posting.specs.declared.audience.Audience.TheVariants.{All as Everyone, Joined}

-- a wire with this capacity and list takes these posts: each is in range, there is room for all, and a number counts them
pub record Takes (valid : List ℕ → Bool) (width capacity : ℕ) (waiting posts : List Msg) : Type 0 where
  pub ranged : AllByRecursion (λ m. in_range valid width m ≡ true) posts
  pub room : length waiting + length posts ≤ capacity
  pub few : length posts < 2 ^ 64

-- the posts stand at the end of the list, the answer is their number, and the capacity is as it was
pub record Posted (before after : List Msg) (capacity capacity' number : ℕ) (posts : List Msg) : Type 0 where
  pub list : after ≡ before ++ posts
  pub answer : number ≡ length posts
  pub kept : capacity' ≡ capacity

-- a message with another receiver
abbrev pub addressed : Msg → ℕ → Msg
addressed m to =
    record {
      kind = m.kind;
      from = m.from;
      to = to;
      view = m.view;
      key = m.key;
      value = m.value;
      second_key = m.second_key;
      second_value = m.second_value;
      previous = m.previous;
    }

-- whether a party with this row is among those that a message goes to
abbrev pub goes : Audience → Row → Bool
goes Everyone r = true
goes (Joined view) r = r.request == view

-- what a step leaves, of the party and of the wire
pub record Does (s : Step) (p : Party) (before after : List Msg) (capacity capacity' number : ℕ) : Type 0 where
  pub party : p ≡ s.after
  pub posts : Posted before after capacity capacity' number s.posts
