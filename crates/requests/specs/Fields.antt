-- The messages of the four fields.
use Rattle.std.specs.Prelude.{ℕ, List, ◌++◌}
use Rattle.messages.specs.Messages.{Msg}
use Rattle.rules.specs.Party.{Setting, Record}
use Rattle.rules.specs.Posts.{made_vote}

-- key1, key2, key3 and lock, those that were made in the view
abbrev pub made_votes : Setting → ℕ → Record → ℕ → List Msg
made_votes g me r to = made_vote g me 6 r to ++ (made_vote g me 7 r to ++ (made_vote g me 8 r to ++ made_vote g me 9 r to))
