-- Votes and fields by the numbers of their messages.
use Rattle.std.specs.Prelude.{ℕ}
use Rattle.rows.specs.declared.vote.Vote as votes
use Rattle.rows.specs.declared.vote.Vote.TheVariants as vote
use Rattle.rows.specs.declared.vote.Field as fields
use Rattle.rows.specs.declared.vote.Field.TheVariants as field

-- the number of the message that carries a vote
abbrev pub vote_number : votes.Vote → ℕ
vote_number vote.Echo = 5
vote_number vote.Key1 = 6
vote_number vote.Key2 = 7
vote_number vote.Key3 = 8
vote_number vote.Lock = 9

-- the number of the message that tells of a field
abbrev pub field_number : fields.Field → ℕ
field_number field.Key1 = 6
field_number field.Key2 = 7
field_number field.Key3 = 8
field_number field.Lock = 9
