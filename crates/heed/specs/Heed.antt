-- What is ignored, by plain facts: the parts of the rule that a party looks up before it decides.
use Rattle.std.specs.Prelude.{ℕ, Bool, true, cond, ◌&&◌, ◌==◌}
use Rattle.messages.specs.Messages.{between}
use Rattle.rules.specs.Party.{Setting, Proposal, Row, none}
use Rattle.rules.specs.Tests.{is_nothing}

-- the first of its kind from a sender with this row
abbrev pub first_by : Setting → Proposal → Row → ℕ → Bool
first_by g state row kind =
    cond (kind == 2) (none row.suggest)
    (cond (kind == 3) (none row.proof)
    (cond (kind == 4) (is_nothing g state) (cond (kind == 10) (none row.done) (none (row.vote kind)))))

-- a suggest at the primary, or a propose from it
abbrev pub led_by : ℕ → ℕ → ℕ → ℕ → Bool
led_by me primary from kind = cond (kind == 2) (me == primary) (cond (kind == 4) (from == primary) true)

-- whether a message of this kind is taken in: by an open party, with a request above the last, in the party's view
abbrev pub taken_in : ℕ → Bool → Bool → Bool → Bool → Bool → Bool
taken_in kind vacant asked here led first =
    vacant && (cond (kind == 1) asked (cond (between 2 9 kind) (here && (led && first)) (cond (kind == 10) first (kind == 11))))
