-- Parts of the steps of entering and leaving a view.
use Rattle.std.specs.Prelude.{ℕ, cond, List, [], ◌∷◌, ◌++◌, ◌==◌, nat_lt}
use Rattle.messages.specs.Messages.{Msg}
use Rattle.rules.specs.Party.{Setting, Party, Step, still, and_then}
use Rattle.rules.specs.Posts.{view_msg, suggest_msg, proof_msg, to_all, to_joined}
use Rattle.rules.specs.Thresholds.{primary}
use Rattle.rules.specs.Step.{aborts, say_abort, leave}

-- the suggest goes to the primary of the view, if it has asked for the view
abbrev pub suggest_asked : Setting → ℕ → Party → List Msg
suggest_asked g me p =
    let k = primary g p.rec.view in
    cond ((p.rows k).request == p.rec.view) (suggest_msg g me p.rec.view p.rec.suggest k ∷ []) []

-- what a party posts that has entered its view: its request to all, its suggest and its proof
abbrev pub entry_posts : Setting → ℕ → Party → List Msg
entry_posts g me p =
    to_all g me (view_msg g me 1 p.rec.view) ++ (suggest_asked g me p ++ to_joined g me p (proof_msg g me p.rec.view p.rec.proof))

-- the own entry is raised to v and all are told, if it is below v
unfoldable pub raised : Setting → ℕ → ℕ → Party → Step
raised g me v p = cond (nat_lt (aborts g me p me) v) (say_abort g me p v) (still p)

-- and then the view is left, if a quorum has given it up
abbrev pub given_up : Setting → ℕ → ℕ → Party → Step
given_up g me v p = and_then (raised g me v p) (leave g me)
