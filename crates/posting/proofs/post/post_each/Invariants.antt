use Rattle.std.proofs.Common.{◌≤◌}
use Rattle.messages.specs.Meaning.{message}
use Rattle.rules.specs.Posts.{to_each}
use Rattle.rows.specs.Meaning.{rows_of}
use Rattle.posting.specs.Posting.{Posted, addressed, goes}
use Rattle.posting.proofs.post.post_each.Given as goal

abbrev pub invariant-loop-i : goal.invariant-loop-i
invariant-loop-i g l =
    let b = g.V.Value.bytes in
    let w = g.W.Wire in
    (l.posts ≤ l.i) × Posted (w.waiting l.initial.w) (w.waiting l.w) (w.capacity l.initial.w) (w.capacity l.w) l.posts
    (to_each (λ j. goes l.whom (rows_of b l.rows j)) (addressed (message b l.m)) l.i)
