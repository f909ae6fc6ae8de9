use Rattle.std.proofs.Common.{◌≡◌, ℕ, ◌+◌, ◌<◌, Bool, true, length, sym, ap, ◌∙◌, subst, arith}
use Rattle.messages.specs.Messages.{Msg}
use Rattle.messages.specs.Meaning.{message}
use Rattle.rules.specs.Posts.{to_each}
use Rattle.rows.specs.Meaning.{rows_of}
use Rattle.rows.proofs.Senders.{row_read}
use Rattle.posting.specs.Posting.{Posted, addressed, goes}
use Rattle.posting.proofs.Lists.{takes_next, posted_more, posted_same, posted_start}
use Rattle.posting.proofs.post.post_each.Goals as goal
use Rattle.posting.proofs.post.post_each.Goals.{then-goes_to, else-goes_to}

pub loop-i-init : goal.loop-i-init
loop-i-init g c = (omega arith, posted_start _ _ _ _)

pub post_one-posts-requires : goal.post_one-posts-requires
post_one-posts-requires g c =
    let b = g.V.Value.bytes in
    let rs = c.args.rows.now in
    let i = c.loop-i.i in
    let h : i < length rs = c.loop-i-test.true in
    let h' : i < c.args.seat.n = omega (arith, h, c.requires.whole) in
    let who : ℕ → Bool = λ j. goes c.args.whom (rows_of b rs j) in
    let what : ℕ → Msg = addressed (message b c.args.m.now) in
    let goes_here : who (i + 1) ≡ true = ap (goes c.args.whom) (row_read b rs i _ h c.index-rows-i.is) ∙ sym c.if-goes_to.ensures in
    takes_next who what _ _ _ _ _ _ i _ c.requires.taken h' goes_here c.loop-i.invariant.1.list c.loop-i.invariant.1.kept

pub loop-i-preserved : goal.loop-i-preserved
loop-i-preserved g c =
    let b = g.V.Value.bytes in
    let x = g.W.Wire in
    let rs = c.args.rows.now in
    let i = c.loop-i.i in
    let who : ℕ → Bool = λ j. goes c.args.whom (rows_of b rs j) in
    let what : ℕ → Msg = addressed (message b c.args.m.now) in
    let read = ap (goes c.args.whom) (row_read b rs i _ c.loop-i-test.true c.index-rows-i.is) in
    let after : g.row.W.Denot → Type 0 = λ y. Posted (x.waiting c.args.w.now) (x.waiting y) (x.capacity c.args.w.now) (x.capacity y) c.if-goes_to.posts (to_each who what (i + 1)) in
    elim c.if-goes_to.branch [
      | then-goes_to w ↦ (omega (arith, w.posts-is, c.loop-i.invariant.0, w.post_one-posts.ensures.answer), subst after (sym w.w-is) (posted_more who what _ _ _ _ _ _ _ _ _ i c.loop-i.invariant.1 w.post_one-posts.ensures (read ∙ sym w.if-goes_to.ensures) w.posts-is))
      | else-goes_to w ↦ (omega (arith, w.posts-is, c.loop-i.invariant.0), subst after (sym w.w-is) (posted_same who what _ _ _ _ _ _ i c.loop-i.invariant.1 (read ∙ sym w.if-goes_to.ensures) w.posts-is))
    ]

pub returns : goal.returns
returns g c =
    let b = g.V.Value.bytes in
    let x = g.W.Wire in
    let who : ℕ → Bool = λ j. goes c.args.whom (rows_of b c.args.rows.now j) in
    let what : ℕ → Msg = addressed (message b c.args.m.now) in
    let e : c.loop-i.i ≡ c.args.seat.n = omega (arith, c.requires.whole) in
    subst (λ k. Posted (x.waiting c.args.w.now) (x.waiting c.loop-i.w) (x.capacity c.args.w.now) (x.capacity c.loop-i.w) c.loop-i.posts (to_each who what k)) e c.loop-i.invariant.1
