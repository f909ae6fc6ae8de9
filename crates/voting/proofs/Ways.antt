-- Which way the rules of votes and of done go.
use Rattle.std.proofs.Common.{◌≡◌, ℕ, suc, ◌+◌, ◌-◌, Bool, true, false, cond, ◌&&◌, List, [], sym, refl, ap, ◌∙◌, arith}
use Rattle.messages.specs.Messages.{Msg}
use Rattle.rules.specs.Counting.{upd}
use Rattle.rules.specs.Party.{Setting, Row, Party, Step, still, and_then, none, with_rec, with_decision, with_vote, with_told}
use Rattle.rules.specs.Tests.{voted, done_agreed}
use Rattle.rules.specs.Step.{told_vote, announce_due, announce, on_vote, say_done, on_lock, join_done, decide, on_done}
use Rattle.posting.proofs.Choosing.{passed, failed}

either_quiet : (b : Bool) (p q : Party) → (cond b (still p) (still q)).posts ≡ []
either_quiet true p q = refl
either_quiet false p q = refl

module _ (g : Setting) (me : ℕ) (p : Party) (m : Msg) (rows : ℕ → Row) where
  -- the party once its rows have taken in the message
  abbrev noted : (ℕ → Row) → Party
  noted r = record { rec = p.rec; rows = r }

  abbrev voted_rows : ℕ → ℕ → Row
  voted_rows kind = upd p.rows m.from (with_vote (p.rows m.from) kind m.value)

  voted_party : (kind : ℕ) → kind ≡ m.kind → rows ≡ voted_rows kind → noted rows ≡ told_vote g me p m
  voted_party kind k e = ap noted (e ∙ ap voted_rows k)

  -- ## A vote, whose kind comes before that of the field
  abbrev after_vote : Party → Step
  after_vote q = cond (announce_due g me q m.kind m.value) (announce g me q (suc m.kind) m.value) (still q)

  vote_stored : (kind field : ℕ) → m.kind + 1 ≡ field → kind + 1 ≡ field → rows ≡ voted_rows kind → on_vote g me p m ≡ after_vote (noted rows)
  unfolding on_vote
  vote_stored kind field f k e = ap after_vote (sym (voted_party kind (omega (arith, f, k)) e))

  same_test : (field : ℕ) (b : Bool) → m.kind + 1 ≡ field → b ≡ announce_due g me (noted rows) (field - 1) m.value → b ≡ announce_due g me (noted rows) m.kind m.value
  same_test field b f h =
      let k : field - 1 ≡ m.kind = omega (arith, f) in
      h ∙ ap (λ j. announce_due g me (noted rows) j m.value) k

  pub vote_announced : (kind field : ℕ) → m.kind + 1 ≡ field → kind + 1 ≡ field → rows ≡ voted_rows kind → true ≡ announce_due g me (noted rows) (field - 1) m.value →
      on_vote g me p m ≡ announce g me (noted rows) field m.value
  vote_announced kind field f k e h =
      let next : suc m.kind ≡ field = omega (arith, f) in
      vote_stored kind field f k e ∙ (passed _ (announce g me (noted rows) (suc m.kind) m.value) (still (noted rows)) (same_test field true f h) ∙
      ap (λ j. announce g me (noted rows) j m.value) next)

  pub vote_still : (kind field : ℕ) → m.kind + 1 ≡ field → kind + 1 ≡ field → rows ≡ voted_rows kind → false ≡ announce_due g me (noted rows) (field - 1) m.value →
      on_vote g me p m ≡ still (noted rows)
  vote_still kind field f k e h =
      vote_stored kind field f k e ∙ failed _ (announce g me (noted rows) (suc m.kind) m.value) (still (noted rows)) (same_test field false f h)

  -- ## A lock
  abbrev after_lock : Party → Step
  after_lock q = cond (none q.rec.done && voted g q 9 m.value) (say_done g me q m.value) (still q)

  lock_stored : m.kind ≡ 9 → rows ≡ voted_rows 9 → on_lock g me p m ≡ after_lock (noted rows)
  unfolding on_lock
  lock_stored k e = ap after_lock (sym (voted_party 9 (sym k) e))

  pub lock_told : m.kind ≡ 9 → rows ≡ voted_rows 9 → true ≡ (none p.rec.done && voted g (noted rows) 9 m.value) → on_lock g me p m ≡ say_done g me (noted rows) m.value
  lock_told k e h = lock_stored k e ∙ passed _ (say_done g me (noted rows) m.value) (still (noted rows)) h

  pub lock_still : m.kind ≡ 9 → rows ≡ voted_rows 9 → false ≡ (none p.rec.done && voted g (noted rows) 9 m.value) → on_lock g me p m ≡ still (noted rows)
  lock_still k e h = lock_stored k e ∙ failed _ (say_done g me (noted rows) m.value) (still (noted rows)) h

  -- ## A done
  pub done_both : rows ≡ upd p.rows m.from (with_told (p.rows m.from) m.value) → on_done g me p m ≡ and_then (join_done g me (noted rows) m.value) (decide g me m.value)
  unfolding on_done
  done_both e = ap (λ r. and_then (join_done g me (noted r) m.value) (decide g me m.value)) (sym e)

-- deciding posts nothing
pub decide_quiet : (g : Setting) (me : ℕ) (x : List ℕ) (p : Party) → (decide g me x p).posts ≡ []
decide_quiet g me x p = either_quiet (done_agreed g p x) (with_rec p (with_decision p.rec x)) p
