-- Which way the rule of a suggest goes.
use Rattle.std.proofs.Common.{◌≡◌, ℕ, true, false, cond, Option, sym, ap, ◌∙◌}
use Rattle.messages.specs.Messages.{Msg}
use Rattle.rules.specs.Counting.{upd}
use Rattle.rules.specs.Party.{Setting, Suggest, Row, Party, Step, still, with_suggest}
use Rattle.rules.specs.Tests.{best}
use Rattle.rules.specs.Step.{propose_due, propose, on_suggest}
use Rattle.posting.proofs.Choosing.{passed, failed}

module _ (g : Setting) (me : ℕ) (p : Party) (m : Msg) (rows : ℕ → Row) where
  -- the party once its rows have taken in the suggest
  abbrev noted : (ℕ → Row) → Party
  noted r = record { rec = p.rec; rows = r }

  abbrev suggested : Suggest
  suggested =
      record {
        key3 = record { at = m.key; value = m.value };
        key2 = record { at = m.second_key; value = m.second_value };
        previous = m.previous;
      }

  abbrev told_rows : ℕ → Row
  told_rows = upd p.rows m.from (with_suggest (p.rows m.from) suggested)

  abbrev after_suggest : Party → Step
  after_suggest q = cond (propose_due g me q) (propose g me q (best g q g.n)) (still q)

  stored : rows ≡ told_rows → on_suggest g me p m ≡ after_suggest (noted rows)
  unfolding on_suggest
  stored e = ap (λ r. after_suggest (noted r)) (sym e)

  pub suggest_proposed : (b : Option Suggest) → rows ≡ told_rows → true ≡ propose_due g me (noted rows) → b ≡ best g (noted rows) g.n → on_suggest g me p m ≡ propose g me (noted rows) b
  suggest_proposed b e h f =
      let q = noted rows in
      stored e ∙ (passed (propose_due g me q) (propose g me q (best g q g.n)) (still q) h ∙ ap (propose g me q) (sym f))

  pub suggest_still : rows ≡ told_rows → false ≡ propose_due g me (noted rows) → on_suggest g me p m ≡ still (noted rows)
  suggest_still e h =
      let q = noted rows in
      stored e ∙ failed (propose_due g me q) (propose g me q (best g q g.n)) (still q) h
