-- A propose that is taken in is the first of its view.
use Rattle.std.proofs.Common.{◌≡◌, ℕ, Bool, true, false, cond, ◌&&◌, eqb, ltb, refl, ap, ◌∙◌}
use Rattle.messages.specs.Messages.{Msg, between}
use Rattle.rules.specs.Party.{Setting, Proposal, nothing, waiting, echoed, dropped, Party, none}
use Rattle.rules.specs.Thresholds.{primary}
use Rattle.rules.specs.Tests.{heeded, is_nothing}

module _ (g : Setting) (me : ℕ) (p : Party) (m : Msg) where
  part : (a b : Bool) → true ≡ (a && b) → true ≡ b
  part true b h = h
  part false true h = refl
  part false false h = h

  only_nothing : (s : Proposal) → true ≡ is_nothing g s → s ≡ nothing
  only_nothing nothing h = refl
  only_nothing (waiting x) h = cc
  only_nothing (echoed x) h = cc
  only_nothing dropped h = cc

  abbrev firsts : ℕ → Bool
  firsts k =
      cond (eqb k 2) (none (p.rows m.from).suggest)
      (cond (eqb k 3) (none (p.rows m.from).proof)
      (cond (eqb k 4) (is_nothing g p.rec.proposal) (cond (eqb k 10) (none (p.rows m.from).done) (none ((p.rows m.from).vote k)))))

  abbrev rest_of : ℕ → Bool
  rest_of k =
      cond (eqb k 1) (ltb (p.rows m.from).request m.view)
      (cond (between 2 9 k)
      (eqb m.view p.rec.view && (cond (eqb k 2) (eqb me (primary g p.rec.view)) (cond (eqb k 4) (eqb m.from (primary g p.rec.view)) true) && firsts k))
      (cond (eqb k 10) (firsts k) (eqb k 11)))

  pub propose_first : m.kind ≡ 4 → true ≡ heeded g me p m → p.rec.proposal ≡ nothing
  propose_first k h =
      only_nothing p.rec.proposal
      (part (eqb m.from (primary g p.rec.view)) _ (part (eqb m.view p.rec.view) _ (part (none p.rec.decision) (rest_of m.kind) h ∙ ap rest_of k)))
