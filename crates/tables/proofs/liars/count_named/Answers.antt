use Rattle.std.proofs.Common.{◌≡◌, ◌-◌, sym, ap, ◌∙◌, arith}
use Rattle.rules.specs.Counting.{count}
use Rattle.tables.proofs.Words.{count_more, count_same}
use Rattle.agreement.specs.Calls.{named}
use Rattle.tables.proofs.liars.count_named.Goals as goal
use Rattle.tables.proofs.liars.count_named.Goals.{then-is_named, else-is_named}

pub loop-party-preserved : goal.loop-party-preserved
loop-party-preserved c =
    elim c.if-is_named.branch [
      | then-is_named w ↦ (omega (arith, w.found-is), omega arith, λ h. w.found-is ∙ count_more (named c.args.word) c.loop-party.party _ (omega arith) (sym (w.if-is_named.ensures (omega arith))) (c.loop-party.invariant.2 h))
      | else-is_named w ↦ (omega (arith, w.found-is), omega arith, λ h. w.found-is ∙ count_same (named c.args.word) c.loop-party.party _ (omega arith) (sym (w.if-is_named.ensures (omega arith))) (c.loop-party.invariant.2 h))
    ]

pub returns : goal.returns
returns c = λ h.
    let e : c.loop-party.party - 1 ≡ c.args.n = omega arith in
    c.loop-party.invariant.2 h ∙ ap (count (named c.args.word)) e
