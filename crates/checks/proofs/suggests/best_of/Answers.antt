use Rattle.std.proofs.Common.{◌≡◌, ap, ◌∙◌, arith}
use Rattle.std.specs.Option.{option_map}
use Rattle.rules.specs.Tests.{best}
use Rattle.rows.specs.Meaning.{setting_of, party_of, suggest_of}
use Rattle.checks.proofs.Turns.{best_more}
use Rattle.checks.proofs.suggests.best_of.Goals as goal
use Rattle.checks.proofs.suggests.best_of.Goals.{then-accepts_one, else-accepts_one}

pub loop-row-preserved : goal.loop-row-preserved
loop-row-preserved g c =
    let v = g.V.Value in
    let s = setting_of v.width v.allows c.args.party.now.seat in
    let means = option_map (suggest_of v.bytes) in
    elim c.if-accepts_one.branch [
      | then-accepts_one w ↦ best_more v.bytes c.args.party.now.rows.now c.loop-row.row-index c.row-item.result c.loop-row-test.true c.row-item.is s c.args.party.now.own.now (means c.loop-row.top) (means c.if-accepts_one.top) _ w.if-accepts_one.ensures c.loop-row.invariant (ap means w.top-is ∙ w.higher_of-top.ensures s)
      | else-accepts_one w ↦ best_more v.bytes c.args.party.now.rows.now c.loop-row.row-index c.row-item.result c.loop-row-test.true c.row-item.is s c.args.party.now.own.now (means c.loop-row.top) (means c.if-accepts_one.top) _ w.if-accepts_one.ensures c.loop-row.invariant (ap means w.top-is)
    ]

pub returns : goal.returns
returns g c =
    let v = g.V.Value in
    let e : c.loop-row.row-index ≡ c.args.party.now.seat.n = omega arith in
    c.loop-row.invariant ∙ ap (best (setting_of v.width v.allows c.args.party.now.seat) (party_of v.bytes c.args.party.now.own.now c.args.party.now.rows.now)) e
