use Rattle.std.proofs.Common.{◌∙◌, rules, tests}
use Rattle.std.proofs.lemmas.Iterator.{YieldsList-from_slice}
use Rattle.std.proofs.lemmas.Iterator.Consumers.{YieldsList-from_filter, count_from_yields_List}
use Rattle.rows.specs.Meaning.{row_of}
use Rattle.tally.proofs.Counted.{count_listed}
use Rattle.tally.proofs.tally.tally.Goals as goal

pub returns : goal.returns
returns g c =
    let b = g.V.Value.bytes in
    let p = g.C.Claim.backed c.args.claim.now in
    count_from_yields_List c.filter.result _ c.count.ensures.ran
    (YieldsList-from_filter _ (λ r. p (row_of b r)) (YieldsList-from_slice c.args.rows.now cc) c.filter.ensures.closure (λ x r q k. search (rules, tests))) ∙
    count_listed b p c.args.rows.now
