use Rattle.rows.specs.Meaning.{rows_of}
use Rattle.checks.proofs.Turns.{largest_by}
use Rattle.checks.proofs.aborts.agreed_abort.Goals as goal

pub returns : goal.returns
returns g c =
    largest_by (λ j. (rows_of g.V.Value.bytes c.args.party.now.rows.now j).abort) _ _ _ _ _ c.reached_by.ensures c.quorum_size.ensures c.args.party.now.whole
