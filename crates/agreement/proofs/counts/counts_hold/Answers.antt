use Rattle.agreement.proofs.Counted.{counts_hold}
use Rattle.agreement.proofs.counts.counts_hold.Goals as goal

pub returns : goal.returns
returns c = counts_hold
