use Rattle.rules.proofs.facts.bounds_kept_stands.Goals as goal
use Rattle.rules.proofs.Ranges.{bounds_kept}

pub returns : goal.returns
returns c = bounds_kept
