use Rattle.rules.proofs.figures.figures_hold.Goals as goal
use Rattle.rules.proofs.Worked.{figures}

pub returns : goal.returns
returns c = figures
