use Rattle.agreement.proofs.examples.deciding_at_once_is_shut_out.Goals as goal
use Rattle.agreement.proofs.ShutOut.{hasty_shut_out}

pub returns : goal.returns
returns c = hasty_shut_out
