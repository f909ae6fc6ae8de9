use Rattle.agreement.proofs.examples.posting_twice_is_shut_out.Goals as goal
use Rattle.agreement.proofs.ShutOut.{stutter_shut_out}

pub returns : goal.returns
returns c = stutter_shut_out
