use Rattle.agreement.proofs.examples.posting_nothing_is_shut_out.Goals as goal
use Rattle.agreement.proofs.ShutOut.{mute_shut_out}

pub returns : goal.returns
returns c = mute_shut_out
