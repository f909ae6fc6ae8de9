use Rattle.agreement.proofs.examples.first_steps_are_those_of_set_up.Goals as goal
use Rattle.agreement.proofs.ShutOut.{one_begun, two_begun}

pub returns : goal.returns
returns c = record { one = one_begun; two = two_begun }
