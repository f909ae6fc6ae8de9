use Rattle.agreement.proofs.examples.all_decide_in_a_ring_of_four.Goals as goal
use Rattle.agreement.proofs.Deciding.{four-decide}

pub returns : goal.returns
returns c = four-decide
