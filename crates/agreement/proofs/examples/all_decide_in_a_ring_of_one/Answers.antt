use Rattle.agreement.proofs.examples.all_decide_in_a_ring_of_one.Goals as goal
use Rattle.agreement.proofs.Deciding.{alone-decides}

pub returns : goal.returns
returns c = alone-decides
