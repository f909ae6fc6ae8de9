-- The three counts of every shift, together.
use Rattle.std.proofs.Common.{take}
use Rattle.agreement.specs.Counts.{CountsHold}
use Rattle.agreement.proofs.Decided.{one_value}
use Rattle.agreement.proofs.NobodyLeft.{nobody_left}
use Rattle.agreement.proofs.SaidOnce.{said_once}

pub counts_hold : CountsHold
counts_hold k p s cs e =
    record {
      one_value = one_value k p s cs e;
      nobody_left = λ a. nobody_left k p s (take a cs) e;
      said_once = λ a. said_once k p s (take a cs) e;
    }
