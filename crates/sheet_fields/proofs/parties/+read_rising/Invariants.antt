use Rattle.std.proofs.Common.{length}
use Rattle.sheet_fields.proofs.parties.+read_rising.Given as goal

abbrev pub decreases-read_rising : goal.decreases-read_rising
decreases-read_rising l = length l.s.now
