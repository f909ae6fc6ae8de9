use Rattle.std.proofs.Common.{◌^◌, pow_pos}
use Rattle.tables.proofs.Words.{quotient_none}
use Rattle.tables.proofs.liars.none_above.Goals as goal

pub returns-else-n-ge64 : goal.returns-else-n-ge64
returns-else-n-ge64 c h = quotient_none c.args.word (2 ^ c.args.n) (pow_pos c.args.n)
