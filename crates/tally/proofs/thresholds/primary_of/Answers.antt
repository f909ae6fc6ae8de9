use mathlib.Core.Path.{refl}
use Rattle.rows.specs.Meaning.{setting_of}
use Rattle.tally.proofs.thresholds.primary_of.Goals as goal

pub returns : goal.returns
returns g c = c.primary.ensures (setting_of g.V.Value.width g.V.Value.allows c.args.seat) refl
