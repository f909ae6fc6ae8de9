use Rattle.std.proofs.lemmas.Slice.Eq.{slice_eq-Decides}
use Rattle.std.proofs.lemmas.Bool.Decides.{Decides-eqb}
use Rattle.values.proofs.Same.{equal-from-decides}
use Rattle.sheet_fields.proofs.texts.is_text.Goals as goal

pub returns : goal.returns
returns c = equal-from-decides c.eq.result c.args.s.now c.args.t.now (slice_eq-Decides Decides-eqb c.args.s.now c.args.t.now c.eq.result c.eq.ensures)
