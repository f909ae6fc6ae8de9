use mathlib.Core.Path.{◌≡◌, sym, ap, ◌∙◌}
use native.Mathlib.Omega.{arith}
use Rattle.rows.specs.Meaning.{row_of, proposal_of}
use Rattle.heed.specs.Heed.{first_by}
use Rattle.heed.proofs.heed.is_first.Goals as goal

pub returns-in-4 : goal.returns-in-4
returns-in-4 g c = λ s.
    let e : c.args.kind ≡ 4 = omega arith in
    c.no_proposal.ensures s ∙ sym (ap (first_by s (proposal_of g.V.Value.bytes c.args.own.now.proposal) (row_of g.V.Value.bytes c.args.row.now)) e)
