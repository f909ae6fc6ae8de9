use Rattle.std.proofs.Common.{arith}
use Rattle.rows.specs.Meaning.{setting_of}
use Rattle.rows.specs.Parties.{party_in}
use Rattle.views.proofs.Ways.{leave_bound}
use Rattle.views.proofs.aborts.leave_view.Goals as goal

pub overflow_add-view : goal.overflow_add-view
overflow_add-view g c =
    let seat = c.args.party.now.seat in
    let s = setting_of g.V.Value.width g.V.Value.allows seat in
    omega (arith, leave_bound s seat.me (party_in g.V.Value.bytes c.args.party.now) _ (omega arith) c.agreed_abort-view.ensures (omega arith) c.requires)
