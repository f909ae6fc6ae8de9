use Rattle.std.proofs.Common.{sym, ap, ◌∙◌}
use Rattle.messages.specs.Meaning.{message}
use Rattle.rules.specs.Step.{join_done, decide}
use Rattle.rows.specs.Meaning.{setting_of, party_of}
use Rattle.rows.specs.Parties.{party_in}
use Rattle.posting.proofs.Steps.{takes_same, takes_before, does_same, does_then}
use Rattle.voting.proofs.Ways.{done_both, decide_quiet}
use Rattle.voting.proofs.dones.on_done.Goals as goal

pub follow_done-posts-requires : goal.follow_done-posts-requires
follow_done-posts-requires g c =
    let v = g.V.Value in
    let seat = c.args.party.now.seat in
    let s = setting_of v.width v.allows seat in
    let x = v.bytes c.args.m.now.value in
    let q = party_of v.bytes c.args.party.now.own.now c.note_done.new.rows in
    takes_before (join_done s seat.me q x) (decide s seat.me x) (takes_same _ _ (done_both _ _ _ _ _ c.note_done.ensures) c.requires.taken)

pub returns-clause-step : goal.returns-clause-step
returns-clause-step g c =
    let v = g.V.Value in
    let seat = c.args.party.now.seat in
    let s = setting_of v.width v.allows seat in
    let m = message v.bytes c.args.m.now in
    let q = party_of v.bytes c.args.party.now.own.now c.note_done.new.rows in
    let told = party_in v.bytes c.follow_done-posts.new.party in
    let decided = c.try_decide.ensures.step ∙ ap (λ t. (decide (setting_of v.width v.allows t) t.me m.value told).after) c.follow_done-posts.ensures.lent.0 in
    does_same _ _ _ (sym (done_both s seat.me _ m _ c.note_done.ensures))
    (does_then (join_done s seat.me q m.value) (decide s seat.me m.value) told _ c.follow_done-posts.ensures.step decided (decide_quiet s seat.me m.value told))
