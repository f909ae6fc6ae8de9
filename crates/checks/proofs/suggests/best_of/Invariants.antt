use Rattle.std.proofs.Common.{◌≡◌}
use Rattle.std.specs.Option.{option_map}
use Rattle.rules.specs.Tests.{best}
use Rattle.rows.specs.Meaning.{setting_of, party_of, suggest_of}
use Rattle.checks.proofs.suggests.best_of.Given as goal

abbrev pub invariant-loop-row : goal.invariant-loop-row
invariant-loop-row g l =
    let v = g.V.Value in
    option_map (suggest_of v.bytes) l.top ≡ best (setting_of v.width v.allows l.party.seat) (party_of v.bytes l.party.own.now l.party.rows.now) l.row-index
