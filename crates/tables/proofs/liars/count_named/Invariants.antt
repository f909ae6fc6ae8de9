use Rattle.std.proofs.Common.{◌≡◌, ◌+◌, ◌-◌, ◌≤◌}
use Rattle.rules.specs.Counting.{count}
use Rattle.agreement.specs.Calls.{named}
use Rattle.tables.proofs.liars.count_named.Given as goal

abbrev pub invariant-loop-party : goal.invariant-loop-party
invariant-loop-party l = (l.found + 1 ≤ l.party) × (l.party ≤ l.n + 1) × (l.n ≤ 64 → l.found ≡ count (named l.word) (l.party - 1))
