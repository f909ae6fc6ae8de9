use Rattle.std.proofs.Common.{arith, rules, eq-eqb}
use Rattle.rules.specs.Step.{on_request}
use Rattle.requests.proofs.requests.on_request.Goals as goal

pub returns-then-m-party-clause-step : goal.returns-then-m-party-clause-step
unfolding on_request
returns-then-m-party-clause-step g c =
    record { party = search rules; posts = rw (eq-eqb c.args.m.now.view c.args.party.now.own.now.view (omega arith)) c.post_answer.ensures }
