use Rattle.std.proofs.Common.{◌+◌, ◌-◌, ◌^◌, length, Some, ap, ◌∙◌, rules}
use Rattle.std.proofs.lemmas.Result.{err_from_is_err_and}
use Rattle.sheet_fields.specs.Cuts.{pieces}
use Rattle.sheet_fields.specs.Numbers.{number, between}
use Rattle.sheet_fields.specs.Parties.{rising}
use Rattle.sheet_fields.proofs.Sets.{between_bounds, rising_end_none, rising_end, rising_none, rising_more}
use Rattle.sheet_fields.proofs.Cutting.{length-after}
use Rattle.sheet_fields.proofs.parties.+read_rising.Goals as goal

pub returns-in_err-last-in-None : goal.returns-in_err-last-in-None
returns-in_err-last-in-None t c =
    let p = err_from_is_err_and c.from_residual.result c.from_residual.ensures.1 in
    rw p.1 (rising_end_none c.args.low c.args.word c.args.s.now c.in-None.ensures c.in_err-last-in-None.ensures)

pub returns-in_err-party-in-Some : goal.returns-in_err-party-in-Some
returns-in_err-party-in-Some t c =
    let p = err_from_is_err_and c.from_residual-in_err-party-in-Some.result c.from_residual-in_err-party-in-Some.ensures.1 in
    let h = c.in-Some.ensures in
    let e = c.in_err-party-in-Some.ensures ∙ ap (λ f. between (c.args.low + 1) 64 (number f)) h.1.0 in
    rw p.1 (rising_none c.args.low c.args.word c.args.s.now h.0 e)

pub read_rising-requires : goal.read_rising-requires
read_rising-requires t c =
    let h = c.in-Some.ensures in
    let b = between_bounds (c.args.low + 1) 64 c.in_ok-party-in-Some.party _ c.in_ok-party-in-Some.ensures in
    let l = length-after 44 c.args.s.now h.0 in
    let k = ap length h.1.1 in
    search rules

pub returns-in_ok-last-in-None : goal.returns-in_ok-last-in-None
returns-in_ok-last-in-None t c =
    ap Some c.with_party.ensures.0
    ∙ rising_end c.args.low c.args.word c.in_ok-last-in-None.last c.args.s.now c.in-None.ensures c.in_ok-last-in-None.ensures

pub returns-in_ok-party-in-Some : goal.returns-in_ok-party-in-Some
returns-in_ok-party-in-Some t c =
    let h = c.in-Some.ensures in
    let j = c.in_ok-party-in-Some.party in
    let e = c.in_ok-party-in-Some.ensures ∙ ap (λ f. between (c.args.low + 1) 64 (number f)) h.1.0 in
    c.read_rising.ensures
    ∙ (ap (λ w. rising j w (pieces 44 c.in-Some.halves.rest.now)) c.with_party-in-Some.ensures.0
    ∙ (ap (λ r. rising j (c.args.word + 2 ^ (j - 1)) (pieces 44 r)) h.1.1
    ∙ rising_more c.args.low c.args.word j c.args.s.now h.0 e))
