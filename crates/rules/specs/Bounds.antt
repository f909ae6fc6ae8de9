-- The bounds of the numbers that a party keeps. Every step keeps them, and within them every post is in range.
use Rattle.std.specs.Prelude.{ℕ, zero, suc, Bool, true, ◌&&◌, Some, None, Option, nat_le}
use Rattle.messages.specs.Messages.{between, last_view, highest_view, previous_fits}
use Rattle.rules.specs.Party.{Keyed, Suggest, Proof, Record, Row, Party}
use Rattle.rules.specs.Tests.{below}

-- contents as a message may carry them
abbrev pub suggest_fits : Suggest → Bool
suggest_fits s = nat_le s.key3.at last_view && (nat_le s.key2.at last_view && previous_fits s.previous)

abbrev pub proof_fits : Proof → Bool
proof_fits p = nat_le p.key1.at last_view && previous_fits p.previous

abbrev pub stored_suggest_fits : Option Suggest → Bool
stored_suggest_fits None = true
stored_suggest_fits (Some s) = suggest_fits s

abbrev pub stored_proof_fits : Option Proof → Bool
stored_proof_fits None = true
stored_proof_fits (Some p) = proof_fits p

abbrev pub offer_fits : Option Keyed → Bool
offer_fits None = true
offer_fits (Some k) = nat_le k.at last_view

-- no key or lock passes the view
abbrev pub fields_fit : Record → Bool
fields_fit r =
    nat_le (r.field 6).at r.view && (nat_le (r.field 7).at r.view && (nat_le (r.field 8).at r.view && nat_le (r.field 9).at r.view))

-- a previous key is below its key
abbrev pub previous_below : Record → Bool
previous_below r = below (r.previous 6) (r.field 6).at && below (r.previous 7) (r.field 7).at

abbrev pub record_fits : Record → Bool
record_fits r =
    between 1 last_view r.view && (fields_fit r && (previous_below r && (suggest_fits r.suggest && (proof_fits r.proof && offer_fits r.offer))))

abbrev pub row_fits : Row → Bool
row_fits r =
    nat_le r.request last_view && (nat_le r.abort (highest_view 11) && (stored_suggest_fits r.suggest && stored_proof_fits r.proof))

-- every one of the parties 1 to n passes
abbrev pub every : (ℕ → Bool) → ℕ → Bool
every t zero = true
every t (suc k) = t (suc k) && every t k

abbrev pub party_fits : ℕ → Party → Bool
party_fits n p = record_fits p.rec && every (λ j. row_fits (p.rows j)) n
