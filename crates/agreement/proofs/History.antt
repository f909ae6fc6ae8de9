-- What an honest party has said, by view: computed from its record after each step, and never stored by the program.
use Rattle.std.proofs.Common.{ℕ, cond, ◌&&◌, eqb, ltb, List, Some, None, Option}
use Rattle.messages.specs.Messages.{between}
use Rattle.rules.specs.Party.{Keyed, Suggest, Proof, Proposal, nothing, waiting, echoed, dropped, Record, none}

pub record Log : Type 0 where
  -- by kind (5 echo, 6 key1, 7 key2, 8 key3, 9 lock) and view
  pub said : ℕ → ℕ → Option (List ℕ)
  pub offered : ℕ → Option Keyed
  pub suggested : ℕ → Option Suggest
  pub proved : ℕ → Option Proof
  -- by view, the echo if it was made before a lock of its view
  pub direct : ℕ → Option (List ℕ)

abbrev pub echo_of : Proposal → Option (List ℕ)
echo_of nothing = None
echo_of (waiting x) = None
echo_of (echoed x) = Some x
echo_of dropped = None

-- what a record says by this kind in its view
abbrev pub said_now : Record → ℕ → Option (List ℕ)
said_now r kind =
    cond (eqb kind 5) (echo_of r.proposal) (cond (between 6 9 kind && eqb (r.field kind).at r.view) (Some (r.field kind).value) None)

-- the log with what the record says written at its view
abbrev pub note : Log → Record → Log
note log r =
    record {
      said = λ kind v. cond (eqb v r.view) (said_now r kind) (log.said kind v);
      offered = λ v. cond (eqb v r.view) r.offer (log.offered v);
      suggested = λ v. cond (eqb v r.view) (Some r.suggest) (log.suggested v);
      proved = λ v. cond (eqb v r.view) (Some r.proof) (log.proved v);
      direct = λ v. cond (eqb v r.view && (none (log.direct v) && ltb (r.field 9).at v)) (echo_of r.proposal) (log.direct v);
    }

-- a party of which nothing is known yet
abbrev pub silent : Log
silent = record { said = λ _ _. None; offered = λ _. None; suggested = λ _. None; proved = λ _. None; direct = λ _. None }
