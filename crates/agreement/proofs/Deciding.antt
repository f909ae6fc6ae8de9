-- A ring of one decides, and so does a ring of four of which one lies: their runs, computed.
use Rattle.std.proofs.Common.{ℕ, zero, suc, ◌≤◌, refl, arith}
use Rattle.rules.specs.Posts.{to_each, made}
use Rattle.rules.specs.Step.{enter, on_request, on_suggest, wake, on_propose, on_proof, on_vote, on_lock, on_done, step}
use Rattle.agreement.specs.Calls.{first_posts, set_up}
use Rattle.agreement.specs.Runs.{call}
use Rattle.agreement.specs.Counts.{Decided}
use Rattle.agreement.specs.Examples.{block, one_block, AloneDecides, four_after, FourDecide}

pub alone-decides : AloneDecides
unfolding set_up first_posts call enter to_each step on_request made on_suggest on_proof wake on_propose on_vote on_lock on_done
alone-decides = record { begins = refl; decides = refl; nothing_waits = refl; eleventh = refl }

decided : (i : ℕ) → 1 ≤ i → i ≤ 3 → Decided block (four_after 87).ring i one_block
unfolding set_up first_posts call enter to_each step on_request made on_suggest on_proof wake on_propose on_vote on_lock on_done
decided zero lo hi = absurd (omega arith)
decided (suc zero) lo hi = record { trusty = refl; state = refl; value = refl }
decided (suc (suc zero)) lo hi = record { trusty = refl; state = refl; value = refl }
decided (suc (suc (suc zero))) lo hi = record { trusty = refl; state = refl; value = refl }
decided (suc (suc (suc (suc i)))) lo hi = absurd (omega arith)

pub four-decide : FourDecide
unfolding set_up first_posts call enter to_each step on_request made on_suggest on_proof wake on_propose on_vote on_lock on_done
four-decide = record { begins = refl; decided = decided; nothing_waits = refl }
