-- Steps that the counts shut out: each by a small shift that breaks its count.
use Rattle.std.proofs.Common.{◌≡◌, ℕ, ◌≤◌, get_or, sym, refl, ap, subst, arith}
use Rattle.rules.specs.Posts.{to_each}
use Rattle.rules.specs.Step.{enter}
use Rattle.agreement.specs.Ring.{shown}
use Rattle.agreement.specs.Calls.{first_posts, set_up}
use Rattle.agreement.specs.Counts.{Open}
use Rattle.agreement.proofs.Begin.{honest_parts}
use Rattle.agreement.specs.Examples.{block, AsBegun, one_block, other_block, mute, begun_turned, HastyShutOut, MuteShutOut, StutterShutOut}

pub one_begun : AsBegun 1
unfolding set_up first_posts enter to_each
one_begun = refl

pub two_begun : AsBegun 2
unfolding set_up first_posts enter to_each
two_begun = refl

pub hasty_shut_out : HastyShutOut
unfolding enter to_each
hasty_shut_out one =
    let e : one_block ≡ other_block =
    one 1 2 one_block other_block (record { trusty = refl; state = refl; value = refl }) (record { trusty = refl; state = refl; value = refl }) in
    let n : ◌≡◌ {A = ℕ} 100 200 = ap (λ x. get_or x 7 0) e in
    omega arith

pub mute_shut_out : MuteShutOut
unfolding enter to_each
mute_shut_out none_left = none_left tt tt 1 same refl 1 1 (record { trusty = refl; state = refl; view = refl })
  where
    same : (i w : ℕ) → Open block (begun_turned mute 1).ring i w → w ≡ 1
    same i w o =
        let a = honest_parts (begun_turned mute 1).ring i o.trusty in
        let e : i ≡ 1 = omega arith in
        let v : (shown block (begun_turned mute 1).ring 1).view ≡ w = subst (λ x. (shown block (begun_turned mute 1).ring x).view ≡ w) e o.view in
        sym v

pub stutter_shut_out : StutterShutOut
unfolding enter to_each
stutter_shut_out once = let a = once 1 1 1 1 refl in let b : 2 ≤ 1 = a in omega arith
