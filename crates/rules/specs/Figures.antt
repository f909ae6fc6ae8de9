-- Worked figures of the rules, each over the definitions that every step uses.
use Rattle.std.specs.Prelude.{◌≡◌, ℕ, Bool, true, false, cond, List, Some, ◌==◌}
use Rattle.values.specs.Same.{equal}
use Rattle.rules.specs.Party.{Setting, Keyed, Suggest, Proof, Party}
use Rattle.rules.specs.Thresholds.{sizes_fit, vouched, reached}
use Rattle.rules.specs.Tests.{opens, bears_out}
use Rattle.rules.specs.Step.{leave}

-- one liar needs 4 parties, and 64 parties bear 21
pub record Sizes : Type 0 where
  pub one_of_4 : sizes_fit 4 1 ≡ true
  pub one_of_3 : sizes_fit 3 1 ≡ false
  pub most_of_64 : sizes_fit 64 21 ≡ true
  pub more_of_64 : sizes_fit 64 22 ≡ false

abbrev pub keyed : ℕ → List ℕ → Keyed
keyed v x = record { at = v; value = x }

-- a proof of key1 5 on x, with previous key1 2
abbrev pub a_proof : List ℕ → Proof
a_proof x = record { key1 = keyed 5 x; previous = Some 2 }

-- a suggest of key2 5 on x, with previous key2 2; its key3 has no part in bearing out
abbrev pub a_suggest : Keyed → List ℕ → Suggest
a_suggest key3 x = record { key3 = key3; key2 = keyed 5 x; previous = Some 2 }

-- which locks that proof opens in view 9, for two different values
pub record Opening (x y : List ℕ) : Type 0 where
  pub same_at_2 : opens 9 (keyed 2 x) (a_proof x) ≡ true
  pub other_at_3 : opens 9 (keyed 3 y) (a_proof x) ≡ true
  pub same_at_3 : opens 9 (keyed 3 x) (a_proof x) ≡ false
  pub other_at_6 : opens 9 (keyed 6 y) (a_proof x) ≡ false

-- which keys that suggest bears out in view 9
pub record Bearing (key3 : Keyed) (x y : List ℕ) : Type 0 where
  pub other_at_2 : bears_out 9 (keyed 2 y) (a_suggest key3 x) ≡ true
  pub same_at_3 : bears_out 9 (keyed 3 x) (a_suggest key3 x) ≡ true
  pub other_at_3 : bears_out 9 (keyed 3 y) (a_suggest key3 x) ≡ false
  pub same_at_6 : bears_out 9 (keyed 6 x) (a_suggest key3 x) ≡ false

-- four parties of which one may lie
abbrev pub four : ℕ → (List ℕ → Bool) → Setting
four width allows = record { n = 4; f = 1; width = width; allows = allows }

-- aborts 5, 3, 3 and 0
abbrev pub some_aborts : ℕ → ℕ
some_aborts j = cond (j == 1) 5 (cond (j == 2) 3 (cond (j == 3) 3 0))

-- a party that has taken in those aborts
abbrev pub HoldsAborts : Party → Type 0
HoldsAborts p = (j : ℕ) → (p.rows j).abort ≡ some_aborts j

-- what a voucher and a quorum have reached, and which party then leaves its view
pub record Leaving (g : Setting) : Type 0 where
  pub by_voucher : vouched g some_aborts ≡ 3
  pub by_quorum : reached g some_aborts ≡ 3
  pub from_3 : (me : ℕ) (p : Party) → HoldsAborts p → p.rec.view ≡ 3 → (leave g me p).after.rec.view ≡ 4
  pub from_4 : (me : ℕ) (p : Party) → HoldsAborts p → p.rec.view ≡ 4 → (leave g me p).after.rec.view ≡ 4

-- all the figures together
pub record Figures : Type 0 where
  pub sizes : Sizes
  pub opening : (x y : List ℕ) → equal x y ≡ false → Opening x y
  pub bearing : (key3 : Keyed) (x y : List ℕ) → equal x y ≡ false → Bearing key3 x y
  pub leaving : (width : ℕ) (allows : List ℕ → Bool) → Leaving (four width allows)
