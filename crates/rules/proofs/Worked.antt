-- The worked figures, by computing them.
use Rattle.std.proofs.Common.{◌≡◌, ℕ, Bool, true, false, List, [], ◌∷◌, refl, ap, arith}
use mathlib.Core.Path.{fun_ext}
use Rattle.std.proofs.lemmas.Bool.Decides.{nat_tests}
use Rattle.values.specs.Same.{equal}
use Rattle.rules.specs.Party.{Setting, Keyed, Party}
use Rattle.rules.specs.Thresholds.{reached}
use Rattle.rules.specs.Step.{leave, enter, aborts}
use Rattle.rules.specs.Figures.{Figures, Leaving, Opening, Bearing, four}

same_self : (x : List ℕ) → equal x x ≡ true
same_self [] = refl
same_self (a ∷ x) = let ih = same_self x in grind (arith, nat_tests)

opening : (x y : List ℕ) → equal x y ≡ false → Opening x y
opening x y d = let s = same_self x in grind (arith, nat_tests)

bearing : (key3 : Keyed) (x y : List ℕ) → equal x y ≡ false → Bearing key3 x y
bearing k x y d = let s = same_self x in grind (arith, nat_tests)

module _ (g : Setting) (me : ℕ) (p : Party) where
  leaves : reached g (aborts g me p) ≡ 3 → p.rec.view ≡ 3 → (leave g me p).after.rec.view ≡ 4
  unfolding leave enter
  leaves r v = grind (arith, nat_tests)

  stays : reached g (aborts g me p) ≡ 3 → p.rec.view ≡ 4 → (leave g me p).after.rec.view ≡ 4
  unfolding leave
  stays r v = grind (arith, nat_tests)

leaving : (width : ℕ) (allows : List ℕ → Bool) → Leaving (four width allows)
leaving width allows =
    record {
      by_voucher = refl;
      by_quorum = refl;
      from_3 = λ me p h v. leaves g me p (ap (reached g) (fun_ext h)) v;
      from_4 = λ me p h v. stays g me p (ap (reached g) (fun_ext h)) v;
    }
  where
    g : Setting
    g = four width allows

pub figures : Figures
figures =
    record {
      sizes = record { one_of_4 = refl; one_of_3 = refl; most_of_64 = refl; more_of_64 = refl };
      opening = opening;
      bearing = bearing;
      leaving = leaving;
    }
