-- At most one value is decided in a shift, and it is allowed: a decided party stays so, and decisions rest on locks that hold.
use Rattle.std.proofs.Common.{◌≡◌, ℕ, zero, suc, true, false, List, [], ◌∷◌, take, Some, None, Option, sym, refl, ap, ◌∙◌, arith}
use Rattle.messages.specs.Messages.{Msg}
use Rattle.rules.specs.Party.{Setting, Party, still}
use Rattle.rules.specs.Tests.{heeded}
use Rattle.rules.specs.Step.{step}
use Rattle.agreement.specs.Ring.{Kind, Ring, is_decided, setting, honest, shown_party, shown}
use Rattle.agreement.specs.Calls.{said, Plan, set_up}
use Rattle.agreement.specs.Runs.{Call, Shift, call, follow, run, begun, shift}
use Rattle.agreement.specs.Counts.{Decided, OneValue}
use Rattle.agreement.proofs.Runs.{Kept, run-kept}
use Rattle.agreement.proofs.Begin.{honest_parts}
use Rattle.agreement.proofs.World.{World, none_some, cert_has}
use Rattle.agreement.proofs.Locks.{Locked, one_locked, locked_allowed}
use Rattle.agreement.proofs.Invariant.{upd_ind}
use Rattle.agreement.proofs.Sound.{Sound, world, sound_kept}
use Rattle.agreement.proofs.Start.{begun_sound}

-- a decided party ignores every message
pub decided-still : (g : Setting) (me : ℕ) (p : Party) (m : Msg) (x : List ℕ) → p.rec.decision ≡ Some x → step g me p m ≡ still p
unfolding step
decided-still g me p m x e = let z : heeded g me p m ≡ false = grind arith in rw z refl

-- ## A decision stays
module _ (k : Kind) (i : ℕ) (x : List ℕ) where
  pub record Holds (h : Shift) : Type 0 where
    pub trusty : honest h.ring i ≡ true
    pub value : (h.ring.parties i).rec.decision ≡ Some x

  pub holds_kept : Kept k Holds
  holds_kept =
      record {
        brought = λ h n m w e q from to s. record {
          trusty = s.trusty;
          value = upd_ind (λ j l. (h.ring.parties j).rec.decision ≡ Some x → l.rec.decision ≡ Some x) h.ring.parties m.to _
              (λ d. ap (λ r. r.after.rec.decision) (decided-still (setting k h.ring) m.to (h.ring.parties m.to) m x d) ∙ d) (λ j d. d) i s.value;
        };
        swallowed = λ h n m w e q f s. record { trusty = s.trusty; value = s.value };
        lose = λ h n m e s. record { trusty = s.trusty; value = s.value };
        send = λ h m f s. record { trusty = s.trusty; value = s.value };
        timer = λ h j hj d s. record {
          trusty = s.trusty;
          value = upd_ind (λ j l. (h.ring.parties j).rec.decision ≡ Some x → l.rec.decision ≡ Some x) h.ring.parties j _
              (λ c. none_some _ x d c) (λ j c. c) i s.value;
        };
      }

  -- what holds after some of the calls holds after all
  pub stays : (h : Shift) (cs : List Call) (a : ℕ) → Holds (run k h (take a cs)) → Holds (run k h cs)
  stays h cs zero s = run-kept k Holds holds_kept h cs s
  stays h [] (suc a) s = s
  stays h (c ∷ cs) (suc a) s = stays (follow k h (call k h.ring c)) cs a s

-- what show calls decided has decided
shown-value : (k : Kind) (p : Party) (o : Option (List ℕ)) (x : List ℕ) → (shown_party k p o).state ≡ is_decided → (shown_party k p o).value ≡ x → o ≡ Some x
shown-value k p None x e v = absurd (let z : ◌≡◌ {A = ℕ} 0 1 = cc in omega arith)
shown-value k p (Some y) x e v = ap Some v

pub decided_holds : (k : Kind) (h : Shift) (i : ℕ) (x : List ℕ) → Decided k h.ring i x → Holds k i x h
decided_holds k h i x d =
    record { trusty = d.trusty; value = shown-value k (h.ring.parties i) (h.ring.parties i).rec.decision x (sym (ap (λ z. z.state) here) ∙ d.state) (sym (ap (λ z. z.value) here) ∙ d.value) }
  where
    here : shown k h.ring i ≡ shown_party k (h.ring.parties i) (h.ring.parties i).rec.decision
    here = let f = (honest_parts h.ring i d.trusty).2 in rw f refl

-- ## One value
module _ (k : Kind) (h : Shift) (s : Sound k h) where
  abbrev W : World
  W = world k h.ring s.laws

  -- a decided value was locked by a quorum
  decided_locked : (i : ℕ) (x : List ℕ) → Holds k i x h → Locked W s.said x
  decided_locked i x d =
      let c = cert_has W _ x (s.inv.decided_why i x d.trusty d.value).0 in
      s.inv.done_why c.0 x c.1 c.2

  pub one_decided : (i j : ℕ) (x y : List ℕ) → Holds k i x h → Holds k j y h → (x ≡ y) × (k.allows x ≡ true)
  one_decided i j x y a b =
      (one_locked W s.said s.inv.core x y (decided_locked i x a) (decided_locked j y b), locked_allowed W s.said s.inv.core x (decided_locked i x a))

-- the invariant of every shift
pub shift_sound : (k : Kind) (p : Plan) (s : Ring) (cs : List Call) → (set_up k p s).answer ≡ said 0 → Sound k (shift k p s cs)
shift_sound k p s cs e = run-kept k (Sound k) (sound_kept k) (begun k p s) cs (begun_sound k p s e)

-- at whatever points two honest parties are decided, they have one value, and it is allowed
pub one_value : (k : Kind) (p : Plan) (s : Ring) (cs : List Call) → (set_up k p s).answer ≡ said 0 → OneValue k p s cs
one_value k p s cs e a b i j x y da db =
    one_decided k (shift k p s cs) (shift_sound k p s cs e) i j x y
    (stays k i x (begun k p s) cs a (decided_holds k _ i x da)) (stays k j y (begun k p s) cs b (decided_holds k _ j y db))
