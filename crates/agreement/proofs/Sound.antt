-- The invariant of a shift, with all that was posted and all that waits: every call keeps it.
use Rattle.std.proofs.Common.{◌≡◌, ℕ, zero, suc, ◌<◌, Bool, true, false, eqb, ◌⊎◌, List, [], ◌∷◌, ◌++◌, None, Ok, Option, sym, refl, subst, inl, inr, arith}
use mathlib.Core.Path.{fun_ext}
use Rattle.std.specs.List.{AllByRecursion as All}
use Rattle.std.proofs.ByRecursion.{All-append, All-weaker, All-push}
use Rattle.std.proofs.lemmas.Bool.{eqb-true}
use Rattle.std.proofs.lemmas.Bool.Decides.{nat_tests}
use Rattle.messages.specs.Messages.{Msg}
use Rattle.wires.specs.Wire.{looked, taken}
use Rattle.rules.specs.Counting.{upd}
use Rattle.rules.specs.Party.{Party, Step}
use Rattle.rules.specs.Step.{step, on_timer}
use Rattle.agreement.specs.Ring.{Kind, Ring, setting, honest}
use Rattle.agreement.specs.Runs.{Shift}
use Rattle.agreement.proofs.History.{Log, note}
use Rattle.agreement.proofs.Effects.{Effect, E}
use Rattle.agreement.proofs.Posts.{Post, Posts}
use Rattle.agreement.proofs.Steps.{step_kept, timer-kept}
use Rattle.agreement.proofs.Runs.{turned, Kept}
use Rattle.rules.specs.Thresholds.{quorum, voucher}
use Rattle.rules.specs.Quorums.{Quorums}
use Rattle.agreement.proofs.Begin.{honest_parts, in_ring_parts}
use Rattle.agreement.proofs.World.{World}
use Rattle.agreement.proofs.Fair.{MsgFair, msg_grows, post_fair}
use Rattle.agreement.proofs.Invariant.{Inv}
use Rattle.agreement.proofs.Stepped.{grow}
use Rattle.agreement.proofs.Kept.{inv_kept, grow_done}

-- ## Tables with one entry changed
pub upd_here : {X : Type 0} (s : ℕ → X) (i : ℕ) (x : X) → upd s i x i ≡ x
upd_here s i x = grind (arith, nat_tests)

pub upd-upd : {X : Type 0} (s : ℕ → X) (i : ℕ) (x y : X) → upd (upd s i x) i y ≡ upd s i y
upd-upd s i x y = fun_ext (λ j. go j (eqb j i) refl)
  where
    go : (j : ℕ) (b : Bool) → eqb j i ≡ b → upd (upd s i x) i y j ≡ upd s i y j
    go j true e = rw e refl
    go j false e = rw e refl

pub upd_same : {X : Type 0} (s : ℕ → X) (i : ℕ) → upd s i (s i) ≡ s
upd_same s i = fun_ext (λ j. go j (eqb j i) refl)
  where
    go : (j : ℕ) (b : Bool) → eqb j i ≡ b → upd s i (s i) j ≡ s j
    go j true e = let q : j ≡ i = eqb-true _ _ e in rw q (upd_here s i (s i))
    go j false e = rw e refl

-- ## Messages
-- a message of an honest party says what its log says
abbrev pub Fair : World → (ℕ → Party) → (ℕ → Log) → Msg → Type 0
Fair w parties said m = w.honest m.from ≡ true → MsgFair (said m.from) (parties m.from).rec.done m

-- all is well with the parties, with the message at hand and with a list of messages
pub record Good (w : World) (parties : ℕ → Party) (said : ℕ → Log) (m : Msg) (ms : List Msg) : Type 0 where
  pub inv : Inv w parties said
  pub fair : Fair w parties said m
  pub all : All (Fair w parties said) ms

-- one part of a step of an honest party
module _ (w : World) (me : ℕ) (hme : w.honest me ≡ true) (m : Msg) (parties : ℕ → Party) (said : ℕ → Log) (ms : List Msg) (h : Good w parties said m ms)
    (s : Step) (e : Effect w.g me (parties me) m s.after) (p : Posts w.g me (parties me) s) where
  inv_next : Inv w (upd parties me s.after) (upd said me (note (said me) s.after.rec))
  inv_next = inv_kept w me m parties said h.inv hme h.fair s.after e

  keep : (n : Msg) → Fair w parties said n → Fair w (upd parties me s.after) (upd said me (note (said me) s.after.rec)) n
  keep n f hn =
      msg_grows _ _ _ _ (grow w me m parties said h.inv hme h.fair s.after e n.from) (grow_done w me m parties said h.inv hme h.fair s.after e n.from) n (f hn)

  new : (n : Msg) → Post w.g me (parties me) s.after n → Fair w (upd parties me s.after) (upd said me (note (said me) s.after.rec)) n
  new n f hn =
      let here = upd_here parties me s.after in
      subst (λ i. MsgFair (upd said me (note (said me) s.after.rec) i) (upd parties me s.after i).rec.done n) (sym f.from)
      (post_fair w.g me (parties me) (upd parties me s.after me) n _ (inv_next.ok me hme) (subst (λ r. Post w.g me (parties me) r n) (sym here) f))

  pub good_part : Good w (upd parties me s.after) (upd said me (note (said me) s.after.rec)) m (ms ++ s.posts)
  good_part =
      record {
        inv = inv_next;
        fair = keep m h.fair;
        all = All-append _ ms s.posts (All-weaker _ _ keep ms h.all) (All-weaker _ _ new s.posts p.each);
      }

-- the parties with some log; ms is all that was posted before, ns what this step has posted so far
pub record Going (w : World) (me : ℕ) (parties : ℕ → Party) (m : Msg) (ms : List Msg) (q : Party) (ns : List Msg) : Type 0 where
  pub said : ℕ → Log
  pub old : Good w (upd parties me q) said m ms
  pub new : All (Fair w (upd parties me q) said) ns

module _ (w : World) (me : ℕ) (hme : w.honest me ≡ true) (parties : ℕ → Party) (m : Msg) (ms : List Msg) where
  pub going_part : (p : Party) (ns : List Msg) (s : Step) → E w.g me p m s → Posts w.g me p s → Going w me parties m ms p ns → Going w me parties m ms s.after (ns ++ s.posts)
  going_part p ns s e ps h =
      let here = upd_here parties me p in
      let g = good_part w me hme m (upd parties me p) h.said (ms ++ ns)
      (record { inv = h.old.inv; fair = h.old.fair; all = All-append _ ms ns h.old.all h.new }) s
      (subst (λ r. Effect w.g me r m s.after) (sym here) e.holds) (subst (λ r. Posts w.g me r s) (sym here) ps) in
      turn (upd-upd parties me p s.after) g
    where
      split : (P : Msg → Type 0) (xs bs cs : List Msg) → All P ((xs ++ bs) ++ cs) → All P xs × All P (bs ++ cs)
      split P [] bs cs a = (tt, a)
      split P (x ∷ xs) bs cs a = let r = split P xs bs cs a.1 in ((a.0, r.0), r.1)

      turn : {t : ℕ → Party} {l : ℕ → Log} → t ≡ upd parties me s.after → Good w t l m ((ms ++ ns) ++ s.posts) → Going w me parties m ms s.after (ns ++ s.posts)
      turn {t} {l} z g =
          let g₁ = subst (λ r. Good w r l m ((ms ++ ns) ++ s.posts)) z g in
          let r = split _ ms ns s.posts g₁.all in
          record { said = l; old = record { inv = g₁.inv; fair = g₁.fair; all = r.0 }; new = r.1 }

-- ## The ring
-- the laws of quorums among the honest parties of a ring
abbrev pub Laws : Kind → Ring → Type 0
Laws k s = Quorums s.n (honest s) (quorum (setting k s)) (voucher (setting k s))

abbrev pub world : (k : Kind) (s : Ring) → Laws k s → World
world k s laws = record { g = setting k s; honest = honest s; laws = laws }

pub record Sound (k : Kind) (h : Shift) : Type 0 where
  pub some : 0 < h.ring.n
  pub laws : Laws k h.ring
  pub said : ℕ → Log
  pub inv : Inv (world k h.ring laws) h.ring.parties said
  pub wire : All (Fair (world k h.ring laws) h.ring.parties said) h.ring.wire
  pub posted : All (Fair (world k h.ring laws) h.ring.parties said) h.posted

-- what waits at a place, and what is left without it
module _ (P : Msg → Type 0) where
  pub all_looked : (ms : List Msg) (i : ℕ) (m : Msg) → looked ms i ≡ Ok m → All P ms → P m
  all_looked [] i m e a = absurd (let z : ◌≡◌ {A = ℕ} 0 1 = cc in omega arith)
  all_looked (n ∷ ms) zero m e a = let q : n ≡ m = cc in subst P q a.0
  all_looked (n ∷ ms) (suc i) m e a = all_looked ms i m e a.1

  pub all_taken : (ms : List Msg) (i : ℕ) → All P ms → All P (taken ms i)
  all_taken [] i a = tt
  all_taken (n ∷ ms) zero a = a.1
  all_taken (n ∷ ms) (suc i) a = (a.0, all_taken ms i a.1)

-- a message that says nothing
idle : Msg
idle = record { kind = 0; from = 0; to = 0; view = 0; key = 0; value = []; second_key = 0; second_value = []; previous = None }

idle_fair : (log : Log) (o : Option (List ℕ)) → MsgFair log o idle
unfolding idle
idle_fair log o =
    record { vote = λ lo hi. absurd (omega arith); suggest = λ q. absurd (omega arith); proof = λ q. absurd (omega arith); propose = λ q. absurd (omega arith); told = λ q. absurd (omega arith) }

module _ (k : Kind) where
  module _ (h : Shift) (s : Sound k h) where
    abbrev W : World
    W = world k h.ring s.laws

    abbrev F : Msg → Type 0
    F = Fair W h.ring.parties s.said

    -- before a step: nothing is posted yet
    ready : (me : ℕ) (m : Msg) (w : List Msg) → F m → All F w → Going W me h.ring.parties m (w ++ h.posted) (h.ring.parties me) []
    ready me m w f a =
        record {
          said = s.said;
          old = subst (λ t. Good W t s.said m (w ++ h.posted)) (sym (upd_same h.ring.parties me)) (record { inv = s.inv; fair = f; all = All-append _ w _ a s.posted });
          new = tt;
        }

    left : (i : ℕ) (w : List Msg) → (w ≡ taken h.ring.wire i) ⊎ (w ≡ h.ring.wire) → All F w
    left i w (inl q) = subst (All F) (sym q) (all_taken F h.ring.wire i s.wire)
    left i w (inr q) = subst (All F) (sym q) s.wire

    liar : (m : Msg) → h.ring.faulty m.from ≡ true → F m
    liar m f q = absurd (let a = honest_parts h.ring m.from q in let b = a.2 in let z : ◌≡◌ {A = ℕ} 0 1 = cc in omega arith)

    -- after a step of party `me`
    after : (me : ℕ) (m : Msg) (w : List Msg) (r : Step) → Going W me h.ring.parties m (w ++ h.posted) r.after r.posts →
        Sound k (record { ring = turned h.ring me (w ++ r.posts) r.after; posted = h.posted ++ r.posts; lost = h.lost })
    after me m w r g =
        let a = parts _ w h.posted g.old.all in
        record {
          some = s.some;
          laws = s.laws;
          said = g.said;
          inv = g.old.inv;
          wire = All-append _ w r.posts a.0 g.new;
          posted = All-append _ h.posted r.posts a.1 g.new;
        }
      where
        parts : (P : Msg → Type 0) (xs ys : List Msg) → All P (xs ++ ys) → All P xs × All P ys
        parts P [] ys a = (tt, a)
        parts P (x ∷ xs) ys a = let z = parts P xs ys a.1 in ((a.0, z.0), z.1)

  pub sound_kept : Kept k (Sound k)
  sound_kept =
      record {
        brought = λ h i m w e q from to s.
            let f = honest_parts h.ring m.to to in
            let b = in_ring_parts h.ring m.from from in
            after h s m.to m w (step (setting k h.ring) m.to (h.ring.parties m.to) m)
            (step_kept (setting k h.ring) m.to m s.some (Going (W h s) m.to h.ring.parties m (w ++ h.posted))
            (going_part (W h s) m.to to h.ring.parties m (w ++ h.posted)) (h.ring.parties m.to) b.0 b.1
            (ready h s m.to m w (all_looked (F h s) h.ring.wire i m e s.wire) (left h s i w q)));
        swallowed = λ h i m w e q f s. record { some = s.some; laws = s.laws; said = s.said; inv = s.inv; wire = left h s i w q; posted = s.posted };
        lose = λ h i m e s. record { some = s.some; laws = s.laws; said = s.said; inv = s.inv; wire = all_taken _ h.ring.wire i s.wire; posted = s.posted };
        send = λ h m f s.
            record {
              some = s.some;
              laws = s.laws;
              said = s.said;
              inv = s.inv;
              wire = All-push _ h.ring.wire m s.wire (liar h s m f);
              posted = All-push _ h.posted m s.posted (liar h s m f);
            };
        timer = λ h i hi d s.
            after h s i idle h.ring.wire (on_timer (setting k h.ring) i (h.ring.parties i))
            (timer-kept (setting k h.ring) i idle s.some (Going (W h s) i h.ring.parties idle (h.ring.wire ++ h.posted))
            (going_part (W h s) i hi h.ring.parties idle (h.ring.wire ++ h.posted)) (h.ring.parties i)
            (ready h s i idle h.ring.wire (λ _. idle_fair _ _) s.wire));
      }
