-- The facts that the second count rests on follow from the invariants of safety, of choices and of closure.
use Rattle.std.proofs.Common.{◌≡◌, ℕ, ◌<◌, ◌≤◌, true, List, ◌++◌, sym, refl, ap, subst, subst₂, append_assoc, append-nil, arith}
use Rattle.messages.specs.Messages.{Msg}
use Rattle.rules.specs.Counting.{upd}
use Rattle.rules.specs.Party.{Party, Step, still, and_then}
use Rattle.rules.specs.Step.{step, on_timer}
use Rattle.agreement.proofs.History.{Log, note}
use Rattle.agreement.proofs.World.{World}
use Rattle.agreement.proofs.Invariant.{Suggested, Proved, asked_of, Inv}
use Rattle.agreement.proofs.Sound.{upd_here, upd-upd, upd_same, Good, good_part}
use Rattle.agreement.proofs.Upshot.{one_done}
use Rattle.values.proofs.Same.{equal_from_not}
use Rattle.agreement.proofs.LiveFacts.{Prompt, Contents, Safe, RowsSay, Offers, Facts}
use Rattle.agreement.proofs.Choice.{opens_by, bears_by}
use Rattle.agreement.proofs.ChoiceKept.{Choice, choice_kept}
use Rattle.agreement.proofs.Walk.{Parts, walk_step, walk_timer}
use Rattle.agreement.proofs.Part.{Part, by_parts}

module _ (w : World) (parties : ℕ → Party) (said : ℕ → Log) (inv : Inv w parties said) (c : Choice w parties said) where
  safe : Safe w.g w.honest parties said
  safe =
      record {
        now = λ i kind hi _ _. (inv.ok i hi).now kind;
        later = λ i kind v hi l. (inv.ok i hi).later kind v l;
        offered = λ i hi. (inv.ok i hi).offered_now;
        suggested = λ i hi. (inv.ok i hi).suggested_now;
        proved = λ i hi. (inv.ok i hi).proved_now;
        field_at = λ i kind hi lo up. (inv.ok i hi).seen kind lo up;
        locked = λ i hi pos. (inv.ok i hi).top 9 (omega arith) (omega arith) pos;
        why = λ kind i v x lo up hi h. (inv.core.stage i kind v x hi lo up h).holds;
        allowed = λ i v x hi h. (inv.core.echo i v x hi h).allowed;
        one_done = one_done w parties said inv;
        decided = λ i x hi h. (inv.decided_why i x hi h).0.holds;
      }

  contents : (i : ℕ) → w.honest i ≡ true → Contents w.g (said i) (parties i).rec
  contents i hi =
      let v = (parties i).rec.view in
      let s : Suggested w (said i) (parties i).rec.view (parties i).rec.suggest = inv.suggested i _ _ hi (inv.ok i hi).suggested_now in
      let f : Proved (said i) (parties i).rec.view (parties i).rec.proof = inv.proved i _ _ hi (inv.ok i hi).proved_now in
      record {
        bears = λ u x l h. bears_by ((said i).said 7) (parties i).rec.view (parties i).rec.suggest u x s.told.behind s.earlier2 (c.suggest i hi) l h;
        opening = λ u x lock l h le ne. opens_by ((said i).said 6) (parties i).rec.view (parties i).rec.proof u x lock f.told.behind f.earlier (c.proof i hi) l h le ne;
        allowed = λ _. s.allowed;
        key3 = s.has3;
        before = s.earlier3;
        latest = λ u x l h. c.latest i u x hi l h;
        key2 = s.told.has;
        previous = λ q e pos. let o = s.told.other q e pos in (o.0, o.1, equal_from_not _ _ o.2);
      }

  offers : Offers w.g w.honest parties said
  offers =
      record {
        backed = c.backed;
        echo = λ i v x hi hp h. let o = (inv.core.echo i v x hi h).offered hp in (record { at = o.0; value = x }, o.1, refl);
        wait = λ i x hi hp h. let o = (inv.asked i x hi (ap asked_of h)).offered hp in (record { at = o.0; value = x }, o.1, refl);
        drop = c.drop;
      }

  rows : (i j : ℕ) → w.honest i ≡ true → w.honest j ≡ true → RowsSay w.g w.honest parties said i j
  rows i j hi hj = let r = inv.rows i j hi hj in record { vote = r.vote; proof = r.proof; suggest = r.suggest; done = r.told }

  pub facts : ((i : ℕ) → w.honest i ≡ true → Prompt w.g (parties i)) → Facts w.g w.honest parties said
  facts p = record { safe = safe; prompt = p; contents = contents; offers = offers; rows = rows }

-- ## A step with its log
-- all is well with the parties, the message at hand and the messages posted, by some log
pub record Grown (w : World) (m : Msg) (parties : ℕ → Party) (posted : List Msg) : Type 0 where
  pub said : ℕ → Log
  pub good : Good w parties said m posted
  pub choice : Choice w parties said

module _ (w : World) (some : 0 < w.g.n) (me : ℕ) (m : Msg) (hme : w.honest me ≡ true) (lo : 1 ≤ m.from) (hi : m.from ≤ w.g.n) where
  abbrev R : Party → Step → Type 0
  R p s = (parties : ℕ → Party) (posted : List Msg) → parties me ≡ p → Grown w m parties posted → Grown w m (upd parties me s.after) (posted ++ s.posts)

  grown_stay : (p : Party) → R p (still p)
  grown_stay p parties posted e h = subst₂ (Grown w m) (sym (subst (λ q. upd parties me q ≡ parties) e (upd_same parties me))) (sym (append-nil posted)) h

  grown_each : (p : Party) (s : Step) → Part w.g me m p s → R p s
  grown_each p s x parties posted e h =
      let y : Part w.g me m (parties me) s = subst (λ q. Part w.g me m q s) (sym e) x in
      record {
        said = upd h.said me (note (h.said me) s.after.rec);
        good = good_part w me hme m parties h.said posted h.good s y.effect.holds y.posts;
        choice = choice_kept w me m parties h.said h.good.inv hme h.good.fair s.after y.effect.holds y.drawn.drops h.choice;
      }

  grown_then : (p : Party) (s : Step) (f : Party → Step) → R p s → R s.after (f s.after) → R p (and_then s f)
  grown_then p s f a b parties posted e h =
      subst₂ (Grown w m) (upd-upd parties me s.after (f s.after).after) (append_assoc posted s.posts (f s.after).posts)
      (b (upd parties me s.after) (posted ++ s.posts) (upd_here parties me s.after) (a parties posted e h))

  grown_parts : Parts w.g me m R
  grown_parts = by_parts w.g me m some lo hi R grown_stay grown_each grown_then

  pub step_grown : (parties : ℕ → Party) (posted : List Msg) → Grown w m parties posted →
      Grown w m (upd parties me (step w.g me (parties me) m).after) (posted ++ (step w.g me (parties me) m).posts)
  step_grown parties posted h = walk_step w.g me m R grown_parts (parties me) parties posted refl h

  pub timer_grown : m.kind ≡ 0 → (parties : ℕ → Party) (posted : List Msg) → Grown w m parties posted →
      Grown w m (upd parties me (on_timer w.g me (parties me)).after) (posted ++ (on_timer w.g me (parties me)).posts)
  timer_grown k parties posted h = walk_timer w.g me m R grown_parts (parties me) k parties posted refl h
