-- Tables and a wire once the parties from 1 to i have entered.
use Rattle.std.proofs.Common.{◌≡◌, ℕ, ◌+◌, ◌-◌, ◌*◌, ◌<◌, ◌≤◌, true, false, List, length, get_or, sym, refl, ap, ◌∙◌, arith}
use Rattle.messages.specs.Messages.{Msg}
use Rattle.rules.specs.Step.{enter, newcomer}
use Rattle.agreement.specs.Ring.{Kind, Ring}
use Rattle.agreement.specs.Calls.{Plan, said, named, stepped, Gives}
use Rattle.tables.specs.declared.tables.Tables.{Tables}
use Rattle.tables.specs.Meaning.{ring_in, SameTables}
use Rattle.turns.specs.Meaning.{setting_in}
use Rattle.setup.specs.Meaning.{plan_of}
use Rattle.setup.proofs.Firsts.{own-from, up_to, up_to_none, up_to_honest, up_to_faulty, room_for_next}

-- what all begin with
pub record Start (V W : Type 0) : Type 0 where
  pub bytes : V → List ℕ
  pub waiting : W → List Msg
  pub capacity : W → ℕ
  pub kind : Kind
  pub own : List V
  pub first : Tables V
  pub wire : W

abbrev pub ring_over : {V W : Type 0} → Start V W → Tables V → W → Ring
ring_over o t w = ring_in o.bytes t (o.waiting w) (o.capacity w)

abbrev pub plan : {V W : Type 0} → Start V W → Plan
plan o = plan_of o.bytes o.first.ring.n o.first.ring.f o.first.ring.faulty o.own

abbrev pub up : {V W : Type 0} → Start V W → ℕ → Ring
up o = up_to o.kind (plan o) (ring_over o o.first o.wire)

pub record Entered {V W : Type 0} (o : Start V W) (i : ℕ) (t : Tables V) (w : W) : Type 0 where
  pub few : i ≤ o.first.ring.n
  pub lent : SameTables o.first t
  pub ring : ring_over o t w ≡ up o i

pub none_entered : {V W : Type 0} (o : Start V W) → Entered o 0 o.first o.wire
none_entered o = record { few = omega arith; lent = (refl, (refl, refl)); ring = up_to_none o.kind (plan o) (ring_over o o.first o.wire) }

-- the number of the last
pub none_left : (n party : ℕ) → party - 1 ≤ n → n < party → party - 1 ≡ n
none_left n party a b = omega arith

module _ {V W : Type 0} {o : Start V W} where
  pub entered_same : {i : ℕ} {t : Tables V} {w : W} (j : ℕ) (u : Tables V) (x : W) → i ≡ j → u ≡ t → x ≡ w → Entered o i t w → Entered o j u x
  entered_same {i} {t} {w} j u x a b c e =
      record {
        few = omega (arith, a, e.few);
        lent = (ap (λ t. t.ring) b ∙ e.lent.0, (ap (λ t. t.records.ghost_name) b ∙ e.lent.1.0, ap (λ t. t.rows.ghost_name) b ∙ e.lent.1.1));
        ring = ap (λ t. ring_over o t x) b ∙ (ap (ring_over o t) c ∙ (e.ring ∙ ap (up o) a));
      }

  module _ (party : ℕ) (low : 1 ≤ party) (t : Tables V) (w : W) (e : Entered o (party - 1) t w) (high : party ≤ o.first.ring.n) where
    -- places and room for the next
    pub next_places : o.first.ring.n ≤ length o.first.records.now → o.first.ring.n * o.first.ring.n ≤ length o.first.rows.now →
        (t.ring.n ≤ length t.records.now) × (t.ring.n * t.ring.n ≤ length t.rows.now) × (party ≤ t.ring.n)
    next_places a b =
        let n : t.ring.n ≡ o.first.ring.n = ap (λ r. r.n) e.lent.0 in
        let c : length t.records.now ≡ length o.first.records.now = ap (λ s. s.records) e.ring in
        let d : length t.rows.now ≡ length o.first.rows.now = ap (λ s. s.rows) e.ring in
        let m : t.ring.n * t.ring.n ≡ o.first.ring.n * o.first.ring.n = ap (λ j. j * j) n in
        (omega (arith, n, c, a), omega (arith, m, d, b), omega (arith, n, high))

    pub next_room : length (o.waiting o.wire) + o.first.ring.n * o.first.ring.n ≤ o.capacity o.wire → length (o.waiting w) + t.ring.n ≤ o.capacity w
    next_room room =
        let n : t.ring.n ≡ o.first.ring.n = ap (λ r. r.n) e.lent.0 in
        let r = room_for_next o.kind (plan o) (ring_over o o.first o.wire) party (ring_over o t w) low high e.ring room in
        omega (arith, n, r)

    small : party ≤ 64
    small = omega (arith, high, o.first.ring.most)

    -- the next is honest, and enters
    pub honest_entered : {u : Tables V} {x : W} (v : V) (posts : ℕ) → o.first.ring.n ≤ length o.own → v ≡ get_or o.own (party - 1) v → (party ≤ 64 → false ≡ named t.ring.faulty party) → SameTables t u →
        Gives (stepped (ring_over o t w) party (o.waiting w) (enter (setting_in o.kind.width o.kind.allows t.ring) party (newcomer (o.bytes v)) 1)) (said posts) (ring_over o u x) →
        Entered o party u x
    honest_entered {u} {x} v posts enough i h b g =
        let y = ring_over o t w in
        record {
          few = high;
          lent = (b.0 ∙ e.lent.0, (b.1.0 ∙ e.lent.1.0, b.1.1 ∙ e.lent.1.1));
          ring = up_to_honest o.kind (plan o) (ring_over o o.first o.wire) party y (ring_over o u x) low e.ring (sym (h small ∙ ap (λ r. named r.faulty party) e.lent.0))
              (g.after ∙ (ap (λ r. (stepped y party y.wire (enter (setting_in o.kind.width o.kind.allows r) party (newcomer (o.bytes v)) 1)).after) e.lent.0 ∙
              ap (λ z. (stepped y party y.wire (enter (setting_in o.kind.width o.kind.allows o.first.ring) party (newcomer z) 1)).after)
              (sym (own-from o.bytes o.own party v low (omega (arith, high, enough)) i))));
        }

    -- the next is faulty, and nothing is done
    pub faulty_entered : (party ≤ 64 → true ≡ named t.ring.faulty party) → Entered o party t w
    faulty_entered h =
        record {
          few = high;
          lent = e.lent;
          ring = up_to_faulty o.kind (plan o) (ring_over o o.first o.wire) party (ring_over o t w) low e.ring (sym (h small ∙ ap (λ r. named r.faulty party) e.lent.0));
        }
