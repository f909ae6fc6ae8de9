-- The calls on a ring: what each answers, what it leaves, what it posts and what it loses.
use Rattle.std.specs.Prelude.{◌≡◌, ℕ, zero, suc, ◌*◌, ◌/◌, ◌%◌, ◌^◌, Bool, false, cond, ◌&&◌, ◌||◌, List, [], ◌∷◌, ◌++◌, length, Ok, Err, Result, ◌==◌, nat_le, nat_lt, slice_index_or}
use Rattle.messages.specs.Messages.{Msg, last_view, in_range}
use Rattle.rules.specs.Counting.{count, upd}
use Rattle.rules.specs.Party.{Step, none}
use Rattle.rules.specs.Thresholds.{sizes_fit}
use Rattle.rules.specs.Bounds.{every}
use Rattle.rules.specs.Step.{newcomer, enter, step, on_timer}
use Rattle.agreement.specs.Ring.{Kind, Ring, Shown, setting, in_ring, honest, room, step_room, shown}

-- an answer: the number of posts, what show tells, or the number of a refusal
pub data Answer : Type 0 where
  said : ℕ → Answer
  told : Shown → Answer
  refused : ℕ → Answer

pub record Outcome : Type 0 where
  pub after : Ring
  pub answer : Answer
  -- what the call added to the wire, and what it took out for good
  pub posted : List Msg
  pub lost : List Msg

-- a call that comes to this outcome gives its answer and leaves its ring
pub record Gives (o : Outcome) (a : Answer) (s : Ring) : Type 0 where
  pub answer : a ≡ o.answer
  pub after : s ≡ o.after

-- a refusal touches nothing
abbrev pub refuse : Ring → ℕ → Outcome
refuse s number = record { after = s; answer = refused number; posted = []; lost = [] }

abbrev pub with_wire : Ring → List Msg → Ring
with_wire s w =
    record { n = s.n; f = s.f; faulty = s.faulty; parties = s.parties; records = s.records; rows = s.rows; wire = w; capacity = s.capacity }

-- party i has taken a step over the wire w
abbrev pub stepped : Ring → ℕ → List Msg → Step → Outcome
stepped s i w r =
    record {
      after = record {
        n = s.n;
        f = s.f;
        faulty = s.faulty;
        parties = upd s.parties i r.after;
        records = s.records;
        rows = s.rows;
        wire = w ++ r.posts;
        capacity = s.capacity;
      };
      answer = said (length r.posts);
      posted = r.posts;
      lost = [];
    }

module _ (k : Kind) where
  -- ## Hand and repeat
  -- a message reaches its receiver; a faulty one does nothing with it
  abbrev pub deliver : Ring → Msg → List Msg → Outcome
  deliver s m w =
      cond (s.faulty m.to) (record { after = with_wire s w; answer = said 0; posted = []; lost = [] })
      (stepped s m.to w (step (setting k s) m.to (s.parties m.to) m))

  abbrev pub bring : Ring → Msg → List Msg → Outcome
  bring s m w =
      cond (in_ring s m.from && in_ring s m.to) (cond (nat_le (step_room s.n) (room s)) (deliver s m w) (refuse s 10)) (refuse s 2)

  abbrev pub bring_found : Ring → Result Msg ℕ → List Msg → Outcome
  bring_found s (Ok m) w = bring s m w
  bring_found s (Err number) w = refuse s number

  -- ## Lose
  abbrev pub lose_found : Ring → Result Msg ℕ → List Msg → Outcome
  lose_found s (Ok m) w = record { after = with_wire s w; answer = said 0; posted = []; lost = m ∷ [] }
  lose_found s (Err number) w = refuse s number

  -- ## Send
  abbrev pub send_message : Ring → Msg → Outcome
  send_message s m =
      cond (in_ring s m.from && in_ring s m.to)
      (cond (s.faulty m.from)
      (cond (in_range k.valid k.width m)
      (cond (nat_le 1 (room s)) (record { after = with_wire s (s.wire ++ (m ∷ [])); answer = said 1; posted = m ∷ []; lost = [] })
      (refuse s 10))
      (refuse s 6))
      (refuse s 3))
      (refuse s 2)

  -- ## Timer
  -- of an honest party: refused once it has decided, in the last view, or with too little room
  abbrev pub timed : Ring → ℕ → Outcome
  timed s i =
      cond (none (s.parties i).rec.decision)
      (cond (nat_lt (s.parties i).rec.view last_view)
      (cond (nat_le (step_room s.n) (room s)) (stepped s i s.wire (on_timer (setting k s) i (s.parties i))) (refuse s 10))
      (refuse s 13))
      (refuse s 12)

  abbrev pub ring_timer : Ring → ℕ → Outcome
  ring_timer s i =
      cond (in_ring s i)
      (cond (s.faulty i) (refuse s 3)
      (cond (none (s.parties i).rec.decision)
      (cond (nat_lt (s.parties i).rec.view last_view)
      (cond (nat_le (step_room s.n) (room s)) (stepped s i s.wire (on_timer (setting k s) i (s.parties i))) (refuse s 10))
      (refuse s 13))
      (refuse s 12)))
      (refuse s 2)

  -- ## Show
  abbrev pub ring_show : Ring → ℕ → Outcome
  ring_show s i =
      cond (in_ring s i) (record { after = s; answer = told (shown k s i); posted = []; lost = [] }) (refuse s 2)

-- ## Set-up
-- a word of 64 bits names the faulty parties: bit j - 1 is party j
abbrev pub named : ℕ → ℕ → Bool
named word zero = false
named word (suc j) = word / 2 ^ j % 2 == 1

-- the own value of party j, of a list by party
abbrev pub own_of : List (List ℕ) → ℕ → List ℕ
own_of own zero = []
own_of own (suc j) = slice_index_or own j []

-- what set-up is given
pub record Plan : Type 0 where
  pub n : ℕ
  pub f : ℕ
  pub word : ℕ
  pub own : List (List ℕ)

module _ (k : Kind) where
  -- a ring of the plan's size over the same tables and the same wire
  abbrev pub planned : Plan → Ring → Ring
  planned p s =
      record {
        n = p.n;
        f = p.f;
        faulty = named p.word;
        parties = s.parties;
        records = s.records;
        rows = s.rows;
        wire = s.wire;
        capacity = s.capacity;
      }

  -- the first step of party i: it enters view 1
  abbrev pub first_step : Plan → Ring → ℕ → Step
  first_step p s i = enter (setting k (planned p s)) i (newcomer (own_of p.own i)) 1

  -- the posts of the honest parties from 1 to i, in rising order
  unfoldable pub first_posts : Plan → Ring → ℕ → List Msg
  first_posts p s zero = []
  first_posts p s (suc i) = first_posts p s i ++ cond (named p.word (suc i)) [] (first_step p s (suc i)).posts

  abbrev pub set_up_done : Plan → Ring → Outcome
  set_up_done p s =
      record {
        after = record {
          n = p.n;
          f = p.f;
          faulty = named p.word;
          parties = λ i. cond (honest (planned p s) i) (first_step p s i).after (s.parties i);
          records = s.records;
          rows = s.rows;
          wire = s.wire ++ first_posts p s p.n;
          capacity = s.capacity;
        };
        answer = said 0;
        posted = first_posts p s p.n;
        lost = [];
      }

  -- every own value of an honest party is allowed
  abbrev pub own_allowed : Plan → Bool
  own_allowed p = every (λ i. named p.word i || k.allows (own_of p.own i)) p.n

  abbrev pub places_enough : Plan → Ring → Bool
  places_enough p s = nat_le p.n (length p.own) && (nat_le p.n s.records && nat_le (p.n * p.n) s.rows)

  unfoldable pub set_up : Plan → Ring → Outcome
  set_up p s =
      cond (sizes_fit p.n p.f)
      (cond (nat_lt p.word (2 ^ p.n))
      (cond (nat_le (count (named p.word) p.n) p.f)
      (cond (places_enough p s)
      (cond (own_allowed p)
      (cond (length s.wire == 0)
      (cond (nat_le (p.n * p.n) (room s)) (set_up_done p s) (refuse s 10))
      (refuse s 11))
      (refuse s 5))
      (refuse s 4))
      (refuse s 3))
      (refuse s 2))
      (refuse s 1)
