-- What the counts are worth: runs in which all decide, and a step for each count that the count shuts out.
use Rattle.std.specs.Prelude.{◌≡◌, ℕ, zero, suc, ◌*◌, ◌≤◌, false, cond, List, [], ◌∷◌, ◌++◌}
use Rattle.octets.specs.Bytes.{be}
use Rattle.values.specs.Blocks.{block_valid, block_allows}
use Rattle.messages.specs.Messages.{Msg}
use Rattle.rules.specs.Party.{Step, with_rec, with_decision}
use Rattle.rules.specs.Posts.{vote_msg}
use Rattle.rules.specs.Step.{newcomer}
use Rattle.agreement.specs.Ring.{Kind, Ring, is_decided, setting, honest, shown}
use Rattle.agreement.specs.Calls.{said, refused, Plan, named, planned, first_step, set_up}
use Rattle.agreement.specs.Runs.{Call, hand, send, Shift, call, begun, shift}
use Rattle.agreement.specs.Counts.{SaidOnce, Decided, NobodyLeft}

-- blocks as a kind of value
abbrev pub block : Kind
block = record { width = 14; valid = block_valid; allows = block_allows }

-- the bytes of a block: its first number, its count and its party
abbrev pub block_of : ℕ → ℕ → ℕ → List ℕ
block_of first count party = be 8 first ++ (be 4 count ++ be 2 party)

-- two blocks that are allowed
abbrev pub one_block : List ℕ
one_block = block_of 100 50 1

abbrev pub other_block : List ℕ
other_block = block_of 200 50 2

-- a ring before set-up, with places for n parties and room for a thousand messages
abbrev pub unused : ℕ → Ring
unused n =
    record {
      n = 0;
      f = 0;
      faulty = λ _. false;
      parties = λ _. newcomer [];
      records = n;
      rows = n * n;
      wire = [];
      capacity = 1000;
    }

-- ## A ring of one decides
-- one honest party, and its own value
abbrev pub alone : Plan
alone = record { n = 1; f = 0; word = 0; own = one_block ∷ [] }

-- the first waiting message is handed over, k times
abbrev pub hands : ℕ → List Call
hands zero = []
hands (suc k) = hand 0 ∷ hands k

-- the shift of the lone party after k hands
abbrev pub alone_after : ℕ → Shift
alone_after k = shift block alone (unused 1) (hands k)

-- after ten hands it is decided on its own value, in view 1 and locked there; nothing waits, and an eleventh hand finds no message
pub record AloneDecides : Type 0 where
  pub begins : (set_up block alone (unused 1)).answer ≡ said 0
  pub decides : shown block (alone_after 10).ring 1 ≡ record { state = is_decided; view = 1; lock = 1; value = one_block }
  pub nothing_waits : (alone_after 10).ring.wire ≡ []
  pub eleventh : (call block (alone_after 10).ring (hand 0)).answer ≡ refused 9

-- ## Four decide though one lies
-- parties 1 to 3 are honest and want different blocks, party 4 is faulty
abbrev pub four : Plan
four = record { n = 4; f = 1; word = 8; own = one_block ∷ other_block ∷ one_block ∷ [] ∷ [] }

-- party 4 tells party j that the other block is done
abbrev pub lie_to : ℕ → Call
lie_to j = send (vote_msg (setting block (unused 4)) 4 10 0 other_block j)

-- the shift after its lies and k hands
abbrev pub four_after : ℕ → Shift
four_after k = shift block four (unused 4) (lie_to 1 ∷ lie_to 2 ∷ lie_to 3 ∷ hands k)

-- once everything is handed over, the honest three are decided on one block
pub record FourDecide : Type 0 where
  pub begins : (set_up block four (unused 4)).answer ≡ said 0
  pub decided : (i : ℕ) → 1 ≤ i → i ≤ 3 → Decided block (four_after 87).ring i one_block
  pub nothing_waits : (four_after 87).ring.wire ≡ []

-- ## Steps that the counts shut out
-- n honest parties; 1 and 2 want different blocks
abbrev pub honest_plan : ℕ → Plan
honest_plan n = record { n = n; f = 0; word = 0; own = one_block ∷ other_block ∷ [] }

-- the first step of party i of n, changed by `turn`
abbrev pub first_turned : (Step → Step) → ℕ → ℕ → Step
first_turned turn n i = turn (first_step block (honest_plan n) (unused n) i)

-- what the parties from 1 to i have then posted
abbrev pub posts_turned : (Step → Step) → ℕ → ℕ → List Msg
posts_turned turn n zero = []
posts_turned turn n (suc i) = posts_turned turn n i ++ (first_turned turn n (suc i)).posts

-- the shift in which each party has taken its first step so changed
abbrev pub begun_turned : (Step → Step) → ℕ → Shift
begun_turned turn n =
    record {
      ring = record {
        n = n;
        f = 0;
        faulty = named 0;
        parties = λ i. cond (honest (planned block (honest_plan n) (unused n)) i) (first_turned turn n i).after ((unused n).parties i);
        records = n;
        rows = n * n;
        wire = posts_turned turn n n;
        capacity = 1000;
      };
      posted = posts_turned turn n n;
      lost = [];
    }

-- with nothing changed it is the shift that set-up begins
abbrev pub AsBegun : ℕ → Type 0
AsBegun n = begun_turned (λ s. s) n ≡ begun block (honest_plan n) (unused n)

-- decide the own value at once
abbrev pub hasty : Step → Step
hasty s = record { after = with_rec s.after (with_decision s.after.rec (s.after.rec.field 9).value); posts = s.posts }

-- post nothing
abbrev pub mute : Step → Step
mute s = record { after = s.after; posts = [] }

-- post everything twice
abbrev pub stutter : Step → Step
stutter s = record { after = s.after; posts = s.posts ++ s.posts }

-- what the count of one value says of a single point of a shift
abbrev pub OneValueNow : Ring → Type 0
OneValueNow s = (i j : ℕ) (x y : List ℕ) → Decided block s i x → Decided block s j y → x ≡ y

-- two parties that decide at once have two values
abbrev pub HastyShutOut : Type 0
HastyShutOut = OneValueNow (begun_turned hasty 2).ring → ⊥

-- with a party that posts nothing nothing waits, yet it is undecided
abbrev pub MuteShutOut : Type 0
MuteShutOut = NobodyLeft block (begun_turned mute 1) → ⊥

-- a party that posts twice has sent itself two requests for view 1
abbrev pub StutterShutOut : Type 0
StutterShutOut = SaidOnce (begun_turned stutter 1) → ⊥
