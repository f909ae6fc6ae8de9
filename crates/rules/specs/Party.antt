-- What a party keeps: its record, and a row for each sender. A value is its list of bytes.
use Rattle.std.specs.Prelude.{ℕ, Bool, true, false, List, [], ◌++◌, Some, None, Option}
use Rattle.messages.specs.Messages.{Msg}
use Rattle.rules.specs.Counting.{upd}

-- what is fixed for a whole shift: how many parties, how many may lie, the width of a value and which are allowed
pub record Setting : Type 0 where
  pub n : ℕ
  pub f : ℕ
  pub width : ℕ
  pub allows : List ℕ → Bool

-- a view with the value that was kept in it; view 0 stands for never
pub record Keyed : Type 0 where
  pub at : ℕ
  pub value : List ℕ

-- the contents of a suggest: key3 and key2 with their values, and the previous key2 (None is -1)
pub record Suggest : Type 0 where
  pub key3 : Keyed
  pub key2 : Keyed
  pub previous : Option ℕ

-- the contents of a proof: key1 with its value, and the previous key1 (None is -1)
pub record Proof : Type 0 where
  pub key1 : Keyed
  pub previous : Option ℕ

-- the proposal of the present view; a waiting one keeps its value, and so does an echoed one, whose echo was made
pub data Proposal : Type 0 where
  nothing : Proposal
  waiting : List ℕ → Proposal
  echoed : List ℕ → Proposal
  dropped : Proposal

pub record Record : Type 0 where
  pub view : ℕ
  -- by the kind of the message that announces it: 6 key1, 7 key2, 8 key3, 9 lock
  pub field : ℕ → Keyed
  -- the previous key1 (6) and the previous key2 (7); None is -1
  pub previous : ℕ → Option ℕ
  pub decision : Option (List ℕ)
  -- the value of the one done that was sent
  pub done : Option (List ℕ)
  -- fixed on entering the view
  pub suggest : Suggest
  pub proof : Proof
  -- the key and value of the propose that was made in this view
  pub offer : Option Keyed
  pub proposal : Proposal

-- what is kept of one sender; all but the first three is of the present view
pub record Row : Type 0 where
  pub request : ℕ
  pub abort : ℕ
  pub done : Option (List ℕ)
  pub suggest : Option Suggest
  pub proof : Option Proof
  -- by kind: 5 echo, 6 key1, 7 key2, 8 key3, 9 lock
  pub vote : ℕ → Option (List ℕ)

pub record Party : Type 0 where
  pub rec : Record
  pub rows : ℕ → Row

-- what a step leaves, and what it posts, in order
pub record Step : Type 0 where
  pub after : Party
  pub posts : List Msg

-- ## One part changed, the rest kept
abbrev pub with_field : Record → (ℕ → Keyed) → (ℕ → Option ℕ) → Record
with_field r k p =
    record {
      view = r.view;
      field = k;
      previous = p;
      decision = r.decision;
      done = r.done;
      suggest = r.suggest;
      proof = r.proof;
      offer = r.offer;
      proposal = r.proposal;
    }

abbrev pub with_decision : Record → List ℕ → Record
with_decision r x =
    record {
      view = r.view;
      field = r.field;
      previous = r.previous;
      decision = Some x;
      done = r.done;
      suggest = r.suggest;
      proof = r.proof;
      offer = r.offer;
      proposal = r.proposal;
    }

abbrev pub with_done : Record → List ℕ → Record
with_done r x =
    record {
      view = r.view;
      field = r.field;
      previous = r.previous;
      decision = r.decision;
      done = Some x;
      suggest = r.suggest;
      proof = r.proof;
      offer = r.offer;
      proposal = r.proposal;
    }

abbrev pub with_offer : Record → Keyed → Record
with_offer r k =
    record {
      view = r.view;
      field = r.field;
      previous = r.previous;
      decision = r.decision;
      done = r.done;
      suggest = r.suggest;
      proof = r.proof;
      offer = Some k;
      proposal = r.proposal;
    }

abbrev pub with_proposal : Record → Proposal → Record
with_proposal r x =
    record {
      view = r.view;
      field = r.field;
      previous = r.previous;
      decision = r.decision;
      done = r.done;
      suggest = r.suggest;
      proof = r.proof;
      offer = r.offer;
      proposal = x;
    }

abbrev pub with_request : Row → ℕ → Row
with_request r v = record { request = v; abort = r.abort; done = r.done; suggest = r.suggest; proof = r.proof; vote = r.vote }

abbrev pub with_abort : Row → ℕ → Row
with_abort r v = record { request = r.request; abort = v; done = r.done; suggest = r.suggest; proof = r.proof; vote = r.vote }

abbrev pub with_told : Row → List ℕ → Row
with_told r x = record { request = r.request; abort = r.abort; done = Some x; suggest = r.suggest; proof = r.proof; vote = r.vote }

abbrev pub with_suggest : Row → Suggest → Row
with_suggest r s = record { request = r.request; abort = r.abort; done = r.done; suggest = Some s; proof = r.proof; vote = r.vote }

abbrev pub with_proof : Row → Proof → Row
with_proof r p = record { request = r.request; abort = r.abort; done = r.done; suggest = r.suggest; proof = Some p; vote = r.vote }

abbrev pub with_vote : Row → ℕ → List ℕ → Row
with_vote r k x = record { request = r.request; abort = r.abort; done = r.done; suggest = r.suggest; proof = r.proof; vote = upd r.vote k (Some x) }

-- a row without what belongs to a view
abbrev pub cleared : Row → Row
cleared r = record { request = r.request; abort = r.abort; done = r.done; suggest = None; proof = None; vote = λ _. None }

abbrev pub with_rec : Party → Record → Party
with_rec p r = record { rec = r; rows = p.rows }

abbrev pub with_row : Party → ℕ → Row → Party
with_row p j r = record { rec = p.rec; rows = upd p.rows j r }

-- ## Steps
-- nothing changes, nothing is posted
abbrev pub still : Party → Step
still p = record { after = p; posts = [] }

-- one step and then another, their posts in this order
abbrev pub and_then : Step → (Party → Step) → Step
and_then s next = record { after = (next s.after).after; posts = s.posts ++ (next s.after).posts }

abbrev pub none : {X : Type 0} → Option X → Bool
none None = true
none (Some x) = false
