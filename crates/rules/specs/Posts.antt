-- The messages of a party, and to whom they go.
use Rattle.std.specs.Prelude.{ℕ, zero, suc, Bool, true, cond, List, [], ◌∷◌, ◌++◌, replicate, Some, None, Option, ◌==◌, nat_eq}
use Rattle.messages.specs.Messages.{Msg}
use Rattle.rules.specs.Party.{Setting, Keyed, Suggest, Proof, Proposal, nothing, waiting, echoed, dropped, Record, Party}
use Rattle.rules.specs.Thresholds.{primary}

-- one message to each party from 1 to k that passes the test, in rising order
unfoldable pub to_each : (ℕ → Bool) → (ℕ → Msg) → ℕ → List Msg
to_each who what zero = []
to_each who what (suc k) = to_each who what k ++ cond (who (suc k)) (what (suc k) ∷ []) []

module _ (g : Setting) (me : ℕ) where
  abbrev pub blank : List ℕ
  blank = replicate g.width 0

  -- a message that uses the view alone: a request or an abort
  abbrev pub view_msg : ℕ → ℕ → ℕ → Msg
  view_msg kind v to =
      record { kind = kind; from = me; to = to; view = v; key = 0; value = blank; second_key = 0; second_value = blank; previous = Some 0 }

  abbrev pub suggest_msg : ℕ → Suggest → ℕ → Msg
  suggest_msg v s to =
      record {
        kind = 2;
        from = me;
        to = to;
        view = v;
        key = s.key3.at;
        value = s.key3.value;
        second_key = s.key2.at;
        second_value = s.key2.value;
        previous = s.previous;
      }

  abbrev pub proof_msg : ℕ → Proof → ℕ → Msg
  proof_msg v p to =
      record {
        kind = 3;
        from = me;
        to = to;
        view = v;
        key = p.key1.at;
        value = p.key1.value;
        second_key = 0;
        second_value = blank;
        previous = p.previous;
      }

  abbrev pub propose_msg : ℕ → Keyed → ℕ → Msg
  propose_msg v k to =
      record { kind = 4; from = me; to = to; view = v; key = k.at; value = k.value; second_key = 0; second_value = blank; previous = Some 0 }

  -- echo, key1, key2, key3 and lock; done with view 0
  abbrev pub vote_msg : ℕ → ℕ → List ℕ → ℕ → Msg
  vote_msg kind v x to =
      record { kind = kind; from = me; to = to; view = v; key = 0; value = x; second_key = 0; second_value = blank; previous = Some 0 }

  -- to send: to all, the party itself included
  abbrev pub to_all : (ℕ → Msg) → List Msg
  to_all m = to_each (λ _. true) m g.n

  -- to make: to each party whose highest request equals the view
  abbrev pub to_joined : Party → (ℕ → Msg) → List Msg
  to_joined p m = to_each (λ j. nat_eq (p.rows j).request p.rec.view) m g.n

  -- ## The messages made in the view, as they go to a party that asks for it later
  abbrev pub made_offer : ℕ → Option Keyed → ℕ → List Msg
  made_offer v None to = []
  made_offer v (Some k) to = propose_msg v k to ∷ []

  abbrev pub made_echo : ℕ → Proposal → ℕ → List Msg
  made_echo v nothing to = []
  made_echo v (waiting x) to = []
  made_echo v (echoed x) to = vote_msg 5 v x to ∷ []
  made_echo v dropped to = []

  -- key1, key2, key3 or lock was made in this view exactly if that field is the view
  abbrev pub made_vote : ℕ → Record → ℕ → List Msg
  made_vote kind r to = cond ((r.field kind).at == r.view) (vote_msg kind r.view (r.field kind).value to ∷ []) []

  -- all of them, by rising kind
  unfoldable pub made : Record → ℕ → List Msg
  made r to =
      proof_msg r.view r.proof to ∷ (made_offer r.view r.offer to ++ (made_echo r.view r.proposal to ++
      (made_vote 6 r to ++ (made_vote 7 r to ++ (made_vote 8 r to ++ made_vote 9 r to)))))

  -- the suggest goes to the primary of the view alone
  abbrev pub suggest_to : Record → ℕ → List Msg
  suggest_to r to = cond (to == primary g r.view) (suggest_msg r.view r.suggest to ∷ []) []
