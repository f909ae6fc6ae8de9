-- The rules of one step: a party takes in one message, or its timer, and leaves a record, rows and posts in order.
use Rattle.std.specs.Prelude.{ℕ, suc, max, Bool, cond, not, ◌&&◌, ◌||◌, List, [], ◌∷◌, ◌++◌, Some, None, Option, ◌==◌, nat_le, nat_lt}
use Rattle.values.specs.Same.{equal}
use Rattle.messages.specs.Messages.{Msg, between}
use Rattle.rules.specs.Counting.{upd}
use Rattle.rules.specs.Party.{Setting, Keyed, Suggest, Proposal, nothing, waiting, echoed, dropped, Record, Row, Party, Step, with_field, with_decision, with_done, with_offer, with_proposal, with_request, with_abort, with_told, with_suggest, with_proof, with_vote, cleared, with_rec, with_row, still, and_then, none}
use Rattle.rules.specs.Thresholds.{primary, quorum, vouched, reached}
use Rattle.rules.specs.Posts.{view_msg, suggest_msg, proof_msg, propose_msg, vote_msg, to_all, to_joined, made, suggest_to}
use Rattle.rules.specs.Tests.{lock_opened, accepted, voted, done_vouched, done_agreed, best, heeded}

module _ (g : Setting) (me : ℕ) where
  -- ## Entering a view
  -- the contents of suggest and proof are fixed here, from what the earlier views left
  abbrev pub entered : Record → ℕ → Record
  entered r v =
      record {
        view = v;
        field = r.field;
        previous = r.previous;
        decision = r.decision;
        done = r.done;
        suggest = record { key3 = r.field 8; key2 = r.field 7; previous = r.previous 7 };
        proof = record { key1 = r.field 6; previous = r.previous 6 };
        offer = None;
        proposal = nothing;
      }

  -- request to all, suggest to a primary that has asked for this view, proof to each party that has
  unfoldable pub enter : Party → ℕ → Step
  enter p v =
      let q : Party = record { rec = entered p.rec v; rows = λ j. cleared (p.rows j) } in
      record {
        after = q;
        posts = to_all g me (view_msg g me 1 v) ++
            (cond ((p.rows (primary g v)).request == v) (suggest_msg g me v q.rec.suggest (primary g v) ∷ []) [] ++
            to_joined g me q (proof_msg g me v q.rec.proof));
      }

  -- ## Request: the sender gets what was made in the view it asks for
  unfoldable pub on_request : Party → Msg → Step
  on_request p m =
      record {
        after = with_row p m.from (with_request (p.rows m.from) m.view);
        posts = cond (m.view == p.rec.view) (suggest_to g me p.rec m.from ++ made g me p.rec m.from) [];
      }

  -- ## Suggest: the primary proposes once a quorum of suggests is accepted
  abbrev pub told_suggest : Party → Msg → Party
  told_suggest p m =
      with_row p m.from
      (with_suggest (p.rows m.from)
      (record {
        key3 = record { at = m.key; value = m.value };
        key2 = record { at = m.second_key; value = m.second_value };
        previous = m.previous;
      }))

  abbrev pub propose : Party → Option Suggest → Step
  propose p None = still p
  propose p (Some s) =
      record {
        after = with_rec p (with_offer p.rec s.key3);
        posts = to_joined g me p (propose_msg g me p.rec.view s.key3);
      }

  -- propose is due: none was made in this view, and the accepted suggests form a quorum
  abbrev pub propose_due : Party → Bool
  propose_due p = none p.rec.offer && quorum g (λ j. accepted g p j)

  unfoldable pub on_suggest : Party → Msg → Step
  on_suggest p m =
      let q : Party = told_suggest p m in
      cond (propose_due q) (propose q (best g q g.n)) (still q)

  -- ## Echo, and a proposal that waits for it
  abbrev pub echo : Party → List ℕ → Step
  echo p x =
      record {
        after = with_rec p (with_proposal p.rec (echoed x));
        posts = to_joined g me p (vote_msg g me 5 p.rec.view x);
      }

  -- a waiting proposal is echoed once a voucher of proofs opens the lock, or the lock is on its value
  abbrev pub wake_proposal : Proposal → Party → Step
  wake_proposal nothing p = still p
  wake_proposal (waiting x) p = cond (equal (p.rec.field 9).value x || lock_opened g p) (echo p x) (still p)
  wake_proposal (echoed x) p = still p
  wake_proposal dropped p = still p

  unfoldable pub wake : Party → Step
  wake p = wake_proposal p.rec.proposal p

  -- ## Propose
  -- no lock, or the lock's own value
  abbrev pub lock_fits : Record → List ℕ → Bool
  lock_fits r x = (r.field 9).at == 0 || equal (r.field 9).value x

  abbrev pub may_wait : Record → ℕ → Bool
  may_wait r key = nat_le (r.field 9).at key && nat_lt key r.view

  unfoldable pub on_propose : Party → Msg → Step
  on_propose p m =
      cond (not (g.allows m.value)) (still (with_rec p (with_proposal p.rec dropped)))
      (cond (lock_fits p.rec m.value) (echo p m.value)
      (cond (may_wait p.rec m.key) (wake (with_rec p (with_proposal p.rec (waiting m.value))))
      (still (with_rec p (with_proposal p.rec dropped)))))

  -- ## Proof
  abbrev pub told_proof : Party → Msg → Party
  told_proof p m =
      with_row p m.from (with_proof (p.rows m.from) (record { key1 = record { at = m.key; value = m.value }; previous = m.previous }))

  unfoldable pub on_proof : Party → Msg → Step
  on_proof p m = wake (told_proof p m)

  -- ## Echo, key1, key2, key3: a quorum for one value moves the next field to the view
  abbrev pub told_vote : Party → Msg → Party
  told_vote p m = with_row p m.from (with_vote (p.rows m.from) m.kind m.value)

  -- key1 and key2 keep the key of the last other value
  abbrev pub keeps_previous : ℕ → Bool
  keeps_previous kind = nat_le kind 7

  abbrev pub moved : Record → ℕ → List ℕ → Record
  moved r kind x =
      with_field r (upd r.field kind (record { at = r.view; value = x }))
      (cond (keeps_previous kind && not (equal (r.field kind).value x)) (upd r.previous kind (Some (r.field kind).at)) r.previous)

  -- the field of this kind moves to the view, and is announced
  abbrev pub announce : Party → ℕ → List ℕ → Step
  announce p kind x =
      record { after = with_rec p (moved p.rec kind x); posts = to_joined g me p (vote_msg g me kind p.rec.view x) }

  abbrev pub announce_due : Party → ℕ → List ℕ → Bool
  announce_due p kind x = voted g p kind x && nat_lt (p.rec.field (suc kind)).at p.rec.view

  unfoldable pub on_vote : Party → Msg → Step
  on_vote p m =
      let q : Party = told_vote p m in
      cond (announce_due q m.kind m.value) (announce q (suc m.kind) m.value) (still q)

  -- ## Lock and done
  abbrev pub say_done : Party → List ℕ → Step
  say_done p x = record { after = with_rec p (with_done p.rec x); posts = to_all g me (vote_msg g me 10 0 x) }

  unfoldable pub on_lock : Party → Msg → Step
  on_lock p m =
      let q : Party = told_vote p m in
      cond (none q.rec.done && voted g q 9 m.value) (say_done q m.value) (still q)

  abbrev pub told_done : Party → Msg → Party
  told_done p m = with_row p m.from (with_told (p.rows m.from) m.value)

  abbrev pub join_done : Party → List ℕ → Step
  join_done p x = cond (none p.rec.done && done_vouched g p x) (say_done p x) (still p)

  abbrev pub decide : List ℕ → Party → Step
  decide x p = cond (done_agreed g p x) (still (with_rec p (with_decision p.rec x))) (still p)

  unfoldable pub on_done : Party → Msg → Step
  on_done p m = and_then (join_done (told_done p m) m.value) (decide m.value)

  -- ## Abort and timer
  abbrev pub aborts : Party → ℕ → ℕ
  aborts p j = (p.rows j).abort

  -- the own entry is raised to v, and all are told
  abbrev pub say_abort : Party → ℕ → Step
  say_abort p v = record { after = with_row p me (with_abort (p.rows me) v); posts = to_all g me (view_msg g me 11 v) }

  -- follow what a voucher has reached
  unfoldable pub join_abort : Party → Step
  join_abort p = cond (nat_lt (aborts p me) (vouched g (aborts p))) (say_abort p (vouched g (aborts p))) (still p)

  -- leave the view once a quorum has given it up
  unfoldable pub leave : Party → Step
  leave p = cond (nat_le p.rec.view (reached g (aborts p))) (enter p (suc (reached g (aborts p)))) (still p)

  unfoldable pub on_abort : Party → Msg → Step
  on_abort p m =
      and_then (join_abort (with_row p m.from (with_abort (p.rows m.from) (max (p.rows m.from).abort m.view)))) leave

  unfoldable pub on_timer : Party → Step
  on_timer p = and_then (cond (nat_lt (aborts p me) p.rec.view) (say_abort p p.rec.view) (still p)) leave

  -- ## One message
  abbrev pub react : Party → Msg → Step
  react p m =
      cond (m.kind == 1) (on_request p m)
      (cond (m.kind == 2) (on_suggest p m)
      (cond (m.kind == 3) (on_proof p m)
      (cond (m.kind == 4) (on_propose p m)
      (cond (nat_le m.kind 7) (on_vote p m)
      (cond (m.kind == 8) (and_then (on_vote p m) wake)
      (cond (m.kind == 9) (on_lock p m)
      (cond (m.kind == 10) (on_done p m) (on_abort p m))))))))

  unfoldable pub step : Party → Msg → Step
  step p m = cond (heeded g me p m) (react p m) (still p)

-- ## A party at set-up, before it enters view 1
abbrev pub empty_row : Row
empty_row = record { request = 0; abort = 0; done = None; suggest = None; proof = None; vote = λ _. None }

-- a field by its kind, never kept yet; other kinds have none
abbrev pub first_field : List ℕ → ℕ → Keyed
first_field own kind = cond (between 6 9 kind) (record { at = 0; value = own }) (record { at = 0; value = [] })

abbrev pub newcomer : List ℕ → Party
newcomer own =
    record {
      rec = record {
        view = 1;
        field = first_field own;
        previous = λ _. None;
        decision = None;
        done = None;
        suggest = record { key3 = record { at = 0; value = own }; key2 = record { at = 0; value = own }; previous = None };
        proof = record { key1 = record { at = 0; value = own }; previous = None };
        offer = None;
        proposal = nothing;
      };
      rows = λ _. empty_row;
    }
