-- What is posted between honest parties is waiting, lost or taken in; what is made goes to all that have asked for the view.
use Rattle.std.proofs.Common.{◌≡◌, ℕ, ◌≤◌, Bool, true, false, ◌⊎◌, List, Some}
use Rattle.messages.specs.Messages.{Msg}
use Rattle.rules.specs.Party.{Setting, Keyed, Party}
use Rattle.rules.specs.Thresholds.{primary}
use Rattle.rules.specs.Posts.{view_msg, suggest_msg, proof_msg, propose_msg, vote_msg}
use Rattle.rules.specs.Tests.{heeded}
use Rattle.agreement.proofs.History.{said_now}
use Rattle.agreement.proofs.Mail.{In}

-- what party j, now q, has posted to party i so far
pub record Sent (g : Setting) (posted : List Msg) (j : ℕ) (q : Party) (i : ℕ) : Type 0 where
  pub request : In (view_msg g j 1 q.rec.view i) posted
  pub done : (x : List ℕ) → q.rec.done ≡ Some x → In (vote_msg g j 10 0 x i) posted
  -- what was made in the view has gone to i if i has asked for this view
  pub vote : (kind : ℕ) (x : List ℕ) → 5 ≤ kind → kind ≤ 9 → (q.rows i).request ≡ q.rec.view → said_now q.rec kind ≡ Some x →
      In (vote_msg g j kind q.rec.view x i) posted
  pub proof : (q.rows i).request ≡ q.rec.view → In (proof_msg g j q.rec.view q.rec.proof i) posted
  pub suggest : (q.rows i).request ≡ q.rec.view → i ≡ primary g q.rec.view → In (suggest_msg g j q.rec.view q.rec.suggest i) posted
  pub propose : (k : Keyed) → (q.rows i).request ≡ q.rec.view → q.rec.offer ≡ Some k → In (propose_msg g j q.rec.view k i) posted

module _ (g : Setting) (hon : ℕ → Bool) (party : ℕ → Party) (posted wire lost : List Msg) where
  -- a message that party i will not take in any more, or has taken in already
  abbrev pub Spent : Msg → Type 0
  Spent m = heeded g m.to (party m.to) m ≡ false

  pub record Delivery : Type 0 where
    pub sent : (j i : ℕ) → hon j ≡ true → 1 ≤ i → i ≤ g.n → Sent g posted j (party j) i
    pub fate : (m : Msg) → In m posted → hon m.from ≡ true → hon m.to ≡ true → 1 ≤ m.kind → m.kind ≤ 10 → In m wire ⊎ (In m lost ⊎ Spent m)
    -- a message of a view goes only to a party that has entered it
    pub entered : (m : Msg) → In m posted → hon m.from ≡ true → hon m.to ≡ true → 2 ≤ m.kind → m.kind ≤ 9 → m.view ≤ (party m.to).rec.view
    pub asked : (m : Msg) → In m posted → hon m.from ≡ true → m.kind ≡ 1 → m.view ≤ (party m.from).rec.view
    pub requests : (i j : ℕ) → hon i ≡ true → hon j ≡ true → ((party i).rows j).request ≤ (party j).rec.view
    pub known : (m : Msg) → In m wire → In m posted
