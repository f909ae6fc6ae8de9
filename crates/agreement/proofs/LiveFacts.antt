-- What the second count rests on, said of one state: parties with their logs.
use Rattle.std.proofs.Common.{◌≡◌, ℕ, suc, ◌<◌, ◌≤◌, Bool, true, false, not, ◌||◌, leb, ◌⊎◌, List, Some, None, Option}
use Rattle.values.specs.Same.{equal}
use Rattle.rules.specs.Party.{Setting, Keyed, Suggest, nothing, waiting, dropped, Record, Party, none}
use Rattle.rules.specs.Thresholds.{quorum, primary}
use Rattle.rules.specs.Tests.{opens, bears_out, bears_key, lock_opened, accepted, voted, done_vouched, done_agreed}
use Rattle.agreement.proofs.History.{Log, said_now}
use Rattle.agreement.proofs.Voices.{Voiced}

-- the highest key3 that a suggest names is at most k
abbrev pub suggests_to : ℕ → Option Suggest → Bool
suggests_to k None = false
suggests_to k (Some s) = leb s.key3.at k

-- ## What a party has drawn from its rows: every rule that begins with "once" has been followed
pub record Prompt (g : Setting) (p : Party) : Type 0 where
  pub vote : (kind : ℕ) (x : List ℕ) → 5 ≤ kind → kind ≤ 8 → voted g p kind x ≡ true → p.rec.view ≤ (p.rec.field (suc kind)).at
  pub lock : (x : List ℕ) → voted g p 9 x ≡ true → none p.rec.done ≡ false
  pub join : (x : List ℕ) → done_vouched g p x ≡ true → none p.rec.done ≡ false
  pub decide : (x : List ℕ) → done_agreed g p x ≡ true → none p.rec.decision ≡ false
  pub offer : quorum g (λ j. accepted g p j) ≡ true → none p.rec.offer ≡ false
  pub wait : (x : List ℕ) → p.rec.proposal ≡ waiting x →
      (0 < (p.rec.field 9).at) × (equal (p.rec.field 9).value x ≡ false) × (lock_opened g p ≡ false)
  pub ended : none p.rec.decision ≡ false → none p.rec.done ≡ false

-- ## What suggest and proof say of the views before their own
pub record Contents (g : Setting) (log : Log) (r : Record) : Type 0 where
  pub bears : (v : ℕ) (x : List ℕ) → v < r.view → log.said 7 v ≡ Some x → bears_out r.view (record { at = v; value = x }) r.suggest ≡ true
  pub opening : (v : ℕ) (x : List ℕ) (lock : Keyed) → v < r.view → log.said 6 v ≡ Some x → lock.at ≤ v → equal x lock.value ≡ false →
      opens r.view lock r.proof ≡ true
  pub allowed : r.suggest.key3.at ≡ 0 → g.allows r.suggest.key3.value ≡ true
  pub key3 : 0 < r.suggest.key3.at → log.said 8 r.suggest.key3.at ≡ Some r.suggest.key3.value
  pub before : r.suggest.key3.at < r.view
  pub latest : (v : ℕ) (x : List ℕ) → v < r.view → log.said 8 v ≡ Some x → v ≤ r.suggest.key3.at
  pub key2 : 0 < r.suggest.key2.at → log.said 7 r.suggest.key2.at ≡ Some r.suggest.key2.value
  pub previous : (q : ℕ) → r.suggest.previous ≡ Some q → 0 < q → (y : List ℕ) × (log.said 7 q ≡ Some y) × (equal y r.suggest.key2.value ≡ false)

-- ## The primary's choice
module _ (g : Setting) (hon : ℕ → Bool) (log : ℕ → Log) where
  -- what stands behind an offer of view v
  pub record Backed (v : ℕ) (k : Keyed) : Type 0 where
    pub allowed : g.allows k.value ≡ true
    pub before : k.at < v
    pub support : quorum g (λ j. not (hon j) || suggests_to k.at ((log j).suggested v)) ≡ true
    pub borne : 0 < k.at → (j : ℕ) × (hon j ≡ true) × (bears_key v k ((log j).suggested v) ≡ true)

  -- the value of an offer made by the primary of view v
  abbrev pub OfferOf : ℕ → List ℕ → Type 0
  OfferOf v x = (k : Keyed) × ((log (primary g v)).offered v ≡ Some k) × (k.value ≡ x)

  -- an offer that party i could not follow: not allowed, or against a lock that its key does not reach
  abbrev pub Unfit : ℕ → ℕ → Keyed → Type 0
  Unfit i v k =
      (g.allows k.value ≡ false) ⊎
      ((u : ℕ) × (z : List ℕ) × ((log i).said 9 u ≡ Some z) × (equal z k.value ≡ false) × ((k.at < u) ⊎ (v ≤ k.at)))

module _ (g : Setting) (hon : ℕ → Bool) (party : ℕ → Party) (log : ℕ → Log) where
  -- ## Of safety: the log agrees with the records, and a quorum stands behind every stage
  pub record Safe : Type 0 where
    pub now : (i kind : ℕ) → hon i ≡ true → 5 ≤ kind → kind ≤ 9 → (log i).said kind (party i).rec.view ≡ said_now (party i).rec kind
    pub later : (i kind v : ℕ) → hon i ≡ true → (party i).rec.view < v → (log i).said kind v ≡ None
    pub offered : (i : ℕ) → hon i ≡ true → (log i).offered (party i).rec.view ≡ (party i).rec.offer
    pub suggested : (i : ℕ) → hon i ≡ true → (log i).suggested (party i).rec.view ≡ Some (party i).rec.suggest
    pub proved : (i : ℕ) → hon i ≡ true → (log i).proved (party i).rec.view ≡ Some (party i).rec.proof
    pub field_at : (i kind : ℕ) → hon i ≡ true → 6 ≤ kind → kind ≤ 9 → ((party i).rec.field kind).at ≤ (party i).rec.view
    pub locked : (i : ℕ) → hon i ≡ true → 0 < ((party i).rec.field 9).at →
        (log i).said 9 ((party i).rec.field 9).at ≡ Some ((party i).rec.field 9).value
    pub why : (kind i v : ℕ) (x : List ℕ) → 5 ≤ kind → kind ≤ 8 → hon i ≡ true → (log i).said (suc kind) v ≡ Some x → Voiced g hon (λ j. (log j).said kind v) x
    pub allowed : (i v : ℕ) (x : List ℕ) → hon i ≡ true → (log i).said 5 v ≡ Some x → g.allows x ≡ true
    pub one_done : (i j : ℕ) (x y : List ℕ) → hon i ≡ true → hon j ≡ true → (party i).rec.done ≡ Some x → (party j).rec.done ≡ Some y → x ≡ y
    pub decided : (i : ℕ) (x : List ℕ) → hon i ≡ true → (party i).rec.decision ≡ Some x → Voiced g hon (λ j. (party j).rec.done) x

  -- what the rows of a party hold of an honest sender is what that sender has said
  pub record RowsSay (i j : ℕ) : Type 0 where
    pub vote : (kind : ℕ) → 5 ≤ kind → kind ≤ 9 → (((party i).rows j).vote kind ≡ None) ⊎ (((party i).rows j).vote kind ≡ (log j).said kind (party i).rec.view)
    pub proof : (((party i).rows j).proof ≡ None) ⊎ (((party i).rows j).proof ≡ (log j).proved (party i).rec.view)
    pub suggest : (((party i).rows j).suggest ≡ None) ⊎ (((party i).rows j).suggest ≡ (log j).suggested (party i).rec.view)
    pub done : (((party i).rows j).done ≡ None) ⊎ (((party i).rows j).done ≡ (party j).rec.done)

  -- ## What became of the primary's choice at the others
  pub record Offers : Type 0 where
    pub backed : (i v : ℕ) (k : Keyed) → hon i ≡ true → (log i).offered v ≡ Some k → Backed g hon log v k
    pub echo : (i v : ℕ) (x : List ℕ) → hon i ≡ true → hon (primary g v) ≡ true → (log i).said 5 v ≡ Some x → OfferOf g hon log v x
    pub wait : (i : ℕ) (x : List ℕ) → hon i ≡ true → hon (primary g (party i).rec.view) ≡ true → (party i).rec.proposal ≡ waiting x →
        OfferOf g hon log (party i).rec.view x
    pub drop : (i : ℕ) → hon i ≡ true → hon (primary g (party i).rec.view) ≡ true → (party i).rec.proposal ≡ dropped →
        (k : Keyed) × ((log (primary g (party i).rec.view)).offered (party i).rec.view ≡ Some k) × Unfit g hon log i (party i).rec.view k

  pub record Facts : Type 0 where
    pub safe : Safe
    pub prompt : (i : ℕ) → hon i ≡ true → Prompt g (party i)
    pub contents : (i : ℕ) → hon i ≡ true → Contents g (log i) (party i).rec
    pub offers : Offers
    pub rows : (i j : ℕ) → hon i ≡ true → hon j ≡ true → RowsSay i j

  -- ## What has arrived, once no message between honest parties is under way
  pub record Arrived (v : ℕ) : Type 0 where
    pub view : (i : ℕ) → hon i ≡ true → (party i).rec.view ≡ v
    pub votes : (i j kind : ℕ) → hon i ≡ true → hon j ≡ true → 5 ≤ kind → kind ≤ 9 → ((party i).rows j).vote kind ≡ said_now (party j).rec kind
    pub proofs : (i j : ℕ) → hon i ≡ true → hon j ≡ true → ((party i).rows j).proof ≡ Some (party j).rec.proof
    pub suggests : (j : ℕ) → hon j ≡ true → ((party (primary g v)).rows j).suggest ≡ Some (party j).rec.suggest
    pub proposal : (i : ℕ) (k : Keyed) → hon i ≡ true → (party (primary g v)).rec.offer ≡ Some k → ((party i).rec.proposal ≡ nothing → ⊥)

  -- dones reach whoever is still open
  abbrev pub DonesArrived : Type 0
  DonesArrived = (i j : ℕ) (x : List ℕ) → hon i ≡ true → hon j ≡ true → (party i).rec.decision ≡ None → (party j).rec.done ≡ Some x →
      ((party i).rows j).done ≡ Some x
