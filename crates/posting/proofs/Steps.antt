-- One step and then another, and a step under another name.
use Rattle.std.proofs.Common.{◌≡◌, ℕ, Bool, List, [], ◌++◌, length, sym, refl, ap, ◌∙◌, subst}
use Rattle.std.proofs.lemmas.List.{append-nil}
use Rattle.messages.specs.Messages.{Msg}
use Rattle.rules.specs.Party.{Party, Step, still, and_then}
use Rattle.posting.specs.Posting.{Takes, Does}
use Rattle.posting.proofs.Lists.{takes_first, takes_rest, posted-none}

module _ {valid : List ℕ → Bool} {width capacity : ℕ} {old : List Msg} where
  -- the posts of a step under another name are taken too
  pub takes_same : (s t : Step) → s ≡ t → Takes valid width capacity old s.posts → Takes valid width capacity old t.posts
  takes_same s t e = subst (λ x. Takes valid width capacity old x.posts) e

  -- of two steps the first
  pub takes_before : (s : Step) (next : Party → Step) → Takes valid width capacity old (and_then s next).posts → Takes valid width capacity old s.posts
  takes_before s next t = takes_first valid width capacity old s.posts (next s.after).posts t

  -- and the second, once the first is done
  pub takes_after : {capacity' r : ℕ} {mid : List Msg} (s : Step) (next : Party → Step) (p : Party) → Takes valid width capacity old (and_then s next).posts →
      Does s p old mid capacity capacity' r → Takes valid width capacity' mid (next p).posts
  takes_after {capacity'} {r} {mid} s next p t d =
      subst (λ q. Takes valid width capacity' mid (next q).posts) (sym d.party)
      (takes_rest valid width capacity capacity' old mid s.posts (next s.after).posts t d.posts.list d.posts.kept)

module _ {k k' r : ℕ} {old new : List Msg} where
  pub does_same : (s t : Step) (p : Party) → s ≡ t → Does s p old new k k' r → Does t p old new k k' r
  does_same s t p e = subst (λ x. Does x p old new k k' r) e

-- nothing is done
pub does_nothing : {k : ℕ} {old : List Msg} (p : Party) → Does (still p) p old old k k 0
does_nothing {k} {old} p = record { party = refl; posts = posted-none old old k k 0 refl refl refl }

-- a second step that posts nothing
pub does_then : {k k' r : ℕ} {old new : List Msg} (s : Step) (next : Party → Step) (p q : Party) → Does s p old new k k' r → q ≡ (next p).after → (next p).posts ≡ [] →
    Does (and_then s next) q old new k k' r
does_then {k} {k'} {r} {old} {new} s next p q d e h =
    let h' : (next s.after).posts ≡ [] = subst (λ x. (next x).posts ≡ []) d.party h in
    let l : s.posts ++ (next s.after).posts ≡ s.posts = ap (λ x. s.posts ++ x) h' ∙ append-nil s.posts in
    record {
      party = e ∙ ap (λ x. (next x).after) d.party;
      posts = record { list = d.posts.list ∙ ap (λ x. old ++ x) (sym l); answer = d.posts.answer ∙ ap length (sym l); kept = d.posts.kept };
    }
