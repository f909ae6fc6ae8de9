-- What a party keeps are values, so a wire with enough room takes every post of a step.
use Rattle.std.proofs.Common.{◌≡◌, ℕ, zero, suc, ◌+◌, ◌≤◌, Bool, true, false, ◌&&◌, leb, List, [], ◌∷◌, map, length, get_or, Some, None, Option, refl, ap, ◌∙◌, arith, eq-eqb, leb-true}
use Rattle.std.specs.Option.{option_map}
use Rattle.std.specs.List.{AllByRecursion as All}
use Rattle.std.proofs.ByRecursion.{All-weaker}
use Rattle.messages.specs.Messages.{Msg, in_range, between}
use Rattle.rules.specs.Party as model
use Rattle.rules.specs.Bounds.{every}
use Rattle.rules.specs.Facts.{OwnPost, most_posts, is_value, offer_value, proposal_value, stored_value, values_fit}
use Rattle.rules.specs.Step.{empty_row}
use Rattle.rows.specs.declared.keys.Keyed.{Keyed}
use Rattle.rows.specs.declared.keys.Suggest.{Suggest}
use Rattle.rows.specs.declared.record.Proposal.{Proposal}
use Rattle.rows.specs.declared.record.Proposal.TheVariants.{Nothing, Waiting, Echoed, Dropped}
use Rattle.rows.specs.declared.record.Record.{Record}
use Rattle.rows.specs.declared.row.Row.{Row}
use Rattle.rows.specs.Meaning.{keyed_of, suggest_of, proposal_of, row_of, rows_of, party_of}
use Rattle.posting.specs.Posting.{Takes}

both : {a b : Bool} → a ≡ true → b ≡ true → (a && b) ≡ true
both {a} {b} e f = ap (λ x. x && b) e ∙ f

module _ {V : Type 0} (bytes : V → List ℕ) (valid : List ℕ → Bool) (width : ℕ) (sized : (v : V) → length (bytes v) ≡ width) (sound : (v : V) → valid (bytes v) ≡ true) where
  a_value : (v : V) → is_value valid width (bytes v) ≡ true
  a_value v = both (eq-eqb (length (bytes v)) width (sized v)) (both (sound v) refl)

  an_offer : (o : Option (Keyed V)) → offer_value valid width (option_map (keyed_of bytes) o) ≡ true
  an_offer None = refl
  an_offer (Some k) = a_value k.value

  a_proposal : (s : Proposal V) → proposal_value valid width (proposal_of bytes s) ≡ true
  a_proposal Nothing = refl
  a_proposal (Waiting v) = a_value v
  a_proposal (Echoed v) = a_value v
  a_proposal Dropped = refl

  a_stored : (o : Option (Suggest V)) → stored_value valid width (option_map (suggest_of bytes) o) ≡ true
  a_stored None = refl
  a_stored (Some s) = a_value s.key3.value

  at_place : (rs : List (Row V)) (i : ℕ) → stored_value valid width (get_or (map (row_of bytes) rs) i empty_row).suggest ≡ true
  at_place [] i = refl
  at_place (r ∷ rs) zero = a_stored r.suggest
  at_place (r ∷ rs) (suc i) = at_place rs i

  by_sender : (rs : List (Row V)) (j : ℕ) → stored_value valid width (rows_of bytes rs j).suggest ≡ true
  unfolding rows_of
  by_sender rs zero = refl
  by_sender rs (suc i) = at_place rs i

  all_stored : (rs : List (Row V)) (n : ℕ) → every (λ j. stored_value valid width (rows_of bytes rs j).suggest) n ≡ true
  all_stored rs zero = refl
  all_stored rs (suc n) = both (by_sender rs (suc n)) (all_stored rs n)

  pub all_values : (own : Record V) (rs : List (Row V)) (n : ℕ) → values_fit valid width n (party_of bytes own rs) ≡ true
  all_values own rs n =
      both
      (both (both (a_value own.key1.value) (both (a_value own.key2.value) (both (a_value own.key3.value) (a_value own.lock.value))))
      (both (a_value own.suggest.key3.value) (both (a_value own.suggest.key2.value) (both (a_value own.proof.key1.value)
      (both (an_offer own.offer) (a_proposal own.proposal))))))
      (all_stored rs n)

-- with room for as many as a step may post, a wire takes those of the party's own
pub takes_own : (valid : List ℕ → Bool) (g : model.Setting) (me capacity : ℕ) (old posts : List Msg) → g.n ≤ 64 → All (OwnPost valid g me) posts → length posts ≤ most_posts g.n →
    length old + most_posts g.n ≤ capacity → Takes valid g.width capacity old posts
takes_own valid g me capacity old posts h a f r =
    record {
      ranged = All-weaker (OwnPost valid g me) (λ m. in_range valid g.width m ≡ true) (λ m o. o.range) posts a;
      room = omega (arith, f, r);
      few = omega (arith, f, h);
    }

-- the kind of a message in range
first_part : (a b : Bool) → (a && b) ≡ true → a ≡ true
first_part true b h = refl
first_part false b h = h

later_part : (a b : Bool) → (a && b) ≡ true → b ≡ true
later_part true b h = h
later_part false true h = refl
later_part false false h = h

pub kind-low : (valid : List ℕ → Bool) (width : ℕ) (m : Msg) → in_range valid width m ≡ true → 1 ≤ m.kind
kind-low valid width m h = leb-true 1 m.kind (first_part (leb 1 m.kind) (leb m.kind 11) (first_part (between 1 11 m.kind) _ h))

pub kind-high : (valid : List ℕ → Bool) (width : ℕ) (m : Msg) → in_range valid width m ≡ true → m.kind ≤ 11
kind-high valid width m h = leb-true m.kind 11 (later_part (leb 1 m.kind) (leb m.kind 11) (first_part (between 1 11 m.kind) _ h))
