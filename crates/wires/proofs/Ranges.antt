-- Every waiting message is in range.
use Rattle.std.proofs.Common.{◌≡◌, ℕ, zero, suc, Bool, true, false, cond, List, [], ◌∷◌, map, get_or, take, replicate, ap, ◌∙◌, ⊎_elim}
use Rattle.std.proofs.lemmas.List.{length-replicate}
use Rattle.std.proofs.lemmas.Bool.{and_from, eq-eqb, cases_Bool}
use Rattle.std.specs.List.{AllByRecursion as All}
use Rattle.values.proofs.Same.{equal_self}
use Rattle.messages.specs.Messages.{Msg, in_range, value_fits}
use Rattle.messages.specs.Meaning.{message}
use Rattle.messages.specs.declared.message.Message.{Message}
use Rattle.wires.specs.Wire.{fixed_request}
use Rattle.wires.specs.Table.{as_ranged, entry, entries}

module _ (valid : List ℕ → Bool) (width : ℕ) (blank : valid (replicate width 0) ≡ true) where
  blank_fits : value_fits valid width false (replicate width 0) ≡ true
  blank_fits = and_from _ _ (eq-eqb _ _ (length-replicate width 0)) (and_from _ _ blank (equal_self (replicate width 0)))

  pub fixed_ranged : in_range valid width (fixed_request width) ≡ true
  fixed_ranged = and_from _ _ blank_fits blank_fits

  pub as_ranged-ranged : (m : Msg) → in_range valid width (as_ranged valid width m) ≡ true
  as_ranged-ranged m =
      ⊎_elim (λ h. ap (λ b. in_range valid width (cond b m (fixed_request width))) h ∙ h)
      (λ h. ap (λ b. in_range valid width (cond b m (fixed_request width))) h ∙ fixed_ranged) (cases_Bool (in_range valid width m))

  -- a list of messages made one by one, each in range
  pub all_made : {A : Type 0} (f : A → Msg) → ((x : A) → in_range valid width (f x) ≡ true) → (xs : List A) → All (λ m. in_range valid width m ≡ true) (map f xs)
  all_made f h [] = tt
  all_made f h (x ∷ xs) = (h x, all_made f h xs)

  -- and the one at a place
  pub get_or-ranged : {A : Type 0} (f : A → Msg) → ((x : A) → in_range valid width (f x) ≡ true) → (xs : List A) (i : ℕ) → in_range valid width (get_or (map f xs) i (fixed_request width)) ≡ true
  get_or-ranged f h [] i = fixed_ranged
  get_or-ranged f h (x ∷ xs) zero = h x
  get_or-ranged f h (x ∷ xs) (suc i) = get_or-ranged f h xs i

  pub entry-ranged : {V : Type 0} (bytes : V → List ℕ) (table : List (Message V)) (i : ℕ) (m : Msg) → m ≡ get_or (map (entry valid width bytes) table) i (fixed_request width) → in_range valid width m ≡ true
  entry-ranged bytes table i m e = ap (in_range valid width) e ∙ get_or-ranged (entry valid width bytes) (λ x. as_ranged-ranged (message bytes x)) table i

  pub entries-ranged : {V : Type 0} (bytes : V → List ℕ) (n : ℕ) (table : List (Message V)) → All (λ m. in_range valid width m ≡ true) (entries valid width bytes n table)
  entries-ranged bytes n table = all_made (entry valid width bytes) (λ m. as_ranged-ranged (message bytes m)) (take n table)
