-- Calls one after the other.
use Rattle.std.proofs.Common.{◌≡◌, ℕ, zero, suc, ◌+◌, ◌<◌, Bool, true, false, cond, List, [], ◌∷◌, ◌++◌, map, length, get_or, take, is_err, Ok, Err, Result, sym, refl, ap, ◌∙◌, add-one, arith}
use Rattle.agreement.specs.Ring.{Kind, Ring, tables_fit}
use Rattle.agreement.specs.Calls.{Answer, said, told, refused, Plan, set_up, Gives}
use Rattle.agreement.specs.Runs.{Call, Shift, obey, call, follow, run, begun, shift}
use Rattle.agreement.proofs.Obeyed.{unfit, obeyed}
use Rattle.tables.specs.declared.refusal.Refusal.{Refusal}
use Rattle.tables.specs.Meaning.{answer_of}
use Rattle.shift.specs.Meaning.{briefly, is_refused, refusals, end_of}

-- ## One call
brief_same : (r : Result ℕ Refusal) → briefly (answer_of r) ≡ answer_of r
brief_same (Ok x) = refl
brief_same (Err x) = refl

module _ (k : Kind) (s s' : Ring) (c d : Call) (e : c ≡ d) where
  -- what a call comes to, whatever it tells
  pub called : (a : Answer) → Gives (call k s d) a s' → (briefly a ≡ briefly (call k s c).answer) × (s' ≡ (call k s c).after)
  called a g = (ap briefly (g.answer ∙ ap (λ c. (call k s c).answer) (sym e)), g.after ∙ ap (λ c. (call k s c).after) (sym e))

  pub call_answers : (r : Result ℕ Refusal) → Gives (call k s d) (answer_of r) s' → (answer_of r ≡ briefly (call k s c).answer) × (s' ≡ (call k s c).after)
  call_answers r g = let o = called (answer_of r) g in (sym (brief_same r) ∙ o.0, o.1)

-- the same over tables that fit
module _ (k : Kind) (s s' : Ring) (c d : Call) (e : c ≡ d) (fit : true ≡ tables_fit s) where
  pub comes_to : (a : Answer) → Gives (obey k s d) a s' → (briefly a ≡ briefly (call k s c).answer) × (s' ≡ (call k s c).after)
  comes_to a g = called k s s' c d e a (obeyed k s d a s' fit g)

  pub answers : (r : Result ℕ Refusal) → Gives (obey k s d) (answer_of r) s' → (answer_of r ≡ briefly (call k s c).answer) × (s' ≡ (call k s c).after)
  answers r g = let o = comes_to (answer_of r) g in (sym (brief_same r) ∙ o.0, o.1)

-- a call is refused exactly where the code's answer is an error
err_refused : (r : Result ℕ Refusal) → is_err r ≡ is_refused (answer_of r)
err_refused (Ok x) = refl
err_refused (Err x) = refl

brief_refused : (a : Answer) → is_refused (briefly a) ≡ is_refused a
brief_refused (said x) = refl
brief_refused (told x) = refl
brief_refused (refused x) = refl

pub refused_so : (r : Result ℕ Refusal) (a : Answer) → answer_of r ≡ briefly a → is_err r ≡ is_refused a
refused_so r a e = err_refused r ∙ (ap is_refused e ∙ brief_refused a)

-- ## One call more
take_next : {X Y : Type 0} (f : X → Y) (xs : List X) (i : ℕ) (x : X) → i < length xs → x ≡ get_or xs i x → take (suc i) (map f xs) ≡ take i (map f xs) ++ (f x ∷ [])
take_next f [] i x h e = absurd (omega arith)
take_next f (y ∷ xs) zero x h e = ap (λ z. f z ∷ []) (sym e)
take_next f (y ∷ xs) (suc i) x h e = ap (λ l. f y ∷ l) (take_next f xs i x (omega arith) e)

module _ (k : Kind) where
  end_more : (s : Ring) (cs : List Call) (c : Call) → end_of k s (cs ++ (c ∷ [])) ≡ (call k (end_of k s cs) c).after
  end_more s [] c = refl
  end_more s (d ∷ cs) c = end_more (call k s d).after cs c

  cond_suc : (b : Bool) (x : ℕ) → cond b (suc (suc x)) (suc x) ≡ suc (cond b (suc x) x)
  cond_suc true x = refl
  cond_suc false x = refl

  refusals_yes : (s : Ring) (cs : List Call) (c : Call) → is_refused (call k (end_of k s cs) c).answer ≡ true → refusals k s (cs ++ (c ∷ [])) ≡ suc (refusals k s cs)
  refusals_yes s [] c e = ap (λ b. cond b 1 0) e
  refusals_yes s (d ∷ cs) c e =
      let r = refusals_yes (call k s d).after cs c e in
      let b = is_refused (call k s d).answer in
      ap (λ x. cond b (suc x) x) r ∙ cond_suc b (refusals k (call k s d).after cs)

  refusals_no : (s : Ring) (cs : List Call) (c : Call) → is_refused (call k (end_of k s cs) c).answer ≡ false → refusals k s (cs ++ (c ∷ [])) ≡ refusals k s cs
  refusals_no s [] c e = ap (λ b. cond b 1 0) e
  refusals_no s (d ∷ cs) c e = ap (λ x. cond (is_refused (call k s d).answer) (suc x) x) (refusals_no (call k s d).after cs c e)

  module _ {X : Type 0} (f : X → Call) (s : Ring) (xs : List X) (i : ℕ) (x : X) (h : i < length xs) (e : x ≡ get_or xs i x) where
    next : take (i + 1) (map f xs) ≡ take i (map f xs) ++ (f x ∷ [])
    next = ap (λ j. take j (map f xs)) (add-one i) ∙ take_next f xs i x h e

    pub end_next : (t s' : Ring) → t ≡ end_of k s (take i (map f xs)) → s' ≡ (call k t (f x)).after → s' ≡ end_of k s (take (i + 1) (map f xs))
    end_next t s' inv q =
        q ∙ (ap (λ t. (call k t (f x)).after) inv ∙ (sym (end_more s (take i (map f xs)) (f x)) ∙ ap (end_of k s) (sym next)))

    pub count_next : (t : Ring) (m m' : ℕ) → t ≡ end_of k s (take i (map f xs)) → m ≡ refusals k s (take i (map f xs)) → is_refused (call k t (f x)).answer ≡ true → m' ≡ m + 1 →
        m' ≡ refusals k s (take (i + 1) (map f xs))
    count_next t m m' inv c y q =
        q ∙ (add-one m ∙ (ap suc c ∙ (sym (refusals_yes s (take i (map f xs)) (f x) (ap (λ t. is_refused (call k t (f x)).answer) (sym inv) ∙ y)) ∙ ap (refusals k s) (sym next))))

    pub count_kept : (t : Ring) (m m' : ℕ) → t ≡ end_of k s (take i (map f xs)) → m ≡ refusals k s (take i (map f xs)) → is_refused (call k t (f x)).answer ≡ false → m' ≡ m →
        m' ≡ refusals k s (take (i + 1) (map f xs))
    count_kept t m m' inv c y q =
        q ∙ (c ∙ (sym (refusals_no s (take i (map f xs)) (f x) (ap (λ t. is_refused (call k t (f x)).answer) (sym inv) ∙ y)) ∙ ap (refusals k s) (sym next)))

  -- the ring of a run
  run-ring : (h : Shift) (cs : List Call) → (run k h cs).ring ≡ end_of k h.ring cs
  run-ring h [] = refl
  run-ring h (c ∷ cs) = run-ring (follow k h (call k h.ring c)) cs

  pub shift-ring : (p : Plan) (s t s' : Ring) (cs : List Call) → t ≡ (set_up k p s).after → s' ≡ end_of k t cs → s' ≡ (shift k p s cs).ring
  shift-ring p s t s' cs e q = q ∙ (ap (λ t. end_of k t cs) e ∙ sym (run-ring (begun k p s) cs))

-- ## Tables that do not fit
module _ (k : Kind) (s : Ring) (h : false ≡ tables_fit s) where
  -- each call is refused
  pub all_refused : (cs : List Call) → refusals k s cs ≡ length cs
  all_refused [] = refl
  all_refused (c ∷ cs) =
      let g = unfit k s c s h refl in
      ap (λ a. cond (is_refused a) (suc (refusals k (call k s c).after cs)) (refusals k (call k s c).after cs)) (sym g.answer) ∙
      ap suc (ap (λ t. refusals k t cs) (sym g.after) ∙ all_refused cs)

  -- and changes nothing
  pub none_changed : (cs : List Call) → end_of k s cs ≡ s
  none_changed [] = refl
  none_changed (c ∷ cs) = ap (λ t. end_of k t cs) (sym (unfit k s c s h refl).after) ∙ none_changed cs
