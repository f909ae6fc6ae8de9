-- Sets of parties and tables by party. Parties are numbered from 1.
use Rattle.std.specs.Prelude.{ℕ, zero, suc, max, Bool, cond, ◌==◌}

-- how many of the parties 1 to n pass the test
abbrev pub count : (ℕ → Bool) → ℕ → ℕ
count p zero = 0
count p (suc n) = cond (p (suc n)) (suc (count p n)) (count p n)

-- the largest of a 1 to a n that passes the test, 0 where none does
abbrev pub largest : (ℕ → ℕ) → (ℕ → Bool) → ℕ → ℕ
largest a t zero = 0
largest a t (suc n) = cond (t (a (suc n))) (max (a (suc n)) (largest a t n)) (largest a t n)

-- a table with one entry changed
abbrev pub upd : {X : Type 0} → (ℕ → X) → ℕ → X → ℕ → X
upd g i x j = cond (j == i) x (g j)
