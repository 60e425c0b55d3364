-- Sums, counts and least values over the indices from 0 on.
use Rattle.std.specs.Prelude.{ℕ, zero, suc, ◌+◌, Bool, cond, ℤ, pos, ◌+ℤ◌}
use Rattle.std.specs.Int.{int_min}

-- The sum f 0 + f 1 + .. + f (n - 1).
abbrev pub sum : ℕ → (ℕ → ℤ) → ℤ
sum zero f = pos 0
sum (suc n) f = sum n f +ℤ f n

-- The least of f 0, f 1, .., f n.
abbrev pub least_of : ℕ → (ℕ → ℤ) → ℤ
least_of zero f = f 0
least_of (suc n) f = int_min (least_of n f) (f (suc n))

-- A number that counts only where the condition holds, and is 0 elsewhere.
abbrev pub counted : Bool → ℤ → ℤ
counted condition x = cond condition x (pos 0)

-- How many of the first n indices pass a test.
abbrev pub count : ℕ → (ℕ → Bool) → ℕ
count zero test = 0
count (suc n) test = count n test + cond (test n) 1 0
