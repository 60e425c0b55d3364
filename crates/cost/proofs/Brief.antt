-- Lists of numbers of which each has at most ten digits.
use Rattle.std.proofs.Common.{ℕ, zero, suc, ◌^◌, ◌<◌, List, [], ◌∷◌, ◌++◌, length, get_or, ℤ, pos, negsuc, nat_abs, arith}
use Rattle.std.proofs.lemmas.Int.{ints}
use Rattle.cost.specs.Meaning.{Between, AllBetween}

abbrev pub Brief : List ℤ → Type 0
Brief xs = (k : ℕ) → k < length xs → nat_abs (get_or xs k (pos 0)) < 10 ^ 10

pub brief_number : (x : ℤ) → Between (negsuc 999999999) (pos 1000000000) x → nat_abs x < 10 ^ 10
brief_number (pos n) h = omega (arith, ints, h.1)
brief_number (negsuc n) h = omega (arith, ints, h.0)

pub brief_none : Brief []
brief_none k h = absurd (omega arith)

pub brief_more : (x : ℤ) (xs : List ℤ) → Between (negsuc 999999999) (pos 1000000000) x → Brief xs → Brief (x ∷ xs)
brief_more x xs one rest zero h = brief_number x one
brief_more x xs one rest (suc k) h = rest k (omega arith)

pub brief_both : (xs ys : List ℤ) → Brief xs → Brief ys → Brief (xs ++ ys)
brief_both [] ys one two k h = two k h
brief_both (x ∷ xs) ys one two zero h = one zero (omega arith)
brief_both (x ∷ xs) ys one two (suc k) h = brief_both xs ys (λ j less. one (suc j) (omega arith)) two k (omega arith)

pub brief_within : (low high : ℤ) (xs : List ℤ) → Between (negsuc 999999999) (pos 1000000000) low → Between (negsuc 999999999) (pos 1000000000) high → AllBetween low high xs → Brief xs
brief_within low high xs from to all k h =
    brief_number (get_or xs k (pos 0)) (omega (arith, ints, from.0, (all k h).0), omega (arith, ints, to.1, (all k h).1))
