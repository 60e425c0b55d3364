-- The laws of a number that counts only under a condition.
use Rattle.std.proofs.Common.{◌≡◌, Bool, true, false, not, ◌&&◌, ℤ, pos, ◌-ℤ◌, ◌*ℤ◌, ◌≤ℤ◌, refl, arith}
use lib.IntN.{*ℤ-zero}
use Rattle.std.proofs.lemmas.Int.{ints}
use Rattle.network.specs.Sums.{counted}

pub counted_none : (b : Bool) → counted b (pos 0) ≡ pos 0
counted_none true = refl
counted_none false = refl

pub counted_same : (b : Bool) (x y : ℤ) → (b ≡ true → x ≡ y) → counted b x ≡ counted b y
counted_same true x y same = same refl
counted_same false x y same = refl

pub counted_order : (b : Bool) (x y : ℤ) → (b ≡ true → x ≤ℤ y) → counted b x ≤ℤ counted b y
counted_order true x y order = order refl
counted_order false x y order = omega (arith, ints)

pub counted_minus : (b : Bool) (x y : ℤ) → counted b (x -ℤ y) ≡ counted b x -ℤ counted b y
counted_minus true x y = refl
counted_minus false x y = refl

pub times_counted : (x : ℤ) (b : Bool) (y : ℤ) → x *ℤ counted b y ≡ counted b (x *ℤ y)
times_counted x true y = refl
times_counted x false y = *ℤ-zero x

-- a set as weights, 1 within it and 0 outside: the weight at the tail less the weight at the head, times a number
pub across : (tail head : Bool) (x : ℤ) → (counted tail (pos 1) -ℤ counted head (pos 1)) *ℤ x ≡ counted (tail && not head) x -ℤ counted (head && not tail) x
across true true x = omega (arith, ints)
across true false x = omega (arith, ints)
across false true x = omega (arith, ints)
across false false x = omega (arith, ints)
