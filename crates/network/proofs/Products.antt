-- A factor goes into a sum and into a difference, and a product keeps within the product of the limits.
use Rattle.std.proofs.Common.{◌≡◌, ℕ, suc, ◌*◌, ℤ, pos, negsuc, ◌+ℤ◌, ◌-ℤ◌, ◌*ℤ◌, neg_ℤ, ap, mul-le-mul, arith}
use lib.IntN.{*ℤ_comm, -ℤ-+ℤ_cancel}
use borrow.Author.Differences.{up, down, sum_is_lem}
use Rattle.std.proofs.lemmas.Int.{ints}
use Rattle.cost.specs.Meaning.{Between}

pub plus_times : (a b c : ℤ) → (a +ℤ b) *ℤ c ≡ a *ℤ c +ℤ b *ℤ c
plus_times a b c = omega (arith, ints, ap (λ n. n * up c) (sum_is_lem a b), ap (λ n. n * down c) (sum_is_lem a b))

pub minus_times : (a b c : ℤ) → (a -ℤ b) *ℤ c ≡ a *ℤ c -ℤ b *ℤ c
minus_times a b c = omega (arith, ints, plus_times (a -ℤ b) b c, ap (λ x. x *ℤ c) (-ℤ-+ℤ_cancel a b))

pub times_plus : (a b c : ℤ) → a *ℤ (b +ℤ c) ≡ a *ℤ b +ℤ a *ℤ c
times_plus a b c = cc (*ℤ_comm a (b +ℤ c), *ℤ_comm a b, *ℤ_comm a c, plus_times b c a)

pub times_minus : (a b c : ℤ) → a *ℤ (b -ℤ c) ≡ a *ℤ b -ℤ a *ℤ c
times_minus a b c = cc (*ℤ_comm a (b -ℤ c), *ℤ_comm a b, *ℤ_comm a c, minus_times b c a)

pub times_limit : (a b : ℤ) (c d : ℕ) → Between (neg_ℤ (pos c)) (pos c) a → Between (neg_ℤ (pos d)) (pos d) b → Between (neg_ℤ (pos (c * d))) (pos (c * d)) (a *ℤ b)
times_limit (pos a) (pos b) c d ha hb = omega (arith, ints, mul-le-mul {n₁ = a} {m₁ = b} {n₂ = c} {m₂ = d} (omega (arith, ints)) (omega (arith, ints)))
times_limit (pos a) (negsuc b) c d ha hb = omega (arith, ints, mul-le-mul {n₁ = a} {m₁ = suc b} {n₂ = c} {m₂ = d} (omega (arith, ints)) (omega (arith, ints)))
times_limit (negsuc a) (pos b) c d ha hb = omega (arith, ints, mul-le-mul {n₁ = suc a} {m₁ = b} {n₂ = c} {m₂ = d} (omega (arith, ints)) (omega (arith, ints)))
times_limit (negsuc a) (negsuc b) c d ha hb = omega (arith, ints, mul-le-mul {n₁ = suc a} {m₁ = suc b} {n₂ = c} {m₂ = d} (omega (arith, ints)) (omega (arith, ints)))
