-- A loop that gathers a sum term by term, in 64 bits.
use Rattle.std.proofs.Common.{◌≡◌, ℕ, ◌+◌, ℤ, pos, ◌+ℤ◌, neg_ℤ, arith, w64, SFits}
use Rattle.std.proofs.lemmas.Int.{ints}
use Rattle.cost.specs.Meaning.{Between}

-- the next term and the sum with it fit, and that is the sum one further
pub record Gathers (so_far : ℕ → ℤ) (n : ℕ) (term : ℤ) : Type 0 where
  pub term_fits : SFits w64 term
  pub sum_fits : SFits w64 (so_far n +ℤ term)
  pub next : so_far (n + 1) ≡ so_far n +ℤ term

-- a sum far from the limits of 64 bits
abbrev pub Moderate : ℤ → Type 0
Moderate x = Between (neg_ℤ (pos 1000000000000000000)) (pos 1000000000000000000) x

pub gathers : (so_far : ℕ → ℤ) (n : ℕ) (term : ℤ) → so_far (n + 1) ≡ so_far n +ℤ term → Moderate (so_far n) → Moderate (so_far (n + 1)) → Gathers so_far n term
gathers so_far n term next here there = record { term_fits = omega (arith, ints); sum_fits = omega (arith, ints); next = next }
