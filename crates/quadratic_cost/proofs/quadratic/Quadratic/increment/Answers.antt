use Rattle.std.proofs.Common.{ℤ, pos, ◌+ℤ◌, ◌*ℤ◌, arith, w64, SFits}
use Rattle.std.proofs.lemmas.Int.{ints, to_z-of_z}
use Rattle.quadratic_cost.specs.Squares.{Fit, numbers_fit, product_limit}
use Rattle.cost.specs.Meaning.{Between}
use Rattle.quadratic_cost.proofs.quadratic.Quadratic.increment.Goals as goal

-- each number on the way to an increment fits
record Steps (a b x : ℤ) : Type 0 where
  first : SFits w64 a
  square : SFits w64 b
  twice : SFits w64 (pos 2 *ℤ b)
  product : SFits w64 (pos 2 *ℤ b *ℤ x)
  sum : SFits w64 (a +ℤ pos 2 *ℤ b *ℤ x)

steps : (a b c x : ℤ) → Fit a b c → Between (pos 0) (pos 10000) x → Steps a b x
steps a b c x fit within' =
    let limit = product_limit b x fit.b_limit within' in
    record {
      first = omega (arith, ints, fit.a_limit);
      square = omega (arith, ints, fit.b_limit);
      twice = omega (arith, ints, fit.b_limit);
      product = omega (arith, ints, limit);
      sum = omega (arith, ints, limit, fit.a_limit);
    }

pub overflow_add-result : goal.overflow_add-result
overflow_add-result c =
    let q = c.args.self in
    let s = steps q.a q.b q.c c.args.load (numbers_fit q.a q.b q.c c.requires.numbers) c.requires.load in
    simp (to_z-of_z, s.first, s.square, s.twice, s.product, c.ranges.load) s.sum

pub returns : goal.returns
returns c =
    let q = c.args.self in
    let s = steps q.a q.b q.c c.args.load (numbers_fit q.a q.b q.c c.requires.numbers) c.requires.load in
    simp (to_z-of_z, s.first, s.square, s.twice, s.product, s.sum, c.ranges.load)
