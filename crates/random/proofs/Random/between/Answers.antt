-- The number drawn lies below the count of numbers from the one to the other.
use Rattle.std.proofs.Common.{pos, ◌+ℤ◌, ◌-ℤ◌, arith, w64, SFits}
use Rattle.std.proofs.lemmas.Int.{ints, to_z-of_z}
use Rattle.random.proofs.Random.between.Goals as goal

pub overflow_add-result : goal.overflow_add-result
overflow_add-result c = let low = c.ranges.low in let high = c.ranges.high in omega (arith, ints, c.below.ensures.limit)

pub returns : goal.returns
returns c =
    let low = c.ranges.low in
    let high = c.ranges.high in
    let apart : SFits w64 (c.args.high -ℤ c.args.low) = omega (arith, ints) in
    let many : SFits w64 (c.args.high -ℤ c.args.low +ℤ pos 1) = omega (arith, ints) in
    let drawn = simp to_z-of_z at c.below.ensures.value in
    record {
      state = c.below.ensures.state;
      value = omega (arith, ints, drawn);
      low = omega (arith, ints, c.below.ensures.limit);
      high = omega (arith, ints, c.below.ensures.limit);
    }
