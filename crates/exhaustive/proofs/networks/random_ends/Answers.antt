-- All numbers at hand are small.
use Rattle.std.proofs.Common.{arith}
use Rattle.std.proofs.lemmas.Int.{ints}
use Rattle.exhaustive.proofs.networks.random_ends.Goals as goal

pub overflow_sub-result : goal.overflow_sub-result
overflow_sub-result c = omega (arith, ints, c.between-tail.ensures.low, c.between-tail.ensures.high, c.between-shift.ensures.low, c.between-shift.ensures.high)
